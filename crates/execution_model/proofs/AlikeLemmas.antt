-- Feeds, ends and next due moments are the same by other lower bounds and waits, if by these the same points are due in every state that feeds lead to.
use Rattle.std.proofs.Common.{◌≡◌, ℕ, zero, suc, List, [], ◌∷◌, ◌++◌, map, filter, length, Option, Some, None, Result, Ok, Err, refl, ap, sym, subst, ◌∙◌}
use Rattle.std.specs.Prelude.{◌↔◌, IsSome, find, if◌then◌else◌}
use Rattle.std.specs.List.{All, range_with_len}
use Rattle.std.specs.Option.{option_map_or, option_and_then}
use Rattle.net_model.specs.declared.ids.PointId.{PointId}
use Rattle.net_model.specs.Moments.{Moments, moment_of}
use Rattle.dispatch_net.specs.declared.dispatch.Conditions.{Conditions}
use Rattle.execution_model.specs.Alike.{with_lists, by_lists, GoesAlike, AnsweredAlike}
use Rattle.execution_model.specs.Execution.{Setting, points_of, is_due, acts_at, acted, time_runs, acts_while}
use Rattle.execution_model.specs.Feeds.{Execution, next_moment, moments_to, moments_before, refusal_of, completed_at, completions_taken, is_overdue, overdue_why, none_overdue, completed_in, refusal_of_moment, taken}
use Rattle.execution_model.specs.Feeds.{after_feed, IsFed, is_open, first_open, last_of, IsWhole, IsFinished, IsNextDue}
use Rattle.execution_model.specs.Streams.{Listing}
use Rattle.execution_model.specs.Timely.{fed_all}
use Rattle.execution_model.specs.declared.feed_answers.Act.{Act}
use Rattle.execution_model.specs.declared.feed_answers.Why.{Why}
use Rattle.execution_model.specs.declared.feed_answers.Fed.{Fed}
use Rattle.execution_model.specs.declared.feed_answers.Fed.TheVariants as fed
use Rattle.execution_model.specs.declared.feed_answers.Finished.{Finished}
use Rattle.execution_model.specs.declared.feed_answers.Finished.TheVariants as finished
use Rattle.execution_model.proofs.FedLemmas.{fed_on}
use Rattle.execution_model.proofs.MomentLemmas.{length-acted}

-- ---- completions and refusals look at the links alone
abbrev pub settled : Setting → (moment : ℕ) → Result Moments Why → Result Moments Why
settled by_what moment (Ok moments) = none_overdue by_what moment moments
settled by_what moment (Err why) = Err why

module _ (setting : Setting) (lists : List Conditions) (count : length lists ≡ length setting.dispatch) where
  abbrev other : Setting
  other = with_lists lists setting

  pub same_points : points_of other ≡ points_of setting
  same_points = ap (λ (n : ℕ). map (λ k. let p : PointId = record { 0 = k } in p) (range_with_len 0 n)) count

  same_completions : (listed : List PointId) (moments : Moments) (moment : ℕ) → completions_taken other moments moment listed ≡ completions_taken setting moments moment listed
  same_completions [] moments moment = refl
  same_completions (point ∷ others) moments moment = ap (option_map_or Err (refusal_of setting moments moment point)) (same_completions others (completed_at moments moment point) moment)

  same_overdue : (moment : ℕ) (moments : Moments) → none_overdue other moment moments ≡ none_overdue setting moment moments
  same_overdue moment moments =
      ap (λ (ps : List PointId). option_map_or Err (option_and_then (overdue_why setting moments) (find (is_overdue setting moments moment) ps)) (Ok moments)) same_points

  same_settled : (moment : ℕ) (r : Result Moments Why) → settled other moment r ≡ settled setting moment r
  same_settled moment (Ok moments) = same_overdue moment moments
  same_settled moment (Err why) = refl

-- ---- acts
-- by other lists the same points are due in each state of a kind, and acts lead from such a state to such a state
pub record AreDueAlike (setting : Setting) (lists : List Conditions) (Holds : Moments → Type 0) : Type 0 where
  pub count : length lists ≡ length setting.dispatch
  pub due : (moments : Moments) → Holds moments → (t : ℕ) (point : PointId) → is_due (with_lists lists setting) moments t point ≡ is_due setting moments t point
  pub acted : (moments : Moments) → Holds moments → length moments ≡ length setting.dispatch → (t : ℕ) → Holds (acted setting moments t)

module _ (setting : Setting) (lists : List Conditions) (Holds : Moments → Type 0) (alike : AreDueAlike setting lists Holds) where
  module _ (moments : Moments) (holds : Holds moments) where
    same_due : (t : ℕ) → is_due (with_lists lists setting) moments t ≡ is_due setting moments t
    same_due t = λ i point. alike.due moments holds t point i

    same_acts : (t : ℕ) → acts_at (with_lists lists setting) moments t ≡ acts_at setting moments t
    same_acts t = λ i. map (λ point. let act : Act = record { moment = t; point = point } in act) (filter (same_due t i) (same_points setting lists alike.count i))

    same_acted : (t : ℕ) → acted (with_lists lists setting) moments t ≡ acted setting moments t
    same_acted t = λ i. map (λ point. if same_due t i point then Some t else moment_of moments point) (same_points setting lists alike.count i)

  pub same_time : (count : ℕ) (moments : Moments) (t : ℕ) → Holds moments → length moments ≡ length setting.dispatch
      → time_runs (with_lists lists setting) moments t count ≡ time_runs setting moments t count
  same_time zero moments t holds long = refl
  same_time (suc count) moments t holds long =
      ap (λ (m : Moments). time_runs (with_lists lists setting) m (suc t) count) (same_acted moments holds t)
      ∙ same_time count (acted setting moments t) (suc t) (alike.acted moments holds long t) (length-acted setting moments t)

  same_while : (count : ℕ) (moments : Moments) (t : ℕ) → Holds moments → length moments ≡ length setting.dispatch
      → acts_while (with_lists lists setting) moments t count ≡ acts_while setting moments t count
  same_while zero moments t holds long = refl
  same_while (suc count) moments t holds long =
      let rest = ap (λ (m : Moments). acts_while (with_lists lists setting) m (suc t) count) (same_acted moments holds t)
      ∙ same_while count (acted setting moments t) (suc t) (alike.acted moments holds long t) (length-acted setting moments t) in
      λ i. same_acts moments holds t i ++ rest i

-- ---- an execution
-- an execution of a state of a kind, from which feeds that are taken lead to such states
pub record IsAlike (lists : List Conditions) (Holds : Moments → Type 0) (execution : Execution) : Type 0 where
  pub due : AreDueAlike execution.setting lists Holds
  pub holds : Holds execution.moments
  pub long : length execution.moments ≡ length execution.setting.dispatch
  pub takes : (moment : ℕ) (listed : List PointId) (moments : Moments) → taken execution moment listed ≡ Ok moments → Holds moments

module _ (lists : List Conditions) (Holds : Moments → Type 0) (execution : Execution) (alike : IsAlike lists Holds execution) where
  abbrev made : Setting
  made = execution.setting

  same_before : (moment : ℕ) → moments_before (by_lists lists execution) moment ≡ moments_before execution moment
  same_before moment = same_time made lists Holds alike.due (moments_to execution moment) execution.moments (next_moment execution) alike.holds alike.long

  same_completed : (moment : ℕ) (listed : List PointId) → completed_in (by_lists lists execution) moment listed ≡ completed_in execution moment listed
  same_completed moment listed =
      ap (λ (m : Moments). settled (with_lists lists made) moment (completions_taken (with_lists lists made) m moment listed)) (same_before moment)
      ∙ ap (settled (with_lists lists made) moment) (same_completions made lists alike.due.count listed (moments_before execution moment) moment)
      ∙ same_settled made lists alike.due.count moment (completions_taken made (moments_before execution moment) moment listed)

  same_taken : (moment : ℕ) (listed : List PointId) → taken (by_lists lists execution) moment listed ≡ taken execution moment listed
  same_taken moment listed = ap (option_map_or Err (refusal_of_moment execution moment)) (same_completed moment listed)

  same_after : (moment : ℕ) (moments : Moments) → Holds moments → after_feed (by_lists lists execution) moment moments ≡ by_lists lists (after_feed execution moment moments)
  same_after moment moments now =
      λ i. record (by_lists lists execution) {
        moments = same_acted made lists Holds alike.due moments now moment i;
        last = Some moment;
        acts = same_while made lists Holds alike.due (moments_to execution moment) execution.moments (next_moment execution) alike.holds alike.long i
            ++ same_acts made lists Holds alike.due moments now moment i;
      }

  abbrev feeds : Execution → (moment : ℕ) → Fed → Execution → Result Moments Why → Type 0
  feeds e moment answer after (Ok moments) = (answer ≡ fed.Acts) × (after ≡ after_feed e moment moments)
  feeds e moment answer after (Err cause) = (answer ≡ fed.Refused cause) × (after ≡ record e { refused = Some cause })

  abbrev feeds_on : Execution → (moment : ℕ) → Fed → Execution → Result Moments Why → Option Why → Type 0
  feeds_on e moment answer after r (Some cause) = (answer ≡ fed.Ended cause) × (after ≡ e)
  feeds_on e moment answer after r None = feeds e moment answer after r

  same_feeds : (moment : ℕ) (listed : List PointId) (answer : Fed) (after : Execution) (r : Result Moments Why) → taken execution moment listed ≡ r → feeds execution moment answer after r
      → feeds (by_lists lists execution) moment answer (by_lists lists after) r
  same_feeds moment listed answer after (Ok moments) is (acts, leads) =
      (acts, ap (by_lists lists) leads ∙ sym (same_after moment moments (alike.takes moment listed moments is)))
  same_feeds moment listed answer after (Err cause) is (refused, leads) = (refused, ap (by_lists lists) leads)

  same_feeds_on : (moment : ℕ) (listed : List PointId) (answer : Fed) (after : Execution) (o : Option Why) → feeds_on execution moment answer after (taken execution moment listed) o
      → feeds_on (by_lists lists execution) moment answer (by_lists lists after) (taken (by_lists lists execution) moment listed) o
  same_feeds_on moment listed answer after (Some cause) (ended, leads) = (ended, ap (by_lists lists) leads)
  same_feeds_on moment listed answer after None feeds_it =
      subst (λ (r : Result Moments Why). feeds (by_lists lists execution) moment answer (by_lists lists after) r) (sym (same_taken moment listed))
      (same_feeds moment listed answer after (taken execution moment listed) refl feeds_it)

  same_fed : (moment : ℕ) (listed : List PointId) (answer : Fed) (after : Execution) → IsFed execution moment listed answer after
      → IsFed (by_lists lists execution) moment listed answer (by_lists lists after)
  same_fed moment listed answer after feeds_it = same_feeds_on moment listed answer after execution.refused feeds_it

  -- ---- the end
  same_whole : (after : Execution) → IsWhole execution after → IsWhole (by_lists lists execution) (by_lists lists after)
  same_whole after whole =
      let times = same_time made lists Holds alike.due whole.count execution.moments (next_moment execution) alike.holds alike.long in
      let acts = same_while made lists Holds alike.due whole.count execution.moments (next_moment execution) alike.holds alike.long in
      record {
        count = whole.count;
        long = whole.long ∙ sym alike.due.count;
        come = subst (All IsSome) (sym times) whole.come;
        after_it = ap (by_lists lists) whole.after_it
            ∙ (λ i. record (by_lists lists execution) { moments = sym times i; last = last_of execution.last (sym acts i); acts = sym acts i });
      }

  abbrev ends : Execution → Finished → Execution → Option PointId → Type 0
  ends e answer after (Some point) = (answer ≡ finished.Unfinished point) × (after ≡ e)
  ends e answer after None = (answer ≡ finished.Complete) × IsWhole e after

  abbrev ends_on : Execution → Finished → Execution → Option PointId → Option Why → Type 0
  ends_on e answer after pending (Some cause) = (answer ≡ finished.Ended cause) × (after ≡ e)
  ends_on e answer after pending None = ends e answer after pending

  same_ends : (answer : Finished) (after : Execution) (pending : Option PointId) → ends execution answer after pending → ends (by_lists lists execution) answer (by_lists lists after) pending
  same_ends answer after (Some point) (unfinished, leads) = (unfinished, ap (by_lists lists) leads)
  same_ends answer after None (complete, whole) = (complete, same_whole after whole)

  same_open : first_open (by_lists lists execution) ≡ first_open execution
  same_open = ap (λ (ps : List PointId). find (is_open made execution.moments) ps) (same_points made lists alike.due.count)

  same_ends_on : (answer : Finished) (after : Execution) (o : Option Why) → ends_on execution answer after (first_open execution) o
      → ends_on (by_lists lists execution) answer (by_lists lists after) (first_open (by_lists lists execution)) o
  same_ends_on answer after (Some cause) (ended, leads) = (ended, ap (by_lists lists) leads)
  same_ends_on answer after None ends_it =
      subst (λ (o : Option PointId). ends (by_lists lists execution) answer (by_lists lists after) o) (sym same_open) (same_ends answer after (first_open execution) ends_it)

  same_finished : (answer : Finished) (after : Execution) → IsFinished execution answer after → IsFinished (by_lists lists execution) answer (by_lists lists after)
  same_finished answer after ends_it = same_ends_on answer after execution.refused ends_it

  -- ---- what is due next
  acts_here : (t : ℕ) → acts_at (with_lists lists made) execution.moments t ≡ acts_at made execution.moments t
  acts_here t = same_acts made lists Holds alike.due execution.moments alike.holds t

  same_next : (due : Option ℕ) → IsNextDue (by_lists lists execution) due ↔ IsNextDue execution due
  same_next None = (λ none t from. sym (acts_here t) ∙ none t from, λ none t from. acts_here t ∙ none t from)
  same_next (Some due) = (
    λ is. (is.0, (λ t from below. sym (acts_here t) ∙ is.1 t from below), λ none. is.2 (acts_here due ∙ none)),
    λ is. (is.0, (λ t from below. acts_here t ∙ is.1 t from below), λ none. is.2 (sym (acts_here due) ∙ none)),
  )

  pub goes_alike : GoesAlike lists execution
  goes_alike = record { acts = acts_here; taken = same_taken; fed = same_fed; next_due = same_next; finished = same_finished }

-- ---- several feeds
-- executions of a kind: each is alike, and feeds that are taken lead to such
pub record StayAlike (lists : List Conditions) (Holds : Moments → Type 0) (Reached : Execution → Type 0) : Type 0 where
  pub alike : (execution : Execution) → Reached execution → IsAlike lists Holds execution
  pub fed : (execution : Execution) → Reached execution → (moment : ℕ) (listed : List PointId) (moments : Moments) → taken execution moment listed ≡ Ok moments
      → Reached (after_feed execution moment moments)

module _ (lists : List Conditions) (Holds : Moments → Type 0) (Reached : Execution → Type 0) (stay : StayAlike lists Holds Reached) where
  pub answered_alike : (listings : List Listing) (execution : Execution) → Reached execution → AnsweredAlike lists (by_lists lists execution) listings (fed_all execution listings)
  answered_alike [] execution reached = (refl, goes_alike lists Holds execution (stay.alike execution reached))
  answered_alike (listing ∷ others) execution reached =
      by (taken execution listing.moment listing.points) refl (λ next next_reached. answered_alike others next next_reached)
    where
      alike : IsAlike lists Holds execution
      alike = stay.alike execution reached

      as_before : (r : Result Moments Why) → taken execution listing.moment listing.points ≡ r → taken (by_lists lists execution) listing.moment listing.points ≡ r
      as_before r is = same_taken lists Holds execution alike listing.moment listing.points ∙ is

      by : (r : Result Moments Why) → taken execution listing.moment listing.points ≡ r
          → ((next : Execution) → Reached next → AnsweredAlike lists (by_lists lists next) others (fed_all next others))
          → AnsweredAlike lists (by_lists lists execution) (listing ∷ others) (fed_all execution (listing ∷ others))
      by (Ok moments) is rest =
          let next : Execution = after_feed execution listing.moment moments in
          let goes : AnsweredAlike lists (by_lists lists next) others (fed_all next others) = rest next (stay.fed execution reached listing.moment listing.points moments is) in
          let leads : fed_all (by_lists lists execution) (listing ∷ others) ≡ fed_all (by_lists lists next) others =
          ap (fed_on (by_lists lists execution) listing others) (as_before (Ok moments) is)
          ∙ ap (λ (e : Execution). fed_all e others) (same_after lists Holds execution alike listing.moment moments (alike.takes listing.moment listing.points moments is)) in
          subst (λ (r : Result Moments Why). AnsweredAlike lists (by_lists lists execution) (listing ∷ others) (fed_on execution listing others r)) (sym is)
          (follows (fed_all next others) leads goes)
        where
          follows : (answer : Result Execution Why) → fed_all (by_lists lists execution) (listing ∷ others) ≡ fed_all (by_lists lists (after_feed execution listing.moment moments)) others
              → AnsweredAlike lists (by_lists lists (after_feed execution listing.moment moments)) others answer
              → AnsweredAlike lists (by_lists lists execution) (listing ∷ others) answer
          follows (Ok old) leads (went, goes) = (leads ∙ went, goes)
          follows (Err why) leads went = leads ∙ went
      by (Err why) is rest =
          subst (λ (r : Result Moments Why). AnsweredAlike lists (by_lists lists execution) (listing ∷ others) (fed_on execution listing others r)) (sym is)
          (ap (fed_on (by_lists lists execution) listing others) (as_before (Err why) is))
