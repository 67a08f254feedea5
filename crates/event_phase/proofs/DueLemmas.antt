-- The next due moment of an execution is that of the schedules in which nothing completes before.
use Rattle.std.proofs.Common.{◌≡◌, ◌≢◌, ℕ, zero, suc, ◌+◌, ◌-◌, ◌<◌, ◌≤◌, ℤ, Bool, true, false, List, [], ◌∷◌, ◌++◌, length, fold, Option, Some, None, is_some, Result, Ok, Err}
use Rattle.std.proofs.Common.{refl, sym, ap, ◌∙◌, subst, arith, inl, inr}
use Rattle.std.specs.Prelude.{slice_get, ◌||◌}
use Rattle.std.specs.List.{list_all}
use Rattle.std.specs.Option.{option_map_or}
use Rattle.std.proofs.lemmas.Bool.{cases_lt, and_parts, and_from, or_cases, or_left, or_right, true≢false}
use Rattle.std.proofs.lemmas.List.Elements.{All-weaker}
use Rattle.std.proofs.lemmas.List.Sums.{AllPass-from_list_all, list_all-from_AllPass}
use Rattle.std.proofs.lemmas.Option.{none-some}
use Rattle.net_model.specs.Network.{Plan, IsPoint}
use Rattle.net_model.specs.declared.ids.PointId.{PointId}
use Rattle.net_model.specs.declared.ids.LinkId.{LinkId}
use Rattle.net_model.specs.declared.part.Link.{Link}
use Rattle.closure_model.specs.Tables.{Graph}
use Rattle.closure_model.proofs.Lists.{Contains-none}
use Rattle.strategy_model.specs.Control.{IsEarliest}
use Rattle.strategy_model.specs.Situations.{moment_in}
use Rattle.dispatch_net.specs.Dispatchable.{conditions_at}
use Rattle.dispatch_net.specs.declared.dispatch.Conditions.{Conditions}
use Rattle.dispatch_net.proofs.ExecutionLemmas.{dispatchable_length}
use Rattle.execution_model.specs.Acts.{scheduled, scheduled_at}
use Rattle.net_model.specs.Moments.{Moments, moment_of}
use Rattle.execution_model.specs.Execution.{Setting, has_come, has_gone_by, meets_bound, meets_wait_for, meets_wait, meets, is_due}
use Rattle.execution_model.specs.Execution.{acts_at, acted, time_runs, acts_while}
use Rattle.execution_model.specs.Feeds.{Execution, started, next_moment, taken, after_feed, IsDueAnswer, IsNextDue}
use Rattle.canonical_closure.specs.CanonicalClosure.{IsDispatchedByClosure}
use Rattle.execution_model.specs.Laws.{setting_of, going_on}
use Rattle.execution_model.specs.Streams.{Listing, Shows, last_moment}
use Rattle.execution_model.specs.Timely.{fed_all, with_completed}
use Rattle.execution_model.specs.declared.feed_answers.Why.{Why}
use Rattle.execution_model.proofs.ActLemmas.{acts_are, acts_while_are}
use Rattle.execution_model.proofs.CutLemmas.{IsCut, IsSeen, IsRun, came, cut_value}
use Rattle.execution_model.proofs.FittingLemmas.{IsNext, AreNext, KeepsTo, end_of, none_before, seen}
use Rattle.execution_model.proofs.LawLemmas.{run_of, fed_keeps, fed_end}
use Rattle.execution_model.proofs.LinkLemmas.{none_is_executable}
use Rattle.execution_model.proofs.MomentLemmas.{within_from_some, due_parts, due_from, no_acts_none_due, none_due_no_acts, no_acts_same}
use Rattle.execution_model.proofs.PlaceLemmas.{ending_contingent, gone_by, from_gone_by}
use Rattle.execution_model.proofs.StreamLemmas.{shows_next, next_shows}
use Rattle.execution_model.proofs.TimeLemmas.{time_cut}
use Rattle.event_phase.specs.Due.{moment_after_listings, ExecutesNone, IsDueAfter, IsFedBy, AnswersDue}
use Rattle.event_phase.proofs.EventRunLemmas.{fed_step, fed_stops}

-- ---- the first part of a stream, and its end
next_first : (net : Plan) (schedule : List ℕ) (from : ℕ) (first more : List Listing) → AreNext net schedule from (first ++ more) → AreNext net schedule from first
next_first net schedule from [] more are = tt
next_first net schedule from (listing ∷ first) more are = (are.0, next_first net schedule (listing.moment + 1) first more are.1)

pub shows_first : (net : Plan) (schedule : List ℕ) (first more : List Listing) → Shows net (going_on (first ++ more)) schedule → Shows net (going_on first) schedule
shows_first net schedule first more shows = next_shows net schedule first (next_first net schedule 0 first more (shows_next net schedule (first ++ more) shows))

next_last : (net : Plan) (schedule : List ℕ) (from : ℕ) (first : List Listing) (listing : Listing) → AreNext net schedule from (first ++ listing ∷ [])
    → IsNext net schedule (end_of from first) listing
next_last net schedule from [] listing are = are.0
next_last net schedule from (one ∷ first) listing are = next_last net schedule (one.moment + 1) first listing are.1

-- ---- the first moment that has not passed
-- the moment of the last of some listings, or the one before them
abbrev last_of : Option ℕ → List Listing → Option ℕ
last_of before listings = fold (λ before (one : Listing). Some one.moment) before listings

fed_last_by : (execution : Execution) (listing : Listing) (others : List Listing) (final : Execution) (result : Result Moments Why) → taken execution listing.moment listing.points ≡ result
    → fed_all execution (listing ∷ others) ≡ Ok final
    → ((next : Execution) → fed_all next others ≡ Ok final → final.last ≡ last_of next.last others)
    → final.last ≡ last_of (Some listing.moment) others
fed_last_by execution listing others final (Ok moments) is fed later = later (after_feed execution listing.moment moments) (sym (fed_step execution listing others moments is) ∙ fed)
fed_last_by execution listing others final (Err cause) is fed later = absurd (cc (fed_stops execution listing others cause is, fed))

fed_last_is : (listings : List Listing) (execution final : Execution) → fed_all execution listings ≡ Ok final
    → final.last ≡ last_of execution.last listings
fed_last_is [] execution final fed = let same : execution ≡ final = cc in ap (λ (e : Execution). e.last) (sym same)
fed_last_is (listing ∷ others) execution final fed =
    fed_last_by execution listing others final (taken execution listing.moment listing.points) refl fed (λ next on. fed_last_is others next final on)

next_after : (last : Option ℕ) → option_map_or (λ l. l + 1) last 0 ≡ option_map_or suc last 0
next_after None = refl
next_after (Some last) = omega arith

pub fed_moment : (listings : List Listing) (setting : Setting) (final : Execution) → fed_all (started setting) listings ≡ Ok final → next_moment final ≡ moment_after_listings listings
fed_moment listings setting final fed =
    ap (λ (last : Option ℕ). option_map_or (λ l. l + 1) last 0) (fed_last_is listings (started setting) final fed) ∙ next_after (last_moment (going_on listings))

-- ---- time in which no moment brings an act
module _ (setting : Setting) where
  none_acted : (moments : Moments) (t count : ℕ) → length moments ≡ length setting.dispatch → ((k : ℕ) → t ≤ k → k < t + count → acts_at setting moments k ≡ [])
      → (acts_while setting moments t count ≡ []) × (time_runs setting moments t count ≡ moments)
  none_acted moments t zero long none = (refl, refl)
  none_acted moments t (suc count) long none =
      let here : acts_at setting moments t ≡ [] = none t (omega arith) (omega arith) in
      let same : acted setting moments t ≡ moments = no_acts_same setting moments t long here in
      let later = none_acted moments (suc t) count long (λ k from below. none k (omega (arith, from)) (omega (arith, below))) in (
        (λ i. here i ++ acts_while setting (same i) (suc t) count) ∙ later.0,
        ap (λ (ms : Moments). time_runs setting ms (suc t) count) same ∙ later.1,
      )

-- ---- what is due is due with more moments too
module _ (setting : Setting) (moments others : Moments) (t : ℕ) (keep : (point : PointId) (m : ℕ) → moment_of moments point ≡ Some m → moment_of others point ≡ Some m) where
  come_too : (point : PointId) → has_come moments point ≡ true → has_come others point ≡ true
  come_too point come = let (m, known) = came moments point come in ap is_some (keep point m known)

  gone_too : (point : PointId) (n : ℤ) → has_gone_by moments t point n ≡ true → has_gone_by others t point n ≡ true
  gone_too point n gone = let (m, known, within) = from_gone_by moments t point n gone in gone_by others t point n m (keep point m known) within

  wait_for_too : (n : ℤ) (link : Link) → meets_wait_for moments t n link ≡ true → meets_wait_for others t n link ≡ true
  wait_for_too n link met =
      let (started_so, over) = and_parts (has_come moments link.from) (has_come moments link.to || has_gone_by moments t link.from n) met in
      and_from (has_come others link.from) (has_come others link.to || has_gone_by others t link.from n) (come_too link.from started_so)
      (elim (or_cases (has_come moments link.to) (has_gone_by moments t link.from n) over) [
        | inl completed ↦ or_left (has_come others link.to) (has_gone_by others t link.from n) (come_too link.to completed)
        | inr gone ↦ or_right (has_come others link.to) (has_gone_by others t link.from n) (gone_too link.from n gone)
      ])

  wait_too : (wait : LinkId × ℤ) → meets_wait setting moments t wait ≡ true → meets_wait setting others t wait ≡ true
  wait_too wait met = by (slice_get setting.links wait.0.0) met
    where
      by : (o : Option Link) → option_map_or (meets_wait_for moments t wait.1) o false ≡ true → option_map_or (meets_wait_for others t wait.1) o false ≡ true
      by None holds = holds
      by (Some link) holds = wait_for_too wait.1 link holds

  all_too : {X : Type 0} (test other : X → Bool) (xs : List X) → ((x : X) → test x ≡ true → other x ≡ true) → list_all test xs ≡ true → list_all other xs ≡ true
  all_too test other xs too all = list_all-from_AllPass other xs (All-weaker (λ x. test x ≡ true) (λ x. other x ≡ true) too xs (AllPass-from_list_all test xs all))

  meets_too : (conditions : Conditions) → meets setting moments t conditions ≡ true → meets setting others t conditions ≡ true
  meets_too conditions met =
      let (bounds, waits) = and_parts (list_all (meets_bound moments t) conditions.lower_bounds) (list_all (meets_wait setting moments t) conditions.waits) met in
      and_from (list_all (meets_bound others t) conditions.lower_bounds) (list_all (meets_wait setting others t) conditions.waits)
      (all_too (meets_bound moments t) (meets_bound others t) conditions.lower_bounds (λ bound. gone_too bound.0 bound.1) bounds)
      (all_too (meets_wait setting moments t) (meets_wait setting others t) conditions.waits wait_too waits)

-- what is due before the completions of a moment is due with them
module _ (net : Plan) (table : Graph) (schedule : List ℕ) (run : IsRun net table schedule) (moments seen_moments : Moments) (t : ℕ)
    (cut : IsCut net schedule moments t) (sees : IsSeen net schedule seen_moments t) where
  kept_seen : (point : PointId) (m : ℕ) → moment_of moments point ≡ Some m → moment_of seen_moments point ≡ Some m
  kept_seen point m known =
      let long = cut.long in
      let inside = within_from_some moments point m known in
      let within : IsPoint net point = omega (arith, inside, long) in
      let value = cut_value net schedule moments t cut point m within known in
      let same : moment_in schedule point ≡ m = sym value.0 in
      let before = value.1 in
      sees.known point within (omega (arith, same, before)) ∙ ap Some same

  due_seen : (point : PointId) → IsPoint net point → is_due (setting_of net table) moments t point ≡ true → is_due (setting_of net table) seen_moments t point ≡ true
  due_seen point within due =
      let (unlinked, new, met) = due_parts (setting_of net table) moments t point due in
      let executable = none_is_executable net (setting_of net table) refl run.plan point within unlinked in
      let later : t ≤ moment_in schedule point = elim (cases_lt (moment_in schedule point) t) [
        | inl before ↦ absurd (none-some (moment_in schedule point) (sym new ∙ cut.known point within before))
        | inr above ↦ above
      ] in
      due_from (setting_of net table) seen_moments t point unlinked (sees.unknown point executable later)
      (meets_too (setting_of net table) moments seen_moments t kept_seen (conditions_at (setting_of net table).dispatch point) met)

  acts_too : acts_at (setting_of net table) moments t ≢ [] → scheduled_at net schedule t ≢ []
  acts_too some empty = some (none_due_no_acts (setting_of net table) moments t (λ point inside. by point inside (is_due (setting_of net table) moments t point) refl))
    where
      by : (point : PointId) → point.0 < length (setting_of net table).dispatch → (due : Bool) → is_due (setting_of net table) moments t point ≡ due
          → is_due (setting_of net table) moments t point ≡ false
      by point inside false is = is
      by point inside true is =
          let size = dispatchable_length net table run.for in
          let seen_due = due_seen point (omega (arith, inside, size)) is in
          let none = no_acts_none_due (setting_of net table) seen_moments t (acts_are net table schedule run seen_moments t sees ∙ empty) point inside in
          absurd (true≢false (sym seen_due ∙ none))

module _ (net : Plan) (table : Graph) (order : List PointId) (by : IsDispatchedByClosure net table order) (listings : List Listing) (final : Execution)
    (fed : fed_all (started (setting_of net table)) listings ≡ Ok final) where
  there : next_moment final ≡ moment_after_listings listings
  there = fed_moment listings (setting_of net table) final fed

  module _ (moment : ℕ) (points : List PointId) (schedule situation : List ℕ) (earliest : IsEarliest net situation schedule)
      (shows : Shows net (going_on (listings ++ record { moment = moment; points = points } ∷ [])) schedule) where
    abbrev listing : Listing
    listing = record { moment = moment; points = points }

    run : IsRun net table schedule
    run = run_of net table order by.dispatched situation schedule earliest

    going : Shows net (going_on listings) schedule
    going = shows_first net schedule listings (listing ∷ []) shows

    keeps : KeepsTo net table schedule final
    keeps = fed_keeps net table order by.dispatched listings final fed schedule run going

    is_next : IsNext net schedule (next_moment final) listing
    is_next =
        subst (λ (n : ℕ). IsNext net schedule n listing) (sym (fed_end net table order by.dispatched listings final fed schedule run going))
        (next_last net schedule 0 listings listing (shows_next net schedule (listings ++ listing ∷ []) shows))

    long : length final.moments ≡ length (setting_of net table).dispatch
    long = keeps.cut.long ∙ sym (dispatchable_length net table by.dispatched.forward.for_network)

    -- if it is the first moment that brings an act, the schedule executes a point there
    executes_one : ((k : ℕ) → next_moment final ≤ k → k < moment → acts_at final.setting final.moments k ≡ []) → acts_at final.setting final.moments moment ≢ []
        → scheduled_at net schedule moment ≢ []
    executes_one none some =
        let later = is_next.later in
        let count : ℕ = moment - next_moment final in
        let end : next_moment final + count ≡ moment = omega (arith, later) in
        let quiet = none_acted (setting_of net table) final.moments (next_moment final) count long
        (λ k from below. subst (λ (s : Setting). acts_at s final.moments k ≡ []) keeps.setting (none k from (omega (arith, below, end)))) in
        let before = none_before net table schedule run (next_moment final) listing is_next in
        let cut = time_cut net table schedule run count final.moments (next_moment final) keeps.cut (λ point ending at_least below. before point ending at_least (omega (arith, below, end))) in
        let here : IsCut net schedule final.moments moment =
        subst (λ (m : ℕ). IsCut net schedule final.moments m) end (subst (λ (ms : Moments). IsCut net schedule ms (next_moment final + count)) quiet.1 cut) in
        acts_too net table schedule run final.moments (with_completed final moment points) moment here (seen net table schedule run final listing keeps is_next)
        (subst (λ (s : Setting). acts_at s final.moments moment ≢ []) keeps.setting some)

  -- if no moment up to one brings an act, a schedule in which nothing completes up to it executes none
  executes_none : (moment : ℕ) → ((k : ℕ) → next_moment final ≤ k → k ≤ moment → acts_at final.setting final.moments k ≡ []) → ExecutesNone net listings moment
  executes_none moment none schedule (situation, earliest, shows) =
      let kept = keeps moment [] schedule situation earliest shows in
      let next = is_next moment [] schedule situation earliest shows in
      let later = next.later in
      let count : ℕ = suc moment - next_moment final in
      let quiet = none_acted (setting_of net table) final.moments (next_moment final) count (long moment [] schedule situation earliest shows)
      (λ k from below. subst (λ (s : Setting). acts_at s final.moments k ≡ []) kept.setting (none k from (omega (arith, below, from, later)))) in
      let are = acts_while_are net table schedule (run moment [] schedule situation earliest shows) count final.moments (next_moment final) kept.cut
      (λ point ending at_least below. Contains-none point (next.listed point (ending_contingent net point ending) at_least (omega (arith, below, later)))) in
      subst (λ (m : ℕ). scheduled net schedule m (suc moment - m) ≡ []) there (sym are ∙ quiet.0)

  due_by : (due : Option ℕ) → IsNextDue final due → IsDueAfter net listings due
  due_by None none = λ moment. executes_none moment (λ k from up_to. none k from)
  due_by (Some due) (later, none, some) = (
    subst (λ (m : ℕ). m ≤ due) there later,
    λ moment before. executes_none moment (λ k from up_to. none k from (omega (arith, up_to, before))),
    λ points schedule goes. executes_one due points schedule goes.0 goes.1 goes.2 none some,
  )

  abbrev DueBy : Option Why → Option ℕ → Type 0
  DueBy refused due = elim refused [ Some cause ↦ due ≡ None | None ↦ IsNextDue final due ]

  -- the next due moment is due after what is listed
  pub due_after : final.refused ≡ None → (due : Option ℕ) → IsDueAnswer final due → IsDueAfter net listings due
  due_after unrefused due answer = due_by due (subst (λ (o : Option Why). DueBy o due) unrefused answer)

  -- the execution that was fed them
  pub fed_by : IsFedBy net listings final
  fed_by = record { table = table; order = order; by_closure = by; fed = fed }

  -- so it is answered
  pub due_answered : final.refused ≡ None → (due : Option ℕ) → IsDueAnswer final due → AnswersDue net listings due
  due_answered unrefused due answer = record { execution = final; fed = fed_by; answered = answer; reported = due_after unrefused due answer }
