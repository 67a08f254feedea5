-- What feeds and the end come to: their acts are those of the earliest schedule, and no strategy plays a point sooner.
use Rattle.std.proofs.Common.{◌≡◌, ℕ, zero, suc, ◌+◌, ◌-◌, ◌≤◌, ◌<◌, Bool, true, false, List, [], ◌∷◌, ◌++◌, length, map, get_or, Option, Some, None, is_some, Result, Ok, Err, inl, inr, refl, ap, sym, subst, ◌∙◌, arith}
use Rattle.std.specs.Prelude.{nat_le, if◌then◌else◌}
use Rattle.std.specs.List.{All, AllZip}
use Rattle.std.specs.Option.{option_map_or}
use Rattle.std.proofs.lemmas.Bool.{cases_lt, false≢true}
use Rattle.std.proofs.lemmas.List.{get_or-map, get_or_default, length-map}
use Rattle.std.proofs.lemmas.List.Elements.{All-nil, All-cons, All-head, All-tail}
use Rattle.std.proofs.lemmas.Option.{none-some, same_Some}
use Rattle.net_model.specs.Network.{Plan}
use Rattle.net_model.specs.declared.ids.PointId.{PointId}
use Rattle.closure_model.specs.Tables.{Graph}
use Rattle.strategy_model.specs.Control.{IsEarliest}
use Rattle.strategy_model.specs.Situations.{moment_in}
use Rattle.closure_laws.specs.Forward.{IsDispatchedForward}
use Rattle.dispatch_net.proofs.ExecutionLemmas.{dispatchable_length}
use Rattle.net_model.specs.Moments.{Moments, moment_of}
use Rattle.execution_model.specs.Execution.{Setting, time_runs, acts_while}
use Rattle.net_model.specs.Limits.{most_moment}
use Rattle.execution_model.specs.Feeds.{Execution, started, next_moment, taken, after_feed, first_open, IsWhole, IsFed, IsFinished}
use Rattle.execution_model.specs.Streams.{Listing, Stream, Shows, IsFaithful, last_moment, cut_at, fixed_by}
use Rattle.execution_model.specs.Timely.{fed_all}
use Rattle.execution_model.specs.Laws.{setting_of, IsExecutionOf, AreWithinLimit, going_on, ended}
use Rattle.execution_model.specs.Acts.{scheduled, ActsAreEarliest, LastActsAreEarliest}
use Rattle.execution_model.specs.Earliest.{NoneSooner, IsFedEarliest, IsEndedEarliest, FeedsAreEarliest, FinishesAreEarliest}
use Rattle.execution_model.specs.declared.feed_answers.Why.{Why}
use Rattle.execution_model.specs.declared.feed_answers.Fed.{Fed}
use Rattle.execution_model.specs.declared.feed_answers.Fed.TheVariants as fed
use Rattle.execution_model.specs.declared.feed_answers.Finished.{Finished}
use Rattle.execution_model.specs.declared.feed_answers.Finished.TheVariants as finished
use Rattle.execution_model.proofs.MomentLemmas.{within_from_some}
use Rattle.execution_model.proofs.TimelyLemmas.{taken_in_time}
use Rattle.execution_model.proofs.FedLemmas.{after_listing, after_all, fed_on, started_of, taken_within, same_ok, err_ok, fed_in_time}
use Rattle.execution_model.proofs.CutLemmas.{IsCut, IsRun}
use Rattle.execution_model.proofs.FittingLemmas.{IsNext, AreNext, end_of, KeepsTo}
use Rattle.execution_model.proofs.StreamLemmas.{shows_next, next_shows}
use Rattle.execution_model.proofs.ActLemmas.{acts_while_are, fed_acts}
use Rattle.execution_model.proofs.LawLemmas.{run_of, fed_keeps, fed_end, done_keeps, none_comes, end_cut, fed_faithful, law_feeds_execute_earliest, law_ends_are_earliest, law_faithful_streams_are_taken, law_done_where_none_is_open}

-- ---- lists of feeds
-- feeds in two parts
pub fed_append : (first second : List Listing) (execution middle : Execution) → fed_all execution first ≡ Ok middle → fed_all execution (first ++ second) ≡ fed_all middle second
fed_append [] second execution middle fed = ap (λ (e : Execution). fed_all e second) (same_ok execution middle fed)
fed_append (listing ∷ others) second execution middle fed =
    by (λ next went. fed_append others second next middle went) (taken execution listing.moment listing.points) fed
  where
    by : ((next : Execution) → fed_all next others ≡ Ok middle → fed_all next (others ++ second) ≡ fed_all middle second) → (r : Result Moments Why)
        → fed_on execution listing others r ≡ Ok middle → fed_on execution listing (others ++ second) r ≡ fed_all middle second
    by rest (Ok moments) went = rest (after_feed execution listing.moment moments) went
    by rest (Err cause) went = absurd (err_ok middle cause went)

-- feeds that are taken are within the limit
all_within : (listings : List Listing) (execution after : Execution) → fed_all execution listings ≡ Ok after → AreWithinLimit listings
all_within [] execution after fed = All-nil (λ (l : Listing). l.moment ≤ most_moment)
all_within (listing ∷ others) execution after fed = by (λ next went. all_within others next after went) (taken execution listing.moment listing.points) refl fed
  where
    by : ((next : Execution) → fed_all next others ≡ Ok after → AreWithinLimit others) → (r : Result Moments Why) → taken execution listing.moment listing.points ≡ r
        → fed_on execution listing others r ≡ Ok after → AreWithinLimit (listing ∷ others)
    by rest (Ok moments) is went =
        All-cons (λ (l : Listing). l.moment ≤ most_moment) listing others (taken_within execution listing.moment listing.points moments is) (rest (after_feed execution listing.moment moments) went)
    by rest (Err cause) is went = absurd (err_ok after cause went)

within_append : (listings : List Listing) (listing : Listing) → AreWithinLimit listings → listing.moment ≤ most_moment → AreWithinLimit (listings ++ listing ∷ [])
within_append listings listing within last = by listings within
  where
    by : (ls : List Listing) → AreWithinLimit ls → AreWithinLimit (ls ++ listing ∷ [])
    by [] all = All-cons (λ (l : Listing). l.moment ≤ most_moment) listing [] last (All-nil (λ (l : Listing). l.moment ≤ most_moment))
    by (l ∷ ls) all =
        All-cons (λ (l : Listing). l.moment ≤ most_moment) l (ls ++ listing ∷ []) (All-head (λ (l : Listing). l.moment ≤ most_moment) l ls all)
        (by ls (All-tail (λ (l : Listing). l.moment ≤ most_moment) l ls all))

-- feeds that are taken leave nothing refused
pub refused_after : (listings : List Listing) (execution : Execution) → (after_all execution listings).refused ≡ execution.refused
refused_after [] execution = refl
refused_after (listing ∷ others) execution = refused_after others (after_listing execution listing)

none_refused : (net : Plan) (table : Graph) (order : List PointId) (listings : List Listing) (execution : Execution) → IsDispatchedForward net table order
    → fed_all (started (setting_of net table)) listings ≡ Ok execution → execution.refused ≡ None
none_refused net table order listings execution by fed =
    let leads = (fed_in_time net listings (started (setting_of net table)) execution (started_of net table by.instant by.forward.for_network) fed).1 in
    ap (λ (e : Execution). e.refused) (sym leads) ∙ refused_after listings (started (setting_of net table))

-- what comes next, in two parts
next_parts : (net : Plan) (schedule : List ℕ) (from : ℕ) (listings : List Listing) (listing : Listing) → AreNext net schedule from (listings ++ listing ∷ [])
    → AreNext net schedule from listings × IsNext net schedule (end_of from listings) listing
next_parts net schedule from [] listing (is, are) = (tt, is)
next_parts net schedule from (first ∷ others) listing (is, are) =
    let (before, last) = next_parts net schedule (first.moment + 1) others listing are in ((is, before), last)

-- ---- no strategy is sooner
each_zip : (xs ys : List ℕ) (k : ℕ) → AllZip (λ a b. a ≤ b) xs ys → k < length xs → get_or xs k 0 ≤ get_or ys k 0
each_zip [] ys k all inside = absurd (omega (arith, inside))
each_zip (x ∷ xs) [] k all inside = absurd all
each_zip (x ∷ xs) (y ∷ ys) zero all inside = all.0
each_zip (x ∷ xs) (y ∷ ys) (suc k) all inside = each_zip xs ys k all.1 (omega (arith, inside))

-- a moment that is shown of a schedule is that of the schedule
module _ (schedule : List ℕ) (shown : ℕ → Option ℕ) (shows : (m n : ℕ) → shown m ≡ Some n → m ≡ n) where
  shown_is : (point : PointId) (moment : ℕ) → moment_of (map shown schedule) point ≡ Some moment → (point.0 < length schedule) × (moment_in schedule point ≡ moment)
  shown_is point moment found =
      let long = length-map schedule shown in
      let inside = within_from_some (map shown schedule) point moment found in
      let stands : point.0 < length schedule = omega (arith, inside, long) in
      (stands, shows (moment_in schedule point) moment (sym (get_or-map shown schedule point.0 0 None stands) ∙ found))

up_to : (last : Option ℕ) (m n : ℕ) → (if option_map_or (nat_le m) last false then Some m else None) ≡ Some n → m ≡ n
up_to last m n is = by (option_map_or (nat_le m) last false) is
  where
    by : (b : Bool) → (if b then Some m else None) ≡ Some n → m ≡ n
    by true is = same_Some m n is
    by false is = absurd (none-some n is)

fixed_is : (stream : Stream) (schedule : List ℕ) (point : PointId) (moment : ℕ) → moment_of (fixed_by stream schedule) point ≡ Some moment
    → (point.0 < length schedule) × (moment_in schedule point ≡ moment)
fixed_is stream schedule point moment found = by stream.done found
  where
    by : (done : Bool) → moment_of (if done then map Some schedule else cut_at (last_moment stream) schedule) point ≡ Some moment
        → (point.0 < length schedule) × (moment_in schedule point ≡ moment)
    by true found = shown_is schedule Some (λ m n is. same_Some m n is) point moment found
    by false found = shown_is schedule (λ m. if option_map_or (nat_le m) (last_moment stream) false then Some m else None) (up_to (last_moment stream)) point moment found

none_sooner : (net : Plan) (stream : Stream) (situation schedule : List ℕ) (moments : Moments) → IsEarliest net situation schedule → moments ≡ fixed_by stream schedule
    → NoneSooner net situation moments
none_sooner net stream situation schedule moments earliest are other played controls plays point moment found =
    let (stands, is) = fixed_is stream schedule point moment (sym (ap (λ (all : Moments). moment_of all point) are) ∙ found) in
    let sooner = each_zip schedule played point.0 (earliest.earliest other played controls plays) stands in
    omega (arith, is, sooner)

-- ---- the acts of a feed
module _ (net : Plan) (table : Graph) (order : List PointId) (by : IsDispatchedForward net table order) (listings : List Listing) (listing : Listing) (execution : Execution)
    (fed : fed_all (started (setting_of net table)) listings ≡ Ok execution) (situation schedule : List ℕ) (earliest : IsEarliest net situation schedule)
    (shows : Shows net (going_on (listings ++ listing ∷ [])) schedule) where
  pub run : IsRun net table schedule
  run = run_of net table order by situation schedule earliest

  parted : AreNext net schedule 0 listings × IsNext net schedule (end_of 0 listings) listing
  parted = next_parts net schedule 0 listings listing (shows_next net schedule (listings ++ listing ∷ []) shows)

  shows_before : Shows net (going_on listings) schedule
  shows_before = next_shows net schedule listings parted.0

  pub keeps : KeepsTo net table schedule execution
  keeps = fed_keeps net table order by listings execution fed schedule run shows_before

  pub is_next : IsNext net schedule (next_moment execution) listing
  is_next = subst (λ (n : ℕ). IsNext net schedule n listing) (sym (fed_end net table order by listings execution fed schedule run shows_before)) parted.1

  pub is_of : IsExecutionOf net execution
  is_of = record {
    instant = by.instant;
    links = ap (λ (setting : Setting). setting.links) keeps.setting;
    dispatch = ap (λ (setting : Setting). length setting.dispatch) keeps.setting ∙ dispatchable_length net table by.forward.for_network;
    moments = keeps.cut.long;
  }

  acts_of_feed : (moments : Moments) → taken execution listing.moment listing.points ≡ Ok moments
      → (after_feed execution listing.moment moments).acts ≡ scheduled net schedule (next_moment execution) (suc listing.moment - next_moment execution)
  acts_of_feed moments took =
      let law = taken_in_time net execution listing.moment listing.points is_of (taken_within execution listing.moment listing.points moments took) in
      ap (λ (m : Moments). (after_feed execution listing.moment m).acts) (law.1 moments took) ∙ fed_acts net table schedule run execution listing keeps is_next

pub law_acts_are_earliest : ActsAreEarliest
law_acts_are_earliest net table order listings listing execution moments situation schedule by fed took earliest shows =
    acts_of_feed net table order by listings listing execution fed situation schedule earliest shows moments took

-- ---- the acts of the end
module _ (net : Plan) (table : Graph) (order : List PointId) (by : IsDispatchedForward net table order) (listings : List Listing) (execution after : Execution)
    (fed : fed_all (started (setting_of net table)) listings ≡ Ok execution) (whole : IsWhole execution after) (situation schedule : List ℕ)
    (earliest : IsEarliest net situation schedule) (shows : Shows net (ended listings) schedule) where
  whole_run : IsRun net table schedule
  whole_run = run_of net table order by situation schedule earliest

  kept : KeepsTo net table schedule execution
  kept = done_keeps net table order by listings execution fed schedule whole_run shows whole.count

  acts_of_end : after.acts ≡ scheduled net schedule (next_moment execution) whole.count
  acts_of_end =
      ap (λ (e : Execution). e.acts) whole.after_it
      ∙ ap (λ (setting : Setting). acts_while setting execution.moments (next_moment execution) whole.count) kept.setting
      ∙ acts_while_are net table schedule whole_run whole.count execution.moments (next_moment execution) kept.cut
      (none_comes net table order by listings execution fed schedule whole_run shows whole.count)

  -- nothing is left
  whole_cut : IsCut net schedule (time_runs execution.setting execution.moments (next_moment execution) whole.count) (next_moment execution + whole.count)
  whole_cut = end_cut net table order by listings execution fed schedule whole_run shows whole.count

  none_later : All (λ (moment : ℕ). moment < next_moment execution + whole.count) schedule
  none_later k d inside =
      let size = whole_run.executed.complete in
      let long = whole_cut.long in
      let same = get_or_default schedule k d 0 inside in
      elim (cases_lt (get_or schedule k 0) (next_moment execution + whole.count)) [
        | inl less ↦ omega (arith, same, less)
        | inr above ↦
            (let unknown = whole_cut.unknown (record { 0 = k }) (omega (arith, inside, size)) above in
            absurd (false≢true (sym (ap is_some unknown) ∙ whole.come k None (omega (arith, inside, size, long)))))
      ]

pub law_last_acts_are_earliest : LastActsAreEarliest
law_last_acts_are_earliest net table order listings execution after situation schedule by fed whole earliest shows =
    acts_of_end net table order by listings execution after fed whole situation schedule earliest shows

-- ---- a feed
module _ (old : Execution) (moment : ℕ) (listed : List PointId) (answer : Fed) (after : Execution) where
  abbrev FedBy : Result Moments Why → Type 0
  FedBy (Err cause) = (answer ≡ fed.Refused cause) × (after ≡ record old { refused = Some cause })
  FedBy (Ok moments) = (answer ≡ fed.Acts) × (after ≡ after_feed old moment moments)

  abbrev FedWhere : Option Why → Type 0
  FedWhere (Some cause) = (answer ≡ fed.Ended cause) × (after ≡ old)
  FedWhere None = FedBy (taken old moment listed)

  acts_not_refused : (cause : Why) → fed.Acts ≡ fed.Refused cause → ⊥
  acts_not_refused cause is = absurd (cc)

  module _ (is : IsFed old moment listed answer after) (net : Plan) (table : Graph) (order : List PointId) (listings : List Listing) (by : IsDispatchedForward net table order)
      (went : fed_all (started (setting_of net table)) listings ≡ Ok old) (within : moment ≤ most_moment) where
    abbrev listing : Listing
    listing = record { moment = moment; points = listed }

    abbrev stream : Stream
    stream = going_on (listings ++ listing ∷ [])

    went_on : (r : Result Moments Why) → taken old moment listed ≡ r → fed_all (started (setting_of net table)) (listings ++ listing ∷ []) ≡ fed_on old listing [] r
    went_on r took = fed_append listings (listing ∷ []) (started (setting_of net table)) old went ∙ ap (fed_on old listing []) took

    by_answer : (r : Result Moments Why) → taken old moment listed ≡ r → FedBy r → IsFedEarliest net stream old moment answer after
    by_answer (Ok moments) took (acts, comes) =
        let fed_on_to = went_on (Ok moments) took in
        record {
          answered = (λ answered. fed_faithful net table order by (listings ++ listing ∷ []) (after_feed old moment moments) fed_on_to, λ faithful. acts);
          keeps = λ answered situation schedule earliest shows.
              let are : after.moments ≡ fixed_by stream schedule =
              ap (λ (e : Execution). e.moments) comes
              ∙ law_feeds_execute_earliest net table order (listings ++ listing ∷ []) (after_feed old moment moments) situation schedule by fed_on_to earliest shows in
              record {
                moments = are;
                acts = ap (λ (e : Execution). e.acts) comes ∙ acts_of_feed net table order by listings listing old went situation schedule earliest shows moments took;
                none_sooner = none_sooner net stream situation schedule after.moments earliest are;
              };
        }
    by_answer (Err cause) took (refused, comes) = record {
      answered = (λ acts. absurd (acts_not_refused cause (sym acts ∙ refused)), λ faithful. absurd (not_faithful faithful));
      keeps = λ acts. absurd (acts_not_refused cause (sym acts ∙ refused));
    }
      where
        not_faithful : IsFaithful net stream → ⊥
        not_faithful faithful =
            let all = within_append listings listing (all_within listings (started (setting_of net table)) old went) within in
            let (end, fed_to) = (law_faithful_streams_are_taken net table order (listings ++ listing ∷ []) by all).0.0 faithful in
            err_ok end cause (sym (went_on (Err cause) took) ∙ fed_to)

    fed_is_earliest : IsFedEarliest net stream old moment answer after
    fed_is_earliest = by_answer (taken old moment listed) refl (subst FedWhere (none_refused net table order listings old by went) is)

pub law_feeds_are_earliest : FeedsAreEarliest
law_feeds_are_earliest old moment listed answer after is net table order listings by went within =
    fed_is_earliest old moment listed answer after is net table order listings by went within

-- ---- the end
module _ (old : Execution) (answer : Finished) (after : Execution) where
  abbrev EndedBy : Option PointId → Type 0
  EndedBy (Some point) = (answer ≡ finished.Unfinished point) × (after ≡ old)
  EndedBy None = (answer ≡ finished.Complete) × IsWhole old after

  abbrev EndedWhere : Option Why → Type 0
  EndedWhere (Some cause) = (answer ≡ finished.Ended cause) × (after ≡ old)
  EndedWhere None = EndedBy (first_open old)

  complete_not_unfinished : (point : PointId) → finished.Complete ≡ finished.Unfinished point → ⊥
  complete_not_unfinished point is = absurd (cc)

  module _ (is : IsFinished old answer after) (net : Plan) (table : Graph) (order : List PointId) (listings : List Listing) (by : IsDispatchedForward net table order)
      (went : fed_all (started (setting_of net table)) listings ≡ Ok old) where
    by_open : (o : Option PointId) → first_open old ≡ o → EndedBy o → IsEndedEarliest net (ended listings) old answer after
    by_open (Some point) found (unfinished, same) = record {
      answered = (
        λ complete. absurd (complete_not_unfinished point (sym complete ∙ unfinished)),
        λ faithful. absurd (none-some point (sym ((law_done_where_none_is_open net table order listings old by went).0 faithful) ∙ found)),
      );
      keeps = λ complete. absurd (complete_not_unfinished point (sym complete ∙ unfinished));
    }
    by_open None none (complete, whole) = record {
      answered = (λ answered. (law_done_where_none_is_open net table order listings old by went).1 none, λ faithful. complete);
      keeps = λ answered situation schedule earliest shows.
          let are = law_ends_are_earliest net table order listings old after situation schedule by went whole earliest shows in (
            whole.count,
            none_later net table order by listings old after went whole situation schedule earliest shows,
            record {
              moments = are;
              acts = acts_of_end net table order by listings old after went whole situation schedule earliest shows;
              none_sooner = none_sooner net (ended listings) situation schedule after.moments earliest are;
            },
          );
    }

    ended_is_earliest : IsEndedEarliest net (ended listings) old answer after
    ended_is_earliest = by_open (first_open old) refl (subst EndedWhere (none_refused net table order listings old by went) is)

pub law_finishes_are_earliest : FinishesAreEarliest
law_finishes_are_earliest old answer after is net table order listings by went = ended_is_earliest old answer after is net table order listings by went
