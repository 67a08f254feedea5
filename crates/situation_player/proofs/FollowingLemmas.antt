-- An execution that follows a situation: at its start, after a feed, and when no moment is next.
use Rattle.std.proofs.Common.{◌≡◌, ℕ, ◌+◌, ◌<◌, ◌≤◌, List, [], ◌∷◌, ◌++◌, length, map, get_or, drop, Option, Some, None, Result, Ok, Err, refl, ap, sym, subst, ◌∙◌, arith}
use Rattle.std.specs.Prelude.{IsSome, IfOk}
use Rattle.std.specs.List.{All, Contains}
use Rattle.std.proofs.lemmas.List.{length-map}
use Rattle.std.proofs.lemmas.List.Elements.{All-weaker, All-contains_itself, All-contains, All-map}
use Rattle.std.proofs.lemmas.Option.{same_Some}
use Rattle.net_model.specs.Network.{Plan}
use Rattle.net_model.specs.declared.ids.PointId.{PointId}
use Rattle.strategy_model.specs.Control.{IsEarliest}
use Rattle.strategy_model.specs.Situations.{IsSituation}
use Rattle.dispatch_net.proofs.EarliestLemmas.{law_forward_tables_execute_earliest}
use Rattle.dispatch_net.proofs.ExecutionLemmas.{dispatchable_length, law_executions_satisfy}
use Rattle.net_model.specs.Moments.{Moments}
use Rattle.execution_model.specs.Execution.{Setting}
use Rattle.net_model.specs.Limits.{most_moment}
use Rattle.execution_model.specs.Feeds.{Execution, started, next_moment, taken, after_feed, first_open, IsFed, IsWhole, IsFinished}
use Rattle.execution_model.specs.Streams.{Listing, Shows}
use Rattle.execution_model.specs.Timely.{fed_all, with_completed, IsInTime}
use Rattle.execution_model.specs.Earliest.{EndsEarliest}
use Rattle.execution_model.specs.Laws.{setting_of, IsExecutionOf, ended}
use Rattle.execution_model.specs.declared.feed_answers.Why.{Why}
use Rattle.execution_model.specs.declared.feed_answers.Fed.{Fed}
use Rattle.execution_model.specs.declared.feed_answers.Fed.TheVariants as fed
use Rattle.execution_model.specs.declared.feed_answers.Finished.{Finished}
use Rattle.execution_model.specs.declared.feed_answers.Finished.TheVariants as finished
use Rattle.execution_model.proofs.CutLemmas.{IsRun}
use Rattle.execution_model.proofs.EarliestLemmas.{refused_after}
use Rattle.execution_model.proofs.FedLemmas.{fed_on, started_of, same_ok, err_ok, fed_in_time}
use Rattle.execution_model.proofs.FittingLemmas.{IsNext, end_of, KeepsTo, feeds_in_time}
use Rattle.execution_model.proofs.GraphLemmas.{law_forward_tables_are_graphs}
use Rattle.execution_model.proofs.LawLemmas.{run_of, fed_keeps, fed_end}
use Rattle.execution_model.proofs.StreamLemmas.{shows_next, next_shows, shows_done, listed_before_end}
use Rattle.execution_model.proofs.TimelyLemmas.{taken_in_time}
use Rattle.execution_model.proofs.PlaceLemmas.{contingent_ending, ending_point}
use Rattle.situation_player.specs.PlayedDays.{IsStartedForward, FollowsSituation, IsTimed, IsNextMoment, lastings_of, completing_at}
use Rattle.situation_player.specs.declared.played_day.Lasting.{Lasting}
use Rattle.situation_player.proofs.CompletionLemmas.{completing_is}
use Rattle.situation_player.proofs.DayLemmas.{next_one, is_next, within_limit, all_before, timed}

-- ---- lists of moments
some_apart : (xs ys : List ℕ) → map Some xs ≡ map Some ys → xs ≡ ys
some_apart [] [] same = refl
some_apart [] (y ∷ ys) same = absurd (cc)
some_apart (x ∷ xs) [] same = absurd (cc)
some_apart (x ∷ xs) (y ∷ ys) same =
    let first : x ≡ y = same_Some x y (ap (λ (os : Moments). get_or os 0 None) same) in
    let rest : xs ≡ ys = some_apart xs ys (ap (λ (os : Moments). drop 1 os) same) in
    ap (λ (n : ℕ). n ∷ xs) first ∙ ap (λ (ns : List ℕ). y ∷ ns) rest

-- the end keeps by what a network is executed
module _ (execution : Execution) (answer : Finished) (after : Execution) where
  abbrev EndedBy : Option PointId → Type 0
  EndedBy (Some point) = (answer ≡ finished.Unfinished point) × (after ≡ execution)
  EndedBy None = (answer ≡ finished.Complete) × IsWhole execution after

  abbrev EndedWhere : Option Why → Type 0
  EndedWhere (Some cause) = (answer ≡ finished.Ended cause) × (after ≡ execution)
  EndedWhere None = EndedBy (first_open execution)

  stays_by : (point : Option PointId) → EndedBy point → after.setting ≡ execution.setting
  stays_by (Some point) (answered, same) = ap (λ (e : Execution). e.setting) same
  stays_by None (answered, whole) = ap (λ (e : Execution). e.setting) whole.after_it

  stays : (refused : Option Why) → EndedWhere refused → after.setting ≡ execution.setting
  stays (Some cause) (answered, same) = ap (λ (e : Execution). e.setting) same
  stays None ended = stays_by (first_open execution) ended

setting_stays : (execution : Execution) (answer : Finished) (after : Execution) → IsFinished execution answer after → after.setting ≡ execution.setting
setting_stays execution answer after is_finished = stays execution answer after execution.refused is_finished

-- ---- the start
pub following_start : (net : Plan) (situation : List ℕ) (execution : Execution) → IsStartedForward net execution → IsSituation net situation → FollowsSituation net situation execution
following_start net situation execution is fits =
    let by = is.dispatched in
    let graph = law_forward_tables_are_graphs net is.table by.instant.sound by.forward in
    let (schedule, executed) = (law_executions_satisfy net is.table is.order by.instant by.forward.for_network graph by.forward.closed by.ordered).executed situation fits in
    record {
      table = is.table;
      order = is.order;
      dispatched = by;
      schedule = schedule;
      earliest = (law_forward_tables_execute_earliest net is.table is.order situation schedule by graph fits).1 executed;
      listings = [];
      fed = ap Ok (sym is.unused);
      shows = next_shows net schedule [] tt;
    }

-- ---- feeds
fed_more : (listings : List Listing) (listing : Listing) (execution middle : Execution) (moments : Moments) → fed_all execution listings ≡ Ok middle
    → taken middle listing.moment listing.points ≡ Ok moments → fed_all execution (listings ++ listing ∷ []) ≡ Ok (after_feed middle listing.moment moments)
fed_more [] listing execution middle moments fed took =
    let same : execution ≡ middle = same_ok execution middle fed in
    ap (λ (e : Execution). fed_all e (listing ∷ [])) same ∙ ap (fed_on middle listing []) took
fed_more (first ∷ others) listing execution middle moments fed took =
    by (λ next went. fed_more others listing next middle moments went took) (taken execution first.moment first.points) fed
  where
    by : ((next : Execution) → fed_all next others ≡ Ok middle → fed_all next (others ++ listing ∷ []) ≡ Ok (after_feed middle listing.moment moments)) → (r : Result Moments Why)
        → fed_on execution first others r ≡ Ok middle → fed_on execution first (others ++ listing ∷ []) r ≡ Ok (after_feed middle listing.moment moments)
    by rest (Ok ms) went = rest (after_feed execution first.moment ms) went
    by rest (Err cause) went = absurd (err_ok middle cause went)

module _ (net : Plan) (situation : List ℕ) (execution : Execution) (is : FollowsSituation net situation execution) where
  run : IsRun net is.table is.schedule
  run = run_of net is.table is.order is.dispatched situation is.schedule is.earliest

  pub keeps : KeepsTo net is.table is.schedule execution
  keeps = fed_keeps net is.table is.order is.dispatched is.listings execution is.fed is.schedule run is.shows

  end : next_moment execution ≡ end_of 0 is.listings
  end = fed_end net is.table is.order is.dispatched is.listings execution is.fed is.schedule run is.shows

  unrefused : execution.refused ≡ None
  unrefused =
      let leads = (fed_in_time net is.listings (started (setting_of net is.table)) execution (started_of net is.table is.dispatched.instant is.dispatched.forward.for_network) is.fed).1 in
      ap (λ (e : Execution). e.refused) (sym leads) ∙ refused_after is.listings (started (setting_of net is.table))

  pub as_many : (length execution.moments ≡ length net.points) × (length execution.setting.dispatch ≡ length net.points)
  as_many = (
    keeps.cut.long,
    ap (λ (s : Setting). length s.dispatch) keeps.setting ∙ dispatchable_length net is.table is.dispatched.forward.for_network,
  )

  pub timed_all : (lastings : List Lasting) → lastings ≡ lastings_of net.links situation → All (IsTimed (length execution.setting.dispatch) execution.moments) lastings
  timed_all lastings same =
      subst (λ (ls : List Lasting). All (IsTimed (length execution.setting.dispatch) execution.moments) ls) (sym same)
      (subst (λ (n : ℕ). All (IsTimed n execution.moments) (lastings_of net.links situation)) (sym as_many.1)
      (timed net is.table is.order is.dispatched situation is.schedule is.earliest execution keeps))

  -- the points that complete are points of the network
  pub completing_stand : (lastings : List Lasting) → lastings ≡ lastings_of net.links situation → (m : ℕ)
      → All (λ (point : PointId). point.0 < length execution.setting.dispatch) (completing_at execution.moments m lastings)
  completing_stand lastings same m =
      All-weaker (Contains (completing_at execution.moments m lastings)) (λ (point : PointId). point.0 < length execution.setting.dispatch) (λ point among.
      let one = completing_is execution.moments m lastings point among in
      let is_timed = All-contains (IsTimed (length execution.setting.dispatch) execution.moments) lastings one.lasting (timed_all lastings same) one.among in
      subst (λ (p : PointId). p.0 < length execution.setting.dispatch) one.ends is_timed.to_point) (completing_at execution.moments m lastings)
      (All-contains_itself (completing_at execution.moments m lastings))

  of : IsExecutionOf net execution
  of = record {
    instant = is.dispatched.instant;
    links = ap (λ (s : Setting). s.links) keeps.setting;
    dispatch = as_many.1;
    moments = as_many.0;
  }

  module _ (next : Option ℕ) (is_next_moment : IsNextMoment execution (lastings_of net.links situation) next) where
    module _ (m : ℕ) (there : next ≡ Some m) where
      abbrev points : List PointId
      points = completing_at execution.moments m (lastings_of net.links situation)

      abbrev listing : Listing
      listing = record { moment = m; points = points }

      next_listing : IsNext net is.schedule (next_moment execution) listing
      next_listing = is_next net is.table is.order is.dispatched situation is.schedule is.earliest execution keeps unrefused next is_next_moment m there

      within : m ≤ most_moment
      within = within_limit net is.table is.order is.dispatched situation is.schedule is.earliest execution keeps unrefused next is_next_moment m there

      took : taken execution m points ≡ Ok (with_completed execution m points)
      took =
          let in_time : IsInTime execution m points = (feeds_in_time net is.table is.schedule run (listing ∷ []) execution keeps (next_listing, tt)).0 in
          (taken_in_time net execution m points of within).0.0 in_time

      abbrev FedBy : Fed → Execution → Result Moments Why → Type 0
      FedBy answer after (Err cause) = (answer ≡ fed.Refused cause) × (after ≡ record execution { refused = Some cause })
      FedBy answer after (Ok moments) = (answer ≡ fed.Acts) × (after ≡ after_feed execution m moments)

      abbrev FedWhere : Fed → Execution → Option Why → Type 0
      FedWhere answer after (Some cause) = (answer ≡ fed.Ended cause) × (after ≡ execution)
      FedWhere answer after None = FedBy answer after (taken execution m points)

      fed_it : (answer : Fed) (after : Execution) → IsFed execution m points answer after → after ≡ after_feed execution m (with_completed execution m points)
      fed_it answer after is_fed = (subst (FedBy answer after) took (subst (FedWhere answer after) unrefused is_fed)).1

      -- after a feed the execution still follows the situation, at a later moment
      pub following_fed : (answer : Fed) (after : Execution) → IsFed execution m points answer after
          → FollowsSituation net situation after × (next_moment execution ≤ m) × (m ≤ most_moment) × (next_moment after ≡ m + 1)
      following_fed answer after is_fed =
          let same = fed_it answer after is_fed in (
            record {
              table = is.table;
              order = is.order;
              dispatched = is.dispatched;
              schedule = is.schedule;
              earliest = is.earliest;
              listings = is.listings ++ listing ∷ [];
              fed = fed_more is.listings listing (started (setting_of net is.table)) execution (with_completed execution m points) is.fed took ∙ ap Ok (sym same);
              shows = next_shows net is.schedule (is.listings ++ listing ∷ [])
                  (next_one net is.schedule 0 is.listings listing (shows_next net is.schedule is.listings is.shows)
                  (subst (λ (n : ℕ). IsNext net is.schedule n listing) end next_listing));
            },
            next_listing.later,
            within,
            ap next_moment same,
          )

    -- if no moment is next, the end makes the whole of the earliest schedule
    pub following_ended : next ≡ None → (answer : Finished) (after : Execution) → EndsEarliest execution answer after → after.moments ≡ map Some is.schedule
    following_ended none answer after ends =
        let before = all_before net is.table is.order is.dispatched situation is.schedule is.earliest execution keeps unrefused next is_next_moment none in
        let shows : Shows net (ended is.listings) is.schedule =
        shows_done net is.schedule is.listings is.shows (λ point contingent.
        let less = before point (ending_point net run.plan point (contingent_ending net point contingent)) in
        listed_before_end net is.schedule 0 is.listings (shows_next net is.schedule is.listings is.shows) point contingent (omega arith) (omega (arith, less, end))) in
        let law = ends net is.table is.order is.listings is.dispatched is.fed in
        let complete = law.answered.1 (situation, record { schedule = is.schedule; earliest = is.earliest; shows = shows }) in
        let (count, all, kept) = law.keeps complete situation is.schedule is.earliest shows in
        kept.moments

-- ---- what the code of a day gives
module _ (net : Plan) (situation : List ℕ) (execution : Execution) (is : FollowsSituation net situation execution) (shown : List Lasting) (all : shown ≡ lastings_of net.links situation)
    (next : Option ℕ) (is_next_moment : IsNextMoment execution shown next) where
  next_of_all : IsNextMoment execution (lastings_of net.links situation) next
  next_of_all = subst (λ (ls : List Lasting). IsNextMoment execution ls next) all is_next_moment

  pub following_step : (m : ℕ) → next ≡ Some m → (listed : List PointId) (others : List Lasting) → others ≡ lastings_of net.links situation → listed ≡ completing_at execution.moments m others
      → (answer : Fed) (after : Execution) → IsFed execution m listed answer after
      → FollowsSituation net situation after × (next_moment execution ≤ m) × (m ≤ most_moment) × (next_moment after ≡ m + 1)
  following_step m there listed others same completing answer after is_fed =
      following_fed net situation execution is next next_of_all m there answer after
      (subst (λ (ps : List PointId). IsFed execution m ps answer after) (completing ∙ ap (completing_at execution.moments m) same) is_fed)

  -- the whole of the earliest schedule
  pub record IsOver (after : Execution) : Type 0 where
    pub schedule : List ℕ
    pub earliest : IsEarliest net situation schedule
    pub moments : after.moments ≡ map Some schedule
    pub points : length after.setting.dispatch ≡ length net.points
    pub complete : length schedule ≡ length net.points

  pub following_over : next ≡ None → (answer : Finished) (after : Execution) → IsFinished execution answer after → EndsEarliest execution answer after → IsOver after
  following_over none answer after is_finished ends = record {
    schedule = is.schedule;
    earliest = is.earliest;
    moments = following_ended net situation execution is next next_of_all none answer after ends;
    points = ap (λ (s : Setting). length s.dispatch) (setting_stays execution answer after is_finished) ∙ (as_many net situation execution is).1;
    complete = (run net situation execution is).executed.complete;
  }

-- every point has come
pub come_all : (schedule : List ℕ) (moments : Moments) → moments ≡ map Some schedule → All IsSome moments
come_all schedule moments same = subst (λ (ms : Moments). All IsSome ms) (sym same) (All-map IsSome Some schedule (λ k d inside. refl))

-- what is read of them is the schedule
pub read_earliest : {V E : Type 0} (net : Plan) (situation : List ℕ) (items : V → List ℕ) (read : Result V E) (moments : Moments) (schedule : List ℕ) → moments ≡ map Some schedule
    → IsEarliest net situation schedule → IfOk read (λ v. map Some (items v) ≡ moments) → IfOk read (λ v. IsEarliest net situation (items v))
read_earliest net situation items (Ok v) moments schedule same earliest is =
    let whole : items v ≡ schedule = some_apart (items v) schedule (is ∙ same) in subst (IsEarliest net situation) (sym whole) earliest
read_earliest net situation items (Err e) moments schedule same earliest is = tt

pub read_complete : {V E : Type 0} (count : ℕ) (items : V → List ℕ) (read : Result V E) (moments : Moments) (schedule : List ℕ) → moments ≡ map Some schedule
    → length schedule ≡ count → IfOk read (λ v. map Some (items v) ≡ moments) → IfOk read (λ v. length (items v) ≡ count)
read_complete count items (Ok v) moments schedule same long is = ap (length {A = ℕ}) (some_apart (items v) schedule (is ∙ same)) ∙ long
read_complete count items (Err e) moments schedule same long is = tt

pub over_count : (schedule : List ℕ) (moments : Moments) (count : ℕ) → moments ≡ map Some schedule → length schedule ≡ count → length moments ≡ count
over_count schedule moments count same long = ap (length {A = Option ℕ}) same ∙ length-map schedule Some ∙ long
