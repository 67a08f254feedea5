-- Executions of streams are the earliest schedules.
use Rattle.std.proofs.Common.{◌≡◌, ℕ, ◌+◌, Bool, true, false, cond, List, [], ◌∷◌, length, Option, Some, None, is_some, refl, ap, sym, subst, ◌∙◌, arith}
use Rattle.std.specs.Prelude.{Ok, find, if◌then◌else◌}
use Rattle.std.specs.List.{Contains}
use Rattle.std.specs.Option.{option_map_or}
use Rattle.std.proofs.lemmas.Bool.{true≢false}
use Rattle.std.proofs.lemmas.Option.{none-some}
use Rattle.net_model.specs.Network.{Plan, IsPoint, IsContingent}
use Rattle.net_model.specs.declared.ids.PointId.{PointId}
use Rattle.net_model.specs.declared.part.Link.{Link}
use Rattle.closure_model.specs.Tables.{Graph}
use Rattle.closure_model.proofs.Lists.{Contains-head, Contains-tail}
use Rattle.closure_model.proofs.OrderLemmas.{find_none}
use Rattle.strategy_model.specs.Situations.{IsSituation, moment_in}
use Rattle.strategy_model.specs.Control.{IsEarliest}
use Rattle.strategy_model.proofs.KindLemmas.{Ending}
use Rattle.closure_laws.specs.Forward.{IsDispatchedForward}
use Rattle.dispatch_net.proofs.ExecutionLemmas.{dispatchable_length, law_executions_satisfy}
use Rattle.dispatch_net.proofs.EarliestLemmas.{law_forward_tables_execute_earliest}
use Rattle.net_model.specs.Moments.{Moments}
use Rattle.execution_model.specs.Execution.{Setting, has_come, points_of, link_to, time_runs}
use Rattle.execution_model.specs.Feeds.{Execution, started, next_moment, is_open, first_open}
use Rattle.execution_model.specs.Streams.{Listing, IsListed, Shows, FitsSituation, IsFaithful, last_moment}
use Rattle.execution_model.specs.Timely.{AreInTime, fed_all}
use Rattle.execution_model.specs.Laws.{setting_of, IsExecutionOf, going_on, ended, FaithfulStreamsAreTaken, FeedsExecuteEarliest, DoneWhereNoneIsOpen, EndsAreEarliest, StreamsAreExecuted}
use Rattle.execution_model.proofs.GraphLemmas.{law_forward_tables_are_graphs}
use Rattle.execution_model.proofs.MomentLemmas.{Contains-point}
use Rattle.execution_model.proofs.PlaceLemmas.{link_found, ending_of, ending_point, contingent_ending, ending_contingent}
use Rattle.execution_model.proofs.CutLemmas.{IsCut, IsRun, came, cut_value}
use Rattle.execution_model.proofs.TimeLemmas.{NoneComes, time_cut}
use Rattle.execution_model.proofs.FittingLemmas.{end_of, end_after, KeepsTo, feeds_in_time, feeds_keep}
use Rattle.execution_model.proofs.StreamLemmas.{shows_next, next_shows, done_shows, shows_done, done_before_end, listed_before_end, cut_is, whole_is, last_after, none_of_map, start_keeps}
use Rattle.execution_model.proofs.FedLemmas.{after_all, started_of, fed_in_time, in_time_fed}
use Rattle.execution_model.proofs.SituationLemmas.{EachLasted, all_lasted, duration_seen, situation_seen, seen_is_situation, seen_duration}
use Rattle.execution_model.proofs.SeenLemmas.{IsShownBy, in_time_next}

-- if no element passes, none is found
none_found : {X : Type 0} (test : X → Bool) (xs : List X) → ((x : X) → Contains xs x → test x ≡ false) → find test xs ≡ None
none_found test [] none = refl
none_found test (x ∷ xs) none =
    ap (λ (b : Bool). cond b (Some x) (find test xs)) (none x (Contains-head x xs)) ∙ none_found test xs (λ y among. none y (Contains-tail x xs y among))

module _ (net : Plan) (table : Graph) (order : List PointId) (by : IsDispatchedForward net table order) where
  -- the earliest schedule of a situation is the one that is executed
  pub run_of : (situation schedule : List ℕ) → IsEarliest net situation schedule → IsRun net table schedule
  run_of situation schedule earliest = record {
    plan = by.instant.sound;
    for = by.forward.for_network;
    sound = law_forward_tables_are_graphs net table by.instant.sound by.forward;
    situation = situation;
    is_situation = earliest.is_situation;
    executed = (law_forward_tables_execute_earliest net table order situation schedule by (law_forward_tables_are_graphs net table by.instant.sound by.forward) earliest.is_situation).0 earliest;
  }

  module _ (listings : List Listing) (execution : Execution) (fed : fed_all (started (setting_of net table)) listings ≡ Ok execution) (schedule : List ℕ)
      (run : IsRun net table schedule) (shows : Shows net (going_on listings) schedule) where
    leads : after_all (started (setting_of net table)) listings ≡ execution
    leads = (fed_in_time net listings (started (setting_of net table)) execution (started_of net table by.instant by.forward.for_network) fed).1

    pub fed_keeps : KeepsTo net table schedule execution
    fed_keeps =
        let start = start_keeps net table schedule by.forward.for_network in
        subst (KeepsTo net table schedule) leads (feeds_keep net table schedule run listings (started (setting_of net table)) start (shows_next net schedule listings shows))

    pub fed_last : execution.last ≡ last_moment (going_on listings)
    fed_last = ap (λ (e : Execution). e.last) (sym leads) ∙ last_after (started (setting_of net table)) listings

    pub fed_end : next_moment execution ≡ end_of 0 listings
    fed_end = ap next_moment (sym leads) ∙ end_after (started (setting_of net table)) listings

  -- if the stream is said to be done, no contingent point comes after it, however long time runs
  module _ (listings : List Listing) (execution : Execution) (fed : fed_all (started (setting_of net table)) listings ≡ Ok execution) (schedule : List ℕ)
      (run : IsRun net table schedule) (shows : Shows net (ended listings) schedule) (count : ℕ) where
    shows_on : Shows net (going_on listings) schedule
    shows_on = done_shows net schedule listings shows

    pub done_keeps : KeepsTo net table schedule execution
    done_keeps = fed_keeps listings execution fed schedule run shows_on

    pub none_comes : NoneComes net schedule (next_moment execution) (next_moment execution + count)
    none_comes point ending at_least below =
        let before = done_before_end net schedule listings shows point (ending_contingent net point ending) in
        let end = fed_end listings execution fed schedule run shows_on in
        omega (arith, before, end, at_least)

    pub end_cut : IsCut net schedule (time_runs execution.setting execution.moments (next_moment execution) count) (next_moment execution + count)
    end_cut =
        subst (λ (setting : Setting). IsCut net schedule (time_runs setting execution.moments (next_moment execution) count) (next_moment execution + count)) (sym done_keeps.setting)
        (time_cut net table schedule run count execution.moments (next_moment execution) done_keeps.cut none_comes)

pub law_feeds_execute_earliest : FeedsExecuteEarliest
law_feeds_execute_earliest net table order listings execution situation schedule by fed earliest shows =
    let run = run_of net table order by situation schedule earliest in
    let keeps = fed_keeps net table order by listings execution fed schedule run shows in
    cut_is net schedule execution.moments (last_moment (going_on listings)) run.executed.complete
    (subst (λ (last : Option ℕ). IsCut net schedule execution.moments (option_map_or (λ l. l + 1) last 0)) (fed_last net table order by listings execution fed schedule run shows) keeps.cut)

pub law_ends_are_earliest : EndsAreEarliest
law_ends_are_earliest net table order listings execution after situation schedule by fed whole earliest shows =
    let run = run_of net table order by situation schedule earliest in
    let cut = end_cut net table order by listings execution fed schedule run shows whole.count in
    ap (λ (e : Execution). e.moments) whole.after_it
    ∙ whole_is net schedule (time_runs execution.setting execution.moments (next_moment execution) whole.count) (next_moment execution + whole.count) run.executed.complete cut whole.come

-- ---- faithful streams
module _ (net : Plan) (table : Graph) (order : List PointId) (by : IsDispatchedForward net table order) (listings : List Listing) where
  -- feeds that are in time fit the situation that they show
  module _ (are : AreInTime (started (setting_of net table)) listings) where
    abbrev final : Moments
    final = (after_all (started (setting_of net table)) listings).moments

    of_start : IsExecutionOf net (started (setting_of net table))
    of_start = started_of net table by.instant by.forward.for_network

    each_lasted : EachLasted net final
    each_lasted =
        all_lasted net listings (started (setting_of net table)) of_start are
        (λ name link completed declared found. absurd (none-some completed (sym (none_of_map (points_of (setting_of net table)) link.to.0) ∙ found)))

    is_situation : IsSituation net (situation_seen net final)
    is_situation = seen_is_situation net by.instant.sound final each_lasted

    final_fits : FitsSituation net (going_on listings) (situation_seen net final)
    final_fits =
        let situation = situation_seen net final in
        let (schedule, executed) =
        (law_executions_satisfy net table order by.instant by.forward.for_network (law_forward_tables_are_graphs net table by.instant.sound by.forward) by.forward.closed by.ordered).executed situation is_situation in
        let run : IsRun net table schedule =
        record { plan = by.instant.sound; for = by.forward.for_network; sound = law_forward_tables_are_graphs net table by.instant.sound by.forward; situation = situation; is_situation = is_situation; executed = executed } in
        let shown : IsShownBy net table schedule final = record {
          run = run;
          each = each_lasted;
          timed = λ name link declared. executed.contingent name link (duration_seen final link) declared (seen_duration net by.instant.sound final each_lasted name link declared);
        } in
        let next = in_time_next net table schedule final shown listings (started (setting_of net table)) of_start (start_keeps net table schedule by.forward.for_network) are refl in
        record {
          schedule = schedule;
          earliest = (law_forward_tables_execute_earliest net table order situation schedule by (law_forward_tables_are_graphs net table by.instant.sound by.forward) is_situation).1 executed;
          shows = next_shows net schedule listings next;
        }

    pub in_time_fits : IsFaithful net (going_on listings)
    in_time_fits = (situation_seen net final, final_fits)

  -- and a faithful stream is in time
  pub faithful_in_time : IsFaithful net (going_on listings) → AreInTime (started (setting_of net table)) listings
  faithful_in_time (situation, fits) =
      feeds_in_time net table fits.schedule (run_of net table order by situation fits.schedule fits.earliest) listings (started (setting_of net table))
      (start_keeps net table fits.schedule by.forward.for_network)
      (shows_next net fits.schedule listings fits.shows)

  -- feeds that were taken fit the situation that they show
  module _ (execution : Execution) (fed : fed_all (started (setting_of net table)) listings ≡ Ok execution) where
    fed_timely : AreInTime (started (setting_of net table)) listings × (after_all (started (setting_of net table)) listings ≡ execution)
    fed_timely = fed_in_time net listings (started (setting_of net table)) execution (started_of net table by.instant by.forward.for_network) fed

    pub fed_lasted : EachLasted net execution.moments
    fed_lasted = subst (λ (e : Execution). EachLasted net e.moments) fed_timely.1 (each_lasted fed_timely.0)

    pub fed_fits : FitsSituation net (going_on listings) (situation_seen net execution.moments)
    fed_fits = subst (λ (e : Execution). FitsSituation net (going_on listings) (situation_seen net e.moments)) fed_timely.1 (final_fits fed_timely.0)

    pub fed_faithful : IsFaithful net (going_on listings)
    fed_faithful = (situation_seen net execution.moments, fed_fits)

pub law_faithful_streams_are_taken : FaithfulStreamsAreTaken
law_faithful_streams_are_taken net table order listings by within = (
  (
    λ faithful. (
      after_all (started (setting_of net table)) listings,
      in_time_fed net listings (started (setting_of net table)) (started_of net table by.instant by.forward.for_network) within (faithful_in_time net table order by listings faithful),
    ),
    λ taken. fed_faithful net table order by listings taken.0 taken.1,
  ),
  (faithful_in_time net table order by listings, in_time_fits net table order by listings),
)

-- ---- done streams
module _ (net : Plan) (table : Graph) (order : List PointId) (by : IsDispatchedForward net table order) (listings : List Listing) (execution : Execution)
    (fed : fed_all (started (setting_of net table)) listings ≡ Ok execution) where
  open_test : (moments : Moments) (setting : Setting) (point : PointId) (come linked : Bool) → has_come moments point ≡ come → is_some (link_to setting point) ≡ linked
      → is_open setting moments point ≡ (if come then false else linked)
  open_test moments setting point come linked is_come is_linked = (λ i. if is_come i then false else is_linked i)

  done_none_open : IsFaithful net (ended listings) → first_open execution ≡ None
  done_none_open (situation, fits) = none_found (is_open execution.setting execution.moments) (points_of execution.setting) none
    where
      run : IsRun net table fits.schedule
      run = run_of net table order by situation fits.schedule fits.earliest

      shows_on : Shows net (going_on listings) fits.schedule
      shows_on = done_shows net fits.schedule listings fits.shows

      keeps : KeepsTo net table fits.schedule execution
      keeps = fed_keeps net table order by listings execution fed fits.schedule run shows_on

      links : execution.setting.links ≡ net.links
      links = ap (λ (setting : Setting). setting.links) keeps.setting

      contingent_come : (point : PointId) → Ending net point → has_come execution.moments point ≡ true
      contingent_come point ending =
          let before = done_before_end net fits.schedule listings fits.shows point (ending_contingent net point ending) in
          let end = fed_end net table order by listings execution fed fits.schedule run shows_on in
          ap is_some (keeps.cut.known point (ending_point net by.instant.sound point ending) (omega (arith, before, end)))

      none : (point : PointId) → Contains (points_of execution.setting) point → is_open execution.setting execution.moments point ≡ false
      none point among = by_link (link_to execution.setting point) refl
        where
          either : (b : Bool) → (if b then false else false) ≡ false
          either true = refl
          either false = refl

          by_link : (o : Option Link) → link_to execution.setting point ≡ o → is_open execution.setting execution.moments point ≡ false
          by_link None unlinked =
              open_test execution.moments execution.setting point (has_come execution.moments point) false refl (ap is_some unlinked) ∙ either (has_come execution.moments point)
          by_link (Some link) linked =
              let (ending, same) = ending_of net by.instant.sound execution.setting links point link linked in
              open_test execution.moments execution.setting point true (is_some (link_to execution.setting point)) (contingent_come point ending) refl

  none_open_done : first_open execution ≡ None → IsFaithful net (ended listings)
  none_open_done none = from (fed_faithful net table order by listings execution fed)
    where
      from : IsFaithful net (going_on listings) → IsFaithful net (ended listings)
      from (situation, fits) = (situation, record { schedule = fits.schedule; earliest = fits.earliest; shows = shows_done net fits.schedule listings fits.shows each })
        where
          run : IsRun net table fits.schedule
          run = run_of net table order by situation fits.schedule fits.earliest

          keeps : KeepsTo net table fits.schedule execution
          keeps = fed_keeps net table order by listings execution fed fits.schedule run fits.shows

          links : execution.setting.links ≡ net.links
          links = ap (λ (setting : Setting). setting.links) keeps.setting

          long : length execution.setting.dispatch ≡ length net.points
          long = ap (λ (setting : Setting). length setting.dispatch) keeps.setting ∙ dispatchable_length net table by.forward.for_network

          each : (point : PointId) → IsContingent net point → IsListed (going_on listings) point (moment_in fits.schedule point)
          each point contingent = come (has_come execution.moments point) refl
            where
              ending : Ending net point
              ending = contingent_ending net point contingent

              within : IsPoint net point
              within = ending_point net by.instant.sound point ending

              linked : is_some (link_to execution.setting point) ≡ true
              linked = ap is_some (link_found net by.instant.sound execution.setting links point ending)

              closed : is_open execution.setting execution.moments point ≡ false
              closed = find_none (is_open execution.setting execution.moments) (points_of execution.setting) point none (Contains-point execution.setting point (omega (arith, within, long)))

              come : (b : Bool) → has_come execution.moments point ≡ b → IsListed (going_on listings) point (moment_in fits.schedule point)
              come false unknown = absurd (true≢false (sym (open_test execution.moments execution.setting point false true unknown linked) ∙ closed))
              come true known =
                  let (m, found) = came execution.moments point known in
                  let value = cut_value net fits.schedule execution.moments (next_moment execution) keeps.cut point m within found in
                  let same = value.0 in
                  let before = value.1 in
                  let end = fed_end net table order by listings execution fed fits.schedule run fits.shows in
                  listed_before_end net fits.schedule 0 listings (shows_next net fits.schedule listings fits.shows) point contingent (omega arith) (omega (arith, same, before, end))

pub law_done_where_none_is_open : DoneWhereNoneIsOpen
law_done_where_none_is_open net table order listings execution by fed = (done_none_open net table order by listings execution fed, none_open_done net table order by listings execution fed)

pub law_streams_are_executed : StreamsAreExecuted
law_streams_are_executed net table order listings execution by fed = (
  (let (situation, fits) = fed_faithful net table order by listings execution fed in
      record { situation = situation; fits = fits; fixed = law_feeds_execute_earliest net table order listings execution situation fits.schedule by fed fits.earliest fits.shows }),
  λ none after whole.
      let (situation, fits) = none_open_done net table order by listings execution fed none in
      record { situation = situation; fits = fits; fixed = law_ends_are_earliest net table order listings execution after situation fits.schedule by fed whole fits.earliest fits.shows },
)
