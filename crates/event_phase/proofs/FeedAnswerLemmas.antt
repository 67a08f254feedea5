-- The answers to feeds, to the end and to lines of events, by what the executor and the reader of lines ensure.
use Rattle.std.proofs.Common.{◌≡◌, ◌⊎◌, inl, inr, ℕ, ◌<◌, ◌≤◌, List, Option, Some, None, Result, Ok, Err, length, refl, ap, sym, subst, ◌∙◌}
use Rattle.std.specs.List.{All}
use Rattle.std.specs.Option.{IfSome}
use Rattle.net_model.specs.Network.{Plan, IsPoint}
use Rattle.net_model.specs.declared.ids.PointId.{PointId}
use Rattle.net_model.specs.declared.format.FormatKind.{FormatKind}
use Rattle.event_stream.specs.EventText.{EventLine, completed, IsEventLine, IsEventFault}
use Rattle.net_model.specs.Moments.{Moments}
use Rattle.execution_model.specs.Execution.{Setting}
use Rattle.execution_model.specs.Feeds.{Execution, next_moment, taken, after_feed, IsFed, first_open, IsWhole, IsFinished, IsDueAnswer}
use Rattle.execution_model.specs.declared.feed_answers.Act.{Act}
use Rattle.execution_model.specs.declared.feed_answers.Why.{Why}
use Rattle.execution_model.specs.declared.feed_answers.Fed.{Fed}
use Rattle.execution_model.specs.declared.feed_answers.Fed.TheVariants as fed
use Rattle.execution_model.specs.declared.feed_answers.Finished.{Finished}
use Rattle.execution_model.specs.declared.feed_answers.Finished.TheVariants as finished
use Rattle.command_engine.specs.declared.endings.End.{End}
use Rattle.command_engine.specs.declared.endings.End.TheVariants as ends
use Rattle.command_engine.specs.declared.machines.Flow.{Flow}
use Rattle.command_engine.specs.declared.machines.Flow.TheVariants.{Continue, Finish}
use Rattle.desk_feeding.specs.Feedings.{FeedingSeen}
use Rattle.event_phase.specs.EventRuns.{AreExecutingParts, EventRun, IsDeskOf, IsEventRun, event_run_by, event_run_in}
use Rattle.event_phase.specs.declared.phase.ExecutingParts.{ExecutingParts}
use Rattle.event_phase.specs.EventAnswers.{event_fault_line, NamesPoints}
use Rattle.event_phase.specs.EventPhase.{AnswersEvent, AnswersRead, EndsAmong, FeedsAmong, FeedsNamed, IsDeskAfter, PutsFed, TakesEvent}
use Rattle.event_phase.specs.CompletionOrders.{CompletionOrder, completion_order_where}
use Rattle.common_answers.specs.Faults.{fault_end}
use Rattle.common_answers.specs.declared.faults.Fault.TheVariants.{Format}
use Rattle.desk_feeding.proofs.FedLemmas.{network_stays}
use Rattle.event_phase.proofs.CompletionOrderLemmas.{completion_order_keeps}
use Rattle.event_phase.proofs.CauseLemmas.{IsActOf, acts_while_of_points, fed_acts_of_points, open_point, cause_names}

-- ---- feeds
module _ (execution : Execution) (moment : ℕ) (listed : List PointId) (answer : Fed) (after : Execution) (going : execution.refused ≡ None) where
  abbrev FedBy : Result Moments Why → Type 0
  FedBy (Err cause) = (answer ≡ fed.Refused cause) × (after ≡ record execution { refused = Some cause })
  FedBy (Ok moments) = (answer ≡ fed.Acts) × (after ≡ after_feed execution moment moments)

  abbrev FedWhere : Option Why → Type 0
  FedWhere (Some cause) = (answer ≡ fed.Ended cause) × (after ≡ execution)
  FedWhere None = FedBy (taken execution moment listed)

  fed_by : IsFed execution moment listed answer after → FedBy (taken execution moment listed)
  fed_by is = subst FedWhere going is

  -- a feed that was taken
  pub record Taken : Type 0 where
    pub acts : All (IsActOf execution.setting) after.acts
    pub setting : after.setting ≡ execution.setting
    pub goes_on : after.refused ≡ None

  pub fed_acts : IsFed execution moment listed answer after → answer ≡ fed.Acts → Taken
  fed_acts is acts = by (taken execution moment listed) (fed_by is)
    where
      by : (r : Result Moments Why) → FedBy r → Taken
      by (Err cause) (refused, same) = absurd (cc)
      by (Ok moments) (took, same) = record {
        acts = subst (λ (e : Execution). All (IsActOf execution.setting) e.acts) (sym same) (fed_acts_of_points execution moment moments);
        setting = ap (λ (e : Execution). e.setting) same;
        goes_on = ap (λ (e : Execution). e.refused) same ∙ going;
      }

  pub fed_cause : (net : Plan) (why : Why) → length execution.setting.dispatch ≡ length net.points → All (IsPoint net) listed → IsFed execution moment listed answer after
      → (answer ≡ fed.Refused why) ⊎ (answer ≡ fed.Ended why) → NamesPoints net why
  fed_cause net why same all is answered = by (taken execution moment listed) refl (fed_by is) answered
    where
      by : (r : Result Moments Why) → taken execution moment listed ≡ r → FedBy r → (answer ≡ fed.Refused why) ⊎ (answer ≡ fed.Ended why) → NamesPoints net why
      by (Ok moments) took (acts, same) (inl refused) = absurd (cc)
      by (Ok moments) took (acts, same) (inr ended) = absurd (cc)
      by (Err cause) took (refused, new) (inr ended) = absurd (cc)
      by (Err cause) took (refused, new) (inl so) =
          let one : cause ≡ why = cc in
          subst (NamesPoints net) one (cause_names net execution same moment listed cause all took)

-- a feed of an execution of a network names points of the network
pub feeds_among : (net : Plan) (execution : Execution) (moment : ℕ) (listed : List PointId) (answer : Fed) (after : Execution) → execution.refused ≡ None
    → length execution.setting.dispatch ≡ length net.points → All (IsPoint net) listed → IsFed execution moment listed answer after → length after.acts ≤ length after.setting.dispatch
    → FeedsAmong net answer after.acts
feeds_among net execution moment listed fed.Acts after going same all is few =
    let took = fed_acts execution moment listed fed.Acts after going is refl in (
      subst (λ (n : ℕ). length after.acts ≤ n) (ap (λ (s : Setting). length s.dispatch) took.setting ∙ same) few,
      subst (λ (n : ℕ). All (λ (act : Act). act.point.0 < n) after.acts) same took.acts,
    )
feeds_among net execution moment listed (fed.Refused why) after going same all is few = fed_cause execution moment listed (fed.Refused why) after going net why same all is (inl refl)
feeds_among net execution moment listed (fed.Ended why) after going same all is few = fed_cause execution moment listed (fed.Ended why) after going net why same all is (inr refl)

-- how a run continues after a feed that ends it so, or does not
abbrev pub flow_of : EventRun → Execution → Option End → Flow EventRun
flow_of state after None = Continue (record state { execution = after })
flow_of state after (Some end) = Finish end

-- what is put for a feed is the answer to a line that states it
pub fed_answers : (state : EventRun) (number moment : ℕ) (listed : List PointId) (answer : Fed) (after : Execution) (due : Option ℕ) (put : List ℕ) (ended : Option End)
    → IsFed state.execution moment listed answer after → IsDueAnswer after due → PutsFed state.net number answer after.acts due put ended
    → AnswersEvent state number (completed moment listed) put (flow_of state after ended)
fed_answers state number moment listed fed.Acts after due put None is next puts = (fed.Acts, after, is, (due, next, puts.0, refl))
fed_answers state number moment listed fed.Acts after due put (Some end) is next puts = absurd (cc (puts.1))
fed_answers state number moment listed (fed.Refused why) after due put None is next puts = absurd (cc (puts.1))
fed_answers state number moment listed (fed.Refused why) after due put (Some end) is next puts = let same : end ≡ ends.EventRefused = cc (puts.1) in (fed.Refused why, after, is, (puts.0, ap (λ (e : End). Finish e) same))
fed_answers state number moment listed (fed.Ended why) after due put None is next puts = absurd (cc (puts.1))
fed_answers state number moment listed (fed.Ended why) after due put (Some end) is next puts = let same : end ≡ ends.EventRefused = cc (puts.1) in (fed.Ended why, after, is, (puts.0, ap (λ (e : End). Finish e) same))

-- if a feed does not end it, the execution is still one of the network
pub keeps_event_run : (completion_order : CompletionOrder) (net : Plan) (execution : Execution) (moment : ℕ) (listed : List PointId) (answer : Fed) (after : Execution) (number : ℕ) (acts : List Act) (due : Option ℕ) (put : List ℕ)
    (ended : Option End) → IsEventRun (event_run_by completion_order net execution) → IsFed execution moment listed answer after → length after.moments ≡ length after.setting.dispatch
    → PutsFed net number answer acts due put ended → ended ≡ None → IsEventRun (event_run_by completion_order net after)
keeps_event_run completion_order net execution moment listed fed.Acts after number acts due put ended event_run is count puts none =
    let took = fed_acts execution moment listed fed.Acts after event_run.goes_on is refl in
    let same : length after.setting.dispatch ≡ length net.points = ap (λ (s : Setting). length s.dispatch) took.setting ∙ event_run.dispatch in
    record { moments = count ∙ same; dispatch = same; goes_on = took.goes_on }
keeps_event_run completion_order net execution moment listed (fed.Refused why) after number acts due put ended event_run is count puts none = absurd (cc (puts.1, none))
keeps_event_run completion_order net execution moment listed (fed.Ended why) after number acts due put ended event_run is count puts none = absurd (cc (puts.1, none))

-- ---- the desk
-- it stays that of the network
desk_stays : (net : Plan) (moments : Moments) (moment : ℕ) (named : List PointId) (before after : Option FeedingSeen) → IsDeskOf net before → IsDeskAfter net moments moment named before after → IsDeskOf net after
desk_stays net moments moment named None after is same = subst (IsDeskOf net) (sym same) tt
desk_stays net moments moment named (Some feeding) after is (later, same, feeds) = subst (IsDeskOf net) (sym same) (network_stays net moments moment named feeding later is feeds)

-- and so does the order in which points are fed
order_stays : (net : Plan) (moments : Moments) (moment : ℕ) (named : List PointId) (before after : Option FeedingSeen) → IsDeskAfter net moments moment named before after
    → completion_order_where after ≡ completion_order_where before
order_stays net moments moment named None after same = ap (λ (feeding : Option FeedingSeen). completion_order_where feeding) same
order_stays net moments moment named (Some feeding) after (later, same, feeds) = ap (λ (feeding : Option FeedingSeen). completion_order_where feeding) same

-- the points that a line named are fed in the completion order
module _ (before : ExecutingParts) (moment : ℕ) (answer : Fed) (after : ExecutingParts) (feeds : FeedsNamed before moment answer after) (are : AreExecutingParts before) where
  named_among : All (IsPoint before.net) before.events → length after.executor.acts ≤ length after.executor.setting.dispatch → FeedsAmong before.net answer after.executor.acts
  named_among all few =
      feeds_among before.net before.executor moment feeds.points answer after.executor are.event_run.goes_on are.event_run.dispatch
      (completion_order_keeps (completion_order_where before.feeding) (IsPoint before.net) before.events feeds.points feeds.ordered all)
      feeds.fed few

  same_net : after.net ≡ before.net
  same_net = ap (λ (parts : ExecutingParts). parts.net) feeds.same

  pub put_among : All (IsPoint before.net) before.events → length after.executor.acts ≤ length after.executor.moments → length after.executor.moments ≡ length after.executor.setting.dispatch
      → FeedsAmong after.net answer after.executor.acts
  put_among all few count = subst (λ (net : Plan). FeedsAmong net answer after.executor.acts) (sym same_net) (named_among all (subst (λ (n : ℕ). length after.executor.acts ≤ n) count few))

  module _ (number : ℕ) (due : Option ℕ) (put : List ℕ) (ended : Option End) (puts : PutsFed after.net number answer after.executor.acts due put ended) where
    puts_before : PutsFed before.net number answer after.executor.acts due put ended
    puts_before = subst (λ (net : Plan). PutsFed net number answer after.executor.acts due put ended) same_net puts

    pub named_answers : IsDueAnswer after.executor due → AnswersRead (event_run_in before) number (completed moment before.events) put (flow_of (event_run_in before) after.executor ended)
    named_answers next = (
      completed moment feeds.points,
      (feeds.points, feeds.ordered, refl),
      fed_answers (event_run_in before) number moment feeds.points answer after.executor due put ended feeds.fed next puts_before,
    )

    pub named_keeps : length after.executor.moments ≡ length after.executor.setting.dispatch → ended ≡ None → AreExecutingParts after
    named_keeps count none =
        let keeps = keeps_event_run (completion_order_where before.feeding) before.net before.executor moment feeds.points answer after.executor number after.executor.acts due put ended are.event_run feeds.fed count puts_before none in
        let from : AreExecutingParts (record before { executor = after.executor; feeding = after.feeding }) = record {
          event_run = record { moments = keeps.moments; dispatch = keeps.dispatch; goes_on = keeps.goes_on };
          desk = desk_stays before.net before.executor.moments moment before.events before.feeding after.feeding are.desk feeds.desk;
        } in
        subst AreExecutingParts (sym feeds.same) from

  -- the execution that they make up then
  pub event_run_after : event_run_in after ≡ record (event_run_in before) { execution = after.executor }
  event_run_after =
      ap event_run_in feeds.same
      ∙ ap (λ (order : CompletionOrder). event_run_by order before.net after.executor) (order_stays before.net before.executor.moments moment before.events before.feeding after.feeding feeds.desk)

-- ---- the end
module _ (execution : Execution) (answer : Finished) (after : Execution) (going : execution.refused ≡ None) where
  abbrev FinishedBy : Option PointId → Type 0
  FinishedBy (Some point) = (answer ≡ finished.Unfinished point) × (after ≡ execution)
  FinishedBy None = (answer ≡ finished.Complete) × IsWhole execution after

  abbrev FinishedWhere : Option Why → Type 0
  FinishedWhere (Some cause) = (answer ≡ finished.Ended cause) × (after ≡ execution)
  FinishedWhere None = FinishedBy (first_open execution)

  finished_by : IsFinished execution answer after → FinishedBy (first_open execution)
  finished_by is = subst FinishedWhere going is

  finished_acts : IsFinished execution answer after → answer ≡ finished.Complete → All (IsActOf execution.setting) after.acts × (after.setting ≡ execution.setting)
  finished_acts is complete = by (first_open execution) (finished_by is)
    where
      by : (o : Option PointId) → FinishedBy o → All (IsActOf execution.setting) after.acts × (after.setting ≡ execution.setting)
      by (Some point) (unfinished, same) = absurd (cc)
      by None (so, whole) = (
        subst (λ (e : Execution). All (IsActOf execution.setting) e.acts) (sym whole.after_it) (acts_while_of_points execution.setting execution.moments (next_moment execution) whole.count),
        ap (λ (e : Execution). e.setting) whole.after_it,
      )

  unfinished_point : (point : PointId) → IsFinished execution answer after → answer ≡ finished.Unfinished point → point.0 < length execution.setting.dispatch
  unfinished_point point is so = by (first_open execution) (open_point execution.setting execution.moments) (finished_by is)
    where
      by : (o : Option PointId) → IfSome o (λ p. p.0 < length execution.setting.dispatch) → FinishedBy o → point.0 < length execution.setting.dispatch
      by None stands (complete, whole) = absurd (cc)
      by (Some first) stands (unfinished, same) =
          let one : first ≡ point = cc in
          subst (λ (p : PointId). p.0 < length execution.setting.dispatch) one stands

-- the end of an execution of a network names points of the network
pub ends_among : (net : Plan) (execution : Execution) (answer : Finished) (after : Execution) → execution.refused ≡ None → length execution.setting.dispatch ≡ length net.points
    → IsFinished execution answer after → length after.acts ≤ length after.setting.dispatch → EndsAmong net answer after.acts
ends_among net execution answer after going same is few = by (first_open execution) answer refl (finished_by execution answer after going is)
  where
    by : (o : Option PointId) (a : Finished) → a ≡ answer → FinishedBy execution answer after going o → EndsAmong net a after.acts
    by None finished.Complete so finished_so =
        let (acts, setting) = finished_acts execution answer after going is (sym so) in (
          subst (λ (n : ℕ). length after.acts ≤ n) (ap (λ (s : Setting). length s.dispatch) setting ∙ same) few,
          subst (λ (n : ℕ). All (λ (act : Act). act.point.0 < n) after.acts) same acts,
        )
    by (Some first) (finished.Unfinished point) so (unfinished, kept) =
        subst (λ (n : ℕ). point.0 < n) same (unfinished_point execution answer after going point is (sym so))
    by None (finished.Unfinished point) so (complete, whole) = absurd (cc)
    by None (finished.Ended cause) so (complete, whole) = absurd (cc)
    by (Some first) finished.Complete so (unfinished, kept) = absurd (cc)
    by (Some first) (finished.Ended cause) so (unfinished, kept) = absurd (cc)

-- ---- lines of events
-- what a line states is answered so
pub reported_answers : (state : EventRun) (number : ℕ) (line : List ℕ) (read : EventLine) (put : List ℕ) (flow : Flow EventRun)
    → IsEventLine state.net read line → AnswersRead state number read put flow → TakesEvent state number line put flow
reported_answers state number line read put flow is (reported, reports_as, answers) = inl (reported, (read, is, reports_as), answers)

-- a line that states nothing is answered by its fault
pub fault_answers : (state : EventRun) (number : ℕ) (line : List ℕ) (kind : FormatKind) (put : List ℕ) (end : End) → IsEventFault state.net line kind
    → put ≡ event_fault_line number kind → end ≡ fault_end (Format number kind) → TakesEvent state number line put (Finish end)
fault_answers state number line kind put end is puts ended = inr (kind, is, puts, ap (λ (e : End). Finish e) ended)
