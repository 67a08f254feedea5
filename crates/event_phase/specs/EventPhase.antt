-- The phase that executes a network over lines of events, whatever command opens it: each feed is answered by its acts and the next due moment.
use Rattle.std.specs.Prelude.{◌≡◌, ◌≤◌, ◌⊎◌, ℕ, ◌+◌, ◌*◌, List, [], ◌++◌, length, Option, Some, None}
use Rattle.std.specs.List.{All}
use Rattle.net_model.specs.Network.{Plan, IsPoint}
use Rattle.net_model.specs.Moments.{Moments}
use Rattle.net_model.specs.declared.format.FormatKind.{FormatKind}
use Rattle.net_model.specs.declared.format.FormatKind.TheVariants.{NoEnd}
use Rattle.net_model.specs.Limits.{most_moment}
use Rattle.net_model.specs.declared.ids.PointId.{PointId}
use Rattle.texts.specs.Limits.{most_line}
use Rattle.event_stream.specs.EventText.{EventLine, blank, completed, done, IsEventFault}
use Rattle.execution_model.specs.Feeds.{Execution, IsFed, IsFinished, IsDueAnswer}
use Rattle.execution_model.specs.declared.feed_answers.Act.{Act}
use Rattle.execution_model.specs.declared.feed_answers.Fed.{Fed}
use Rattle.execution_model.specs.declared.feed_answers.Fed.TheVariants as fed
use Rattle.execution_model.specs.declared.feed_answers.Finished.{Finished}
use Rattle.execution_model.specs.declared.feed_answers.Finished.TheVariants as finished
use Rattle.desk_feeding.specs.Feedings.{FeedingSeen, FeedsAtDesk}
use Rattle.command_engine.specs.Limits.{least_capacity}
use Rattle.command_engine.specs.Machine.{Machine}
use Rattle.command_engine.specs.declared.endings.End.{End}
use Rattle.command_engine.specs.declared.endings.End.TheVariants as ends
use Rattle.command_engine.specs.declared.machines.Flow.{Flow}
use Rattle.command_engine.specs.declared.machines.Flow.TheVariants.{Continue, Finish}
use Rattle.event_phase.specs.EventRuns.{EventRun}
use Rattle.event_phase.specs.declared.phase.ExecutingParts.{ExecutingParts}
use Rattle.event_phase.specs.CompletionOrders.{AreInCompletionOrder, ReportsAs, completion_order_where, ReportsEvent}
use Rattle.event_phase.specs.EventAnswers.{acts_text, due_line, complete_line, NamesPoints, why_words, unfinished_words, event_refusal_line, event_fault_line}
use Rattle.event_phase.specs.EventAnswers.{most_act}
use Rattle.common_answers.specs.Faults.{fault_line, fault_end, stop_fault}
use Rattle.common_answers.specs.declared.faults.Fault.TheVariants.{Format}

-- an event is refused: its line is put, and the run ends so
abbrev pub RefusesEvent : ℕ → List (List ℕ) → List ℕ → Flow EventRun → Type 0
RefusesEvent number words answer flow = (answer ≡ event_refusal_line number words) × (flow ≡ Finish ends.EventRefused)

-- the answer to a feed: its acts and the next due moment, or why it is refused
abbrev pub AnswersFeed : EventRun → ℕ → Fed → EventRun → List ℕ → Flow EventRun → Type 0
AnswersFeed state number fed.Acts after answer flow =
    (due : Option ℕ) × IsDueAnswer after.execution due
    × (answer ≡ acts_text state.net after.execution.acts ++ due_line due) × (flow ≡ Continue after)
AnswersFeed state number (fed.Refused cause) after answer flow = RefusesEvent number (why_words state.net cause) answer flow
AnswersFeed state number (fed.Ended cause) after answer flow = RefusesEvent number (why_words state.net cause) answer flow

-- the answer to the end: the acts that remain, or the contingent point that has not completed
abbrev pub AnswersEnd : Plan → ℕ → Finished → List Act → List ℕ → Flow EventRun → Type 0
AnswersEnd net number finished.Complete acts answer flow = (answer ≡ acts_text net acts ++ complete_line) × (flow ≡ Finish ends.Done)
AnswersEnd net number (finished.Unfinished point) acts answer flow = RefusesEvent number (unfinished_words net point) answer flow
AnswersEnd net number (finished.Ended cause) acts answer flow = RefusesEvent number (why_words net cause) answer flow

-- acts of points of a network, at most one for each point
abbrev pub AreActsOf : Plan → List Act → Type 0
AreActsOf net acts = (length acts ≤ length net.points) × All (λ (act : Act). IsPoint net act.point) acts

-- a feed names points of a network: those of its acts, and those of the cause
abbrev pub FeedsAmong : Plan → Fed → List Act → Type 0
FeedsAmong net fed.Acts acts = AreActsOf net acts
FeedsAmong net (fed.Refused cause) acts = NamesPoints net cause
FeedsAmong net (fed.Ended cause) acts = NamesPoints net cause

-- what is put for a feed, by its acts and the next due moment: these, and the execution continues; or why it is refused, and that ends it
abbrev pub PutsFed : Plan → ℕ → Fed → List Act → (due : Option ℕ) → (put : List ℕ) → Option End → Type 0
PutsFed net number fed.Acts acts due put ended = (put ≡ acts_text net acts ++ due_line due) × (ended ≡ None)
PutsFed net number (fed.Refused cause) acts due put ended = (put ≡ event_refusal_line number (why_words net cause)) × (ended ≡ Some ends.EventRefused)
PutsFed net number (fed.Ended cause) acts due put ended = (put ≡ event_refusal_line number (why_words net cause)) × (ended ≡ Some ends.EventRefused)

-- an end names points of a network: those of its acts, the one that has not completed, and those of the cause
abbrev pub EndsAmong : Plan → Finished → List Act → Type 0
EndsAmong net finished.Complete acts = AreActsOf net acts
EndsAmong net (finished.Unfinished point) acts = IsPoint net point
EndsAmong net (finished.Ended cause) acts = NamesPoints net cause

-- the answer to what a line of events states
abbrev pub AnswersEvent : EventRun → ℕ → EventLine → List ℕ → Flow EventRun → Type 0
AnswersEvent state number blank answer flow = (answer ≡ []) × (flow ≡ Continue state)
AnswersEvent state number (completed moment points) answer flow =
    (answered : Fed) × (after : Execution) × IsFed state.execution moment points answered after
    × AnswersFeed state number answered (record state { execution = after }) answer flow
AnswersEvent state number done answer flow =
    (answered : Finished) × (after : Execution) × IsFinished state.execution answered after × AnswersEnd state.net number answered after.acts answer flow

-- the answer to what a line of events states, with its points in the completion order
abbrev pub AnswersRead : EventRun → ℕ → EventLine → List ℕ → Flow EventRun → Type 0
AnswersRead state number read answer flow =
    (reported : EventLine) × ReportsAs state.completion_order read reported × AnswersEvent state number reported answer flow

-- the moment that a line states, if it states one, is within its limit
abbrev pub IsMomentWithin : EventLine → Type 0
IsMomentWithin blank = Unit {0}
IsMomentWithin (completed moment points) = moment ≤ most_moment
IsMomentWithin done = Unit {0}

-- at a desk, if there is one, the points that a line named are posted at a moment and read
abbrev pub IsDeskAfter : Plan → Moments → (moment : ℕ) → (named : List PointId) → Option FeedingSeen → Option FeedingSeen → Type 0
IsDeskAfter net moments moment named None after = after ≡ None
IsDeskAfter net moments moment named (Some feeding) after =
    (later : FeedingSeen) × (after ≡ Some later) × FeedsAtDesk net moments moment named feeding later

-- the points that the last line named are fed at a moment, in the completion order; nothing changes but the execution, and what was done at the desk
pub record FeedsNamed (before : ExecutingParts) (moment : ℕ) (answer : Fed) (after : ExecutingParts) : Type 0 where
  pub points : List PointId
  pub ordered : AreInCompletionOrder (completion_order_where before.feeding) before.events points
  pub fed : IsFed before.executor moment points answer after.executor
  pub desk : IsDeskAfter before.net before.executor.moments moment before.events before.feeding after.feeding
  pub same : after ≡ record before { executor = after.executor; feeding = after.feeding }

-- if the run continues, it does for the same network
abbrev pub GoesWith : Plan → Flow EventRun → Type 0
GoesWith net (Continue state) = state.net ≡ net
GoesWith net (Finish end) = Unit {0}

-- the answer to a line of events: to what it states, or its fault
abbrev pub TakesEvent : EventRun → ℕ → List ℕ → List ℕ → Flow EventRun → Type 0
TakesEvent state number line answer flow =
    ((reported : EventLine) × ReportsEvent state.completion_order state.net reported line × AnswersEvent state number reported answer flow)
    ⊎ ((kind : FormatKind) × IsEventFault state.net line kind × (answer ≡ event_fault_line number kind) × (flow ≡ Finish (fault_end (Format number kind))))

-- how many bytes an answer takes at most: a line for each point, and one more
abbrev pub answer_capacity : Plan → ℕ
answer_capacity net = most_act * length net.points + least_capacity

-- What the phase means; it needs no memory.
abbrev pub executing_machine : Machine EventRun
executing_machine = record {
  longest = λ state. most_line;
  takes = TakesEvent;
  stops = λ state number stop answer end. (answer ≡ fault_line (stop_fault number stop NoEnd)) × (end ≡ fault_end (stop_fault number stop NoEnd));
  may_want = λ state. ⊥;
  spare_capacity = λ state. answer_capacity state.net;
}
