-- How far the execution of one plan of a fleet is. This project's own choice.
use Rattle.std.specs.Prelude.{Option, Some, None}
use Rattle.execution_model.specs.Feeds.{Execution}
use Rattle.execution_model.specs.declared.feed_answers.Fed.{Fed}
use Rattle.execution_model.specs.declared.feed_answers.Fed.TheVariants as fed
use Rattle.execution_model.specs.declared.feed_answers.Finished.{Finished}
use Rattle.execution_model.specs.declared.feed_answers.Finished.TheVariants as finished
use Rattle.plan_fleet.specs.declared.plan_execution.PlanExecution.{PlanExecution}
use Rattle.plan_fleet.specs.declared.plan_execution.PlanExecution.TheVariants.{NotControllable, Running, Complete, Ended}
use Rattle.plan_fleet.specs.declared.states.State.{State}
use Rattle.plan_fleet.specs.declared.states.State.TheVariants as state

-- how a plan stands
abbrev pub state_of : PlanExecution → State
state_of NotControllable = state.NotControllable
state_of (Running execution) = state.Running
state_of (Complete execution) = state.Complete
state_of (Ended execution) = state.Ended

-- its execution, if it was started
abbrev pub execution_of : PlanExecution → Option Execution
execution_of NotControllable = None
execution_of (Running execution) = Some execution
execution_of (Complete execution) = Some execution
execution_of (Ended execution) = Some execution

-- one that runs is ended, or complete; every other stays as it is
abbrev pub ended : PlanExecution → PlanExecution
ended NotControllable = NotControllable
ended (Running execution) = Ended execution
ended (Complete execution) = Complete execution
ended (Ended execution) = Ended execution

abbrev pub completed : PlanExecution → PlanExecution
completed NotControllable = NotControllable
completed (Running execution) = Complete execution
completed (Complete execution) = Complete execution
completed (Ended execution) = Ended execution

-- after the answer to a feed: a refusal ends one that runs
abbrev pub execution_after_feed : Fed → PlanExecution → PlanExecution
execution_after_feed fed.Acts execution = execution
execution_after_feed (fed.Refused why) execution = ended execution
execution_after_feed (fed.Ended why) execution = ended execution

-- after the answer to its end: one that runs is complete, or ended
abbrev pub execution_after_finish : Finished → PlanExecution → PlanExecution
execution_after_finish finished.Complete execution = completed execution
execution_after_finish (finished.Unfinished point) execution = ended execution
execution_after_finish (finished.Ended why) execution = ended execution
