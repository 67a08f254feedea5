-- The start of the execution of a network.
use Rattle.std.specs.Prelude.{◌≡◌, ℕ, List, ◌++◌, Option}
use Rattle.net_model.specs.Network.{Plan}
use Rattle.net_model.specs.declared.ids.PointId.{PointId}
use Rattle.closure_model.specs.Tables.{Graph}
use Rattle.execution_model.specs.Feeds.{Execution, started, IsDueAnswer}
use Rattle.canonical_closure.specs.CanonicalClosure.{IsDispatchedByClosure}
use Rattle.execution_model.specs.Laws.{setting_of}
use Rattle.command_engine.specs.declared.machines.Flow.{Flow}
use Rattle.command_engine.specs.declared.machines.Flow.TheVariants.{Continue}
use Rattle.common_answers.specs.VerdictLines.{controllable_line}
use Rattle.event_phase.specs.EventRuns.{EventRun, event_run_by}
use Rattle.event_phase.specs.EventAnswers.{due_line}
use Rattle.event_phase.specs.CompletionOrders.{CompletionOrder, as_named}

-- the start of an execution: it is put that the network is controllable, and the first due moment; and it is executed by the lower bounds and waits of its
-- closure; the points of a line are fed to it in this order
pub record BeginsExecutionBy (completion_order : CompletionOrder) (net : Plan) (answer : List ℕ) (flow : Flow EventRun) : Type 0 where
  pub table : Graph
  pub order : List PointId
  pub by_closure : IsDispatchedByClosure net table order
  pub due : Option ℕ
  pub first : IsDueAnswer (started (setting_of net table)) due
  pub put : answer ≡ controllable_line ++ due_line due
  pub goes : flow ≡ Continue (event_run_by completion_order net (started (setting_of net table)))

-- the start of an execution to which the points of a line are fed as the line names them: it is put that the network is controllable, and the first due moment
abbrev pub BeginsExecution : Plan → List ℕ → Flow EventRun → Type 0
BeginsExecution net answer flow = BeginsExecutionBy as_named net answer flow

-- it is put that a network is controllable, and the first due moment of its execution
abbrev pub PutsStart : Execution → List ℕ → Type 0
PutsStart execution put = (due : Option ℕ) × IsDueAnswer execution due × (put ≡ controllable_line ++ due_line due)
