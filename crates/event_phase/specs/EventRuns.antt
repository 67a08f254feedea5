-- The execution of a network over lines of events, as it stands.
use Rattle.std.specs.Prelude.{◌≡◌, ℕ, length, Option, Some, None}
use Rattle.net_model.specs.Network.{Plan}
use Rattle.execution_model.specs.Feeds.{Execution}
use Rattle.desk_feeding.specs.Feedings.{FeedingSeen, IsFeedingOf}
use Rattle.event_phase.specs.CompletionOrders.{CompletionOrder, as_named, completion_order_where}
use Rattle.event_phase.specs.declared.phase.ExecutingParts.{ExecutingParts}

-- the network, its execution, and in which order the points of a line are fed to it
pub record EventRun : Type 0 where
  pub net : Plan
  pub execution : Execution
  pub completion_order : CompletionOrder

-- one in which the points of a line are fed in this order
abbrev pub event_run_by : CompletionOrder → Plan → Execution → EventRun
event_run_by completion_order net execution = record { net = net; execution = execution; completion_order = completion_order }

-- one in which they are fed as the line names them
abbrev pub event_run_of : Plan → Execution → EventRun
event_run_of net execution = event_run_by as_named net execution

-- the execution is one of the points of the network, and no feed was refused
pub record IsEventRun (event_run : EventRun) : Type 0 where
  pub moments : length event_run.execution.moments ≡ length event_run.net.points
  pub dispatch : length event_run.execution.setting.dispatch ≡ length event_run.net.points
  pub goes_on : event_run.execution.refused ≡ None

-- the execution that parts make up: its points are fed in order of number if there is a desk
abbrev pub event_run_in : ExecutingParts → EventRun
event_run_in parts = event_run_by (completion_order_where parts.feeding) parts.net parts.executor

-- a desk, if there is one, is that of the network
abbrev pub IsDeskOf : Plan → Option FeedingSeen → Type 0
IsDeskOf net None = Unit {0}
IsDeskOf net (Some feeding) = IsFeedingOf net feeding

-- a desk has so many feeders, or there is none
abbrev pub HasFeeders : (count : Option ℕ) → Option FeedingSeen → Type 0
HasFeeders None None = Unit {0}
HasFeeders None (Some feeding) = ⊥
HasFeeders (Some count) None = ⊥
HasFeeders (Some count) (Some feeding) = length feeding.feeders ≡ count

-- parts make up an execution of their network
pub record AreExecutingParts (parts : ExecutingParts) : Type 0 where
  pub event_run : IsEventRun (event_run_in parts)
  pub desk : IsDeskOf parts.net parts.feeding
