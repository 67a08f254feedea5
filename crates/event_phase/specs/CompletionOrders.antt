-- In which order the points that a line of events names are fed to an execution.
use Rattle.std.specs.Prelude.{◌≡◌, ℕ, List, Option, Some, None}
use Rattle.net_model.specs.Network.{Plan}
use Rattle.net_model.specs.declared.ids.PointId.{PointId}
use Rattle.event_stream.specs.EventText.{EventLine, blank, completed, done, IsEventLine}
use Rattle.desk_feeding.specs.Ordered.{IsInOrder}

-- in the order in which the line names them, or in the order of their numbers
pub data CompletionOrder : Type 0 where
  as_named : CompletionOrder
  in_order : CompletionOrder

-- the completion order if there are feeders, and the one without feeders
abbrev pub completion_order_where : {A : Type 0} → Option A → CompletionOrder
completion_order_where None = as_named
completion_order_where (Some feeders) = in_order

-- the points in the completion order
abbrev pub AreInCompletionOrder : CompletionOrder → (named ordered : List PointId) → Type 0
AreInCompletionOrder as_named named ordered = ordered ≡ named
AreInCompletionOrder in_order named ordered = IsInOrder named ordered

-- what a line reports to an execution, if this is what it states
abbrev pub ReportsAs : CompletionOrder → (read reported : EventLine) → Type 0
ReportsAs completion_order blank reported = reported ≡ blank
ReportsAs completion_order (completed moment named) reported = (points : List PointId) × AreInCompletionOrder completion_order named points
    × (reported ≡ completed moment points)
ReportsAs completion_order done reported = reported ≡ done

-- what a line reports to an execution: what it states, with its points in the completion order
abbrev pub ReportsEvent : CompletionOrder → Plan → EventLine → List ℕ → Type 0
ReportsEvent completion_order net reported line = (read : EventLine) × IsEventLine net read line × ReportsAs completion_order read reported
