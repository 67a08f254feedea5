-- Ordered forward closed tables, and the edges that a forward closed list covers.
use Rattle.std.specs.Prelude.{◌≡◌, pos, ◌≤ℤ◌, ◌<ℤ◌, List, None}
use Rattle.std.specs.List.{Contains}
use Rattle.net_model.specs.Network.{Plan}
use Rattle.net_model.specs.declared.ids.PointId.{PointId}
use Rattle.net_model.specs.declared.part.Edge.{Edge}
use Rattle.closure_model.specs.Closure.{IsForwardTable}
use Rattle.closure_model.specs.Orders.{IsOrder}
use Rattle.closure_model.specs.Tables.{Graph}
use Rattle.strategy_model.specs.Dispatch.{Stands}
use Rattle.strategy_model.specs.Plays.{IsInstant}

-- a network in which reaction is instantaneous, a forward closed table of its derivable edges, and an order of that: by these the network is controllable, and
-- dispatched
pub record IsDispatchedForward (net : Plan) (table : Graph) (order : List PointId) : Type 0 where
  pub instant : IsInstant net
  pub forward : IsForwardTable net table
  pub ordered : IsOrder table order

-- an edge is covered by a list: it stands there; or a negative ordinary edge of the list leads from where it begins to where a covered edge begins that ends
-- where it does, has its label, and its weight or less
pub data IsCovered (edges : List Edge) : Edge → Type 0 where
  stands : (edge : Edge) → Stands edges edge → IsCovered edges edge
  goes_by : (first next edge : Edge) → Contains edges first → first.label ≡ None → first.weight <ℤ pos 0 → first.from ≡ edge.from
      → first.to ≡ next.from → next.to ≡ edge.to → next.label ≡ edge.label → next.weight ≤ℤ edge.weight → IsCovered edges next → IsCovered edges edge
