-- What forward closed tables of a network say of its strategies, and that they cover every derivable edge.
use Rattle.std.specs.Prelude.{◌↔◌, ℕ, List}
use Rattle.net_model.specs.Network.{Plan, IsPlan}
use Rattle.net_model.specs.declared.ids.PointId.{PointId}
use Rattle.net_model.specs.declared.part.Edge.{Edge}
use Rattle.closure_model.specs.Tables.{Graph, edges_of, IsFor, IsGraph, IsClosed, IsForwardClosed}
use Rattle.closure_model.specs.Derivable.{IsDerivable}
use Rattle.closure_model.specs.Closure.{IsClosure, IsForwardTable}
use Rattle.strategy_model.specs.Situations.{IsSituation}
use Rattle.strategy_model.specs.Control.{IsControllable, IsEarliest}
use Rattle.strategy_model.specs.Dispatch.{IsForwardClosedList, IsDispatched}
use Rattle.closure_laws.specs.Forward.{IsDispatchedForward, IsCovered}

-- a closed table is forward closed
abbrev pub ClosedTablesAreForwardClosed : Type 0
ClosedTablesAreForwardClosed = (net : Plan) (table : Graph) → IsClosed net table → IsForwardClosed net table

-- the closure is a forward closed table of derivable edges
abbrev pub ClosuresAreForwardTables : Type 0
ClosuresAreForwardTables = (net : Plan) (table : Graph) → IsClosure net table → IsForwardTable net table

-- the edges of a sound table that is forward closed are a forward closed list
abbrev pub ForwardClosedTablesAreLists : Type 0
ForwardClosedTablesAreLists =
    (net : Plan) (table : Graph) → IsFor net table → IsGraph table → IsForwardClosed net table → IsForwardClosedList net (edges_of table)

-- and so are those of a forward closed table of derivable edges
abbrev pub ForwardTablesAreForwardLists : Type 0
ForwardTablesAreForwardLists = (net : Plan) (table : Graph) → IsPlan net → IsForwardTable net table → IsForwardClosedList net (edges_of table)

-- a network that has one with an order is controllable
abbrev pub OrderedForwardTablesAreControllable : Type 0
OrderedForwardTablesAreControllable = (net : Plan) (table : Graph) (order : List PointId) → IsDispatchedForward net table order → IsControllable net

-- a schedule is then the earliest of a situation exactly if it is that of the lower bounds and waits of the table
abbrev pub ForwardTablesDispatchEarliest : Type 0
ForwardTablesDispatchEarliest =
    (net : Plan) (table : Graph) (order : List PointId) (situation schedule : List ℕ) → IsDispatchedForward net table order
    → IsSituation net situation → (IsEarliest net situation schedule ↔ IsDispatched net (edges_of table) situation schedule)

-- so two such tables that have orders give the same schedules
abbrev pub ForwardTablesDispatchAlike : Type 0
ForwardTablesDispatchAlike =
    (net : Plan) (one two : Graph) (one_order two_order : List PointId) (situation schedule : List ℕ) → IsDispatchedForward net one one_order
    → IsDispatchedForward net two two_order → IsSituation net situation → IsDispatched net (edges_of one) situation schedule
    → IsDispatched net (edges_of two) situation schedule

-- every derivable edge is covered by a forward closed list
abbrev pub DerivableAreCovered : Type 0
DerivableAreCovered =
    (net : Plan) (edges : List Edge) (edge : Edge) → IsPlan net → IsForwardClosedList net edges → IsDerivable net edge → IsCovered edges edge
