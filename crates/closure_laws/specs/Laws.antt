-- What derivable edges, closed tables and the closure of a network say of its strategies.
use Rattle.std.specs.Prelude.{◌↔◌, ℕ, List}
use Rattle.std.specs.List.{All}
use Rattle.net_model.specs.Network.{Plan, IsPlan}
use Rattle.net_model.specs.declared.ids.PointId.{PointId}
use Rattle.net_model.specs.declared.part.Edge.{Edge}
use Rattle.closure_model.specs.Tables.{Graph, edges_of, IsFor, IsClosed, IsGraph}
use Rattle.closure_model.specs.Derivable.{IsDerivable}
use Rattle.closure_model.specs.Closure.{IsClosure, HoldsDerivable}
use Rattle.closure_model.specs.Derivations.{Support, StandsOn}
use Rattle.closure_model.specs.Orders as orders
use Rattle.strategy_model.specs.Situations.{IsSituation}
use Rattle.strategy_model.specs.Plays.{IsInstant}
use Rattle.strategy_model.specs.Control.{Controls, IsControllable, IsEarliest}
use Rattle.strategy_model.specs.Edges.{HoldsOf, IsNegativeCycle, HasNoNegativeCycle}
use Rattle.strategy_model.specs.Dispatch.{IsClosedList, IsOrder, IsDispatched}
use Rattle.strategy_model.specs.declared.tree.Tree.{Tree}

-- every derivable edge is true of every strategy that controls the network
abbrev pub DerivableAreTrue : Type 0
DerivableAreTrue = (net : Plan) (strategy : Tree) (edge : Edge) → IsInstant net → Controls strategy net → IsDerivable net edge → HoldsOf net strategy edge

-- so a cycle of negative ordinary edges that are derivable excludes every strategy that controls the network
abbrev pub DerivableCyclesExclude : Type 0
DerivableCyclesExclude = (net : Plan) (cycle : List Edge) → IsInstant net → All (IsDerivable net) cycle → IsNegativeCycle cycle → IsControllable net → ⊥

-- the edges of a closed table of a network are a closed list
abbrev pub ClosedTablesAreClosedLists : Type 0
ClosedTablesAreClosedLists = (net : Plan) (table : Graph) → IsFor net table → IsGraph table → IsClosed net table → IsClosedList net (edges_of table)

-- and so are those of its closure
abbrev pub ClosuresAreClosedLists : Type 0
ClosuresAreClosedLists = (net : Plan) (table : Graph) → IsPlan net → IsClosure net table → IsClosedList net (edges_of table)

-- a network is controllable exactly if its closure has no cycle of negative ordinary edges
abbrev pub ClosuresDecide : Type 0
ClosuresDecide = (net : Plan) (table : Graph) → IsInstant net → IsClosure net table → (IsControllable net ↔ HasNoNegativeCycle (edges_of table))

-- so it is controllable if its closure has an order
abbrev pub OrderedClosuresAreControllable : Type 0
OrderedClosuresAreControllable = (net : Plan) (table : Graph) (order : List PointId) → IsInstant net → IsClosure net table → orders.IsOrder table order
    → IsControllable net

-- and it is not if a table of derivable edges, closed or not, has a cycle
abbrev pub CyclesOfTablesExclude : Type 0
CyclesOfTablesExclude = (net : Plan) (table : Graph) (cycle : List PointId) → IsInstant net → HoldsDerivable net table → orders.IsCycle table cycle
    → IsControllable net → ⊥

-- so it is not if a table that stands on it with its derivation list has a cycle, whatever led to the list
abbrev pub StandingCyclesExclude : Type 0
StandingCyclesExclude = (net : Plan) (support : Support) (cycle : List PointId) → IsInstant net → StandsOn net support → orders.IsCycle support.table cycle
    → IsControllable net → ⊥

-- a schedule is the earliest of a situation exactly if it is that of the lower bounds and waits of the closure
abbrev pub ClosuresDispatchEarliest : Type 0
ClosuresDispatchEarliest =
    (net : Plan) (table : Graph) (order : List PointId) (situation schedule : List ℕ) → IsInstant net → IsClosure net table
    → IsOrder net (edges_of table) order → IsSituation net situation
    → (IsEarliest net situation schedule ↔ IsDispatched net (edges_of table) situation schedule)
