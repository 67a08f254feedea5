-- What holds of derivable edges and of the closure.
use Rattle.std.specs.Prelude.{◌≡◌, ◌≤◌, List, unsigned_abs}
use Rattle.std.specs.List.{All}
use Rattle.net_model.specs.Network.{Plan, IsPlan, greatest}
use Rattle.net_model.specs.Edges.{IsEdge}
use Rattle.net_model.specs.Rules.{Follows}
use Rattle.net_model.specs.declared.ids.PointId.{PointId}
use Rattle.net_model.specs.declared.part.Edge.{Edge}
use Rattle.closure_model.specs.Tables.{Graph, IsFor, HasBase, IsClosed, IsAtMost}
use Rattle.closure_model.specs.Derivable.{IsDerivable}
use Rattle.closure_model.specs.Closure.{IsClosure, HoldsDerivable, IsReached}
use Rattle.closure_model.specs.Orders.{IsCycle}

-- what follows from derivable edges by one rule is derivable
abbrev pub RulesKeepDerivable : Type 0
RulesKeepDerivable = (net : Plan) (earlier : List Edge) (edge : Edge) → All (IsDerivable net) earlier → Follows net earlier edge → IsDerivable net edge

-- a derivable edge is an edge of the network
abbrev pub DerivableAreEdges : Type 0
DerivableAreEdges = (net : Plan) (edge : Edge) → IsPlan net → IsDerivable net edge → IsEdge net edge

-- a derivable weight lies from -M to M, where M is the greatest size of a number of the network
abbrev pub DerivableAreBounded : Type 0
DerivableAreBounded = (net : Plan) (edge : Edge) → IsPlan net → IsDerivable net edge → unsigned_abs edge.weight ≤ greatest net

-- the base table of a network, and every table that rules reach from it, hold derivable edges only
abbrev pub ReachedAreDerivable : Type 0
ReachedAreDerivable = (net : Plan) (table : Graph) → IsReached net table → HoldsDerivable net table

-- if a network has a closure, it is closed and has the base edges
abbrev pub ClosureIsClosed : Type 0
ClosureIsClosed = (net : Plan) (table : Graph) → IsClosure net table → IsClosed net table × HasBase net table

-- the closure is the weakest closed table: every closed table has at each key of the closure a weight that is no greater
abbrev pub ClosureIsWeakest : Type 0
ClosureIsWeakest = (net : Plan) (table other : Graph) → IsClosure net table → IsClosed net other → IsAtMost other table

-- a network has one closure at most
abbrev pub ClosureIsOne : Type 0
ClosureIsOne = (net : Plan) (one two : Graph) → IsClosure net one → IsClosure net two → one ≡ two

-- a closed table of derivable edges is the closure
abbrev pub ClosedAndDerivableIsClosure : Type 0
ClosedAndDerivableIsClosure = (net : Plan) (table : Graph) → IsFor net table → IsClosed net table → HoldsDerivable net table → IsClosure net table

-- a cycle of derivable edges is a cycle of the closure
abbrev pub CyclesAreInClosures : Type 0
CyclesAreInClosures = (net : Plan) (table closure : Graph) (cycle : List PointId) → IsFor net table → HoldsDerivable net table → IsClosure net closure
    → IsCycle table cycle → IsCycle closure cycle
