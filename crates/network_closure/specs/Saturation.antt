-- A partial closure: a table that is lowered by derivable edges until every edge that follows is saturated, which means that the table has
-- its key at a weight that is no greater.
use Rattle.std.specs.Prelude.{◌≡◌, IfSome, MatchOption, List, Option, None, Some, false}
use Rattle.net_model.specs.Network.{Plan, IsPlan}
use Rattle.net_model.specs.Rules.{no_case, upper_case, lower_case, cross_case, removal}
use Rattle.net_model.specs.declared.ids.LinkId.{LinkId}
use Rattle.net_model.specs.declared.ids.PointId.{PointId}
use Rattle.net_model.specs.declared.part.Edge.{Edge}
use Rattle.closure_model.specs.Closure.{IsClosure, HoldsDerivable}
use Rattle.closure_model.specs.Derivable.{IsDerivable}
use Rattle.closure_model.specs.Keys.{Shape, IsKey, key_of}
use Rattle.closure_model.specs.Orders.{IsOrder, IsCycle, placed_points}
use Rattle.closure_model.specs.Tables.{Graph, HasEdge, HasAtMost, HasBase, IsAtMost, IsClosed, IsFor, has_at_most, lowered}
use Rattle.labelled_graph.specs.Words.{FitsWord}
use Rattle.network_closure.specs.declared.closure.Closed.{Closed}

-- a table is a partial closure of a network: it is one of the network, has the base edges, and all its edges are derivable
pub record IsPartialClosure (net : Plan) (table : Graph) : Type 0 where
  pub plan : IsPlan net
  pub fits : IsFor net table
  pub base : HasBase net table
  pub derivable : HoldsDerivable net table

-- a table of a network whose edges are all derivable
pub record IsOfDerivable (net : Plan) (table : Graph) : Type 0 where
  pub plan : IsPlan net
  pub fits : IsFor net table
  pub derivable : HoldsDerivable net table

-- a dense table is a partial closure, and each of it and another table has the edges of the other at weights that are no greater
pub record IsDenseOf (net : Plan) (table dense : Graph) : Type 0 where
  pub partial_closure : IsPartialClosure net dense
  pub at_most : IsAtMost dense table
  pub no_less : IsAtMost table dense

-- a table of derivable edges is another that was lowered to each of some edges
pub record IsLoweredTo (net : Plan) (among : Edge → Type 0) (old new : Graph) : Type 0 where
  pub of_derivable : IsOfDerivable net new
  pub at_most : IsAtMost new old
  pub has : (edge : Edge) → among edge → HasAtMost new edge

-- an edge that a table of these points and links may have, and a word may hold
pub record IsStorable (shape : Shape) (edge : Edge) : Type 0 where
  pub key : IsKey shape (key_of edge)
  pub weight : FitsWord edge.weight

-- a table, lowered to an edge if there is one
abbrev pub lowered_if : Graph → Option Edge → Graph
lowered_if table None = table
lowered_if table (Some edge) = lowered table edge

-- an edge of a table of a target
pub record IsEdgeTo (table : Graph) (to : PointId) (edge : Edge) : Type 0 where
  pub has : HasEdge table edge
  pub to_is : edge.to ≡ to

-- an edge of a table of a source and a target
pub record IsEdgeFromTo (table : Graph) (from : PointId) (to : PointId) (edge : Edge) : Type 0 where
  pub has : HasEdge table edge
  pub from_is : edge.from ≡ from
  pub to_is : edge.to ≡ to

-- a table saturates an edge: it has, at a weight that is no greater, whatever follows from the edge by the removal of its label, over a
-- link, or with an edge of the table before it
abbrev pub SaturatesRemoval : Plan → Graph → Edge → Type 0
SaturatesRemoval net table edge = (gives : Edge) → removal net edge ≡ Some gives → HasAtMost table gives

-- a table saturates an edge over links
pub record SaturatesOverLinks (net : Plan) (table : Graph) (edge : Edge) : Type 0 where
  pub lower_case : (name : LinkId) (gives : Edge) → lower_case net name edge ≡ Some gives → HasAtMost table gives
  pub cross_case : (name : LinkId) (gives : Edge) → cross_case net name edge ≡ Some gives → HasAtMost table gives

-- a table saturates an edge with this edge before it
pub record SaturatesAfter (table : Graph) (first edge : Edge) : Type 0 where
  pub no_case : (gives : Edge) → no_case first edge ≡ Some gives → HasAtMost table gives
  pub upper_case : (gives : Edge) → upper_case first edge ≡ Some gives → HasAtMost table gives

-- a table saturates an edge with every edge of the table before it
abbrev pub SaturatesFirsts : Graph → Edge → Type 0
SaturatesFirsts table edge = (first : Edge) → HasEdge table first → SaturatesAfter table first edge

-- a table saturates an edge by the removal of its label, over links and with every edge of the table before it
pub record SaturatesAll (net : Plan) (table : Graph) (edge : Edge) : Type 0 where
  pub removal : SaturatesRemoval net table edge
  pub over_links : SaturatesOverLinks net table edge
  pub firsts : SaturatesFirsts table edge

-- what follows from an edge over a link
pub record IsOverLinks (net : Plan) (edge : Edge) (given : Option Edge) : Type 0 where
  pub derivable : IfSome given (IsDerivable net)
  pub lower_case : (name : LinkId) (gives : Edge) → lower_case net name edge ≡ Some gives → given ≡ Some gives
  pub cross_case : (name : LinkId) (gives : Edge) → cross_case net name edge ≡ Some gives → given ≡ Some gives

-- what follows with an edge before it
pub record IsAfter (net : Plan) (first edge : Edge) (given : Option Edge) : Type 0 where
  pub derivable : IfSome given (IsDerivable net)
  pub no_case : (gives : Edge) → no_case first edge ≡ Some gives → given ≡ Some gives
  pub upper_case : (gives : Edge) → upper_case first edge ≡ Some gives → given ≡ Some gives

-- an edge of a table, of a source, a target and a label
pub record IsEdgeBetween (table : Graph) (from : PointId) (to : PointId) (label : Option LinkId) (edge : Edge) : Type 0 where
  pub has : HasEdge table edge
  pub from_is : edge.from ≡ from
  pub to_is : edge.to ≡ to
  pub label_is : edge.label ≡ label

-- an edge is unsaturated: it is derivable, and the table lacks its key or has it at a greater weight
pub record IsUnsaturated (net : Plan) (table : Graph) (edge : Edge) : Type 0 where
  pub derivable : IsDerivable net edge
  pub missed : has_at_most table edge ≡ false

-- what the test of a table comes to: it is closed, or there is an unsaturated edge
abbrev pub TestsTo : Plan → Graph → Option Edge → Type 0
TestsTo net table found = MatchOption found (IsClosed net table) (IsUnsaturated net table)

-- a network has derivable edges that are a cycle of negative ordinary edges
pub record HasDerivableCycle (net : Plan) : Type 0 where
  pub table : Graph
  pub cycle : List PointId
  pub derivable : HoldsDerivable net table
  pub fits : IsFor net table
  pub is : IsCycle table cycle

-- the closure of a network, and its order
pub record IsClosedBy (net : Plan) (closed : Closed) : Type 0 where
  pub closure : IsClosure net closed.table
  pub order : IsOrder closed.table closed.order
  pub placed : closed.order ≡ placed_points closed.table

-- what the closure of a network comes to: its closure and its order, or a cycle of negative ordinary edges
abbrev pub ClosesTo : Plan → Option Closed → Type 0
ClosesTo net closed = MatchOption closed (HasDerivableCycle net) (IsClosedBy net)
