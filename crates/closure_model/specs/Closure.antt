-- The closure of a network (Morris and Muscettola 2005, in this project's form): for each key its least derivable weight.
use Rattle.std.specs.Prelude.{◌≡◌, ℤ, MatchOption}
use Rattle.net_model.specs.Network.{Plan}
use Rattle.net_model.specs.Rules.{Follows}
use Rattle.net_model.specs.declared.part.Edge.{Edge}
use Rattle.closure_model.specs.Keys.{Key}
use Rattle.closure_model.specs.Tables.{Graph, weight_of, HasEdge, edges_of, lowered, base_table, IsFor, IsForwardClosed}
use Rattle.closure_model.specs.Derivable.{IsDerivable, IsDerivableFor, IsLeastDerivable}

-- the closure: a key has its least derivable weight, and is absent if it has no derivable weight
pub record IsClosure (net : Plan) (table : Graph) : Type 0 where
  pub for_network : IsFor net table
  pub weights : (key : Key) → MatchOption (weight_of table key) ((weight : ℤ) → ¬ IsDerivableFor net key weight) (IsLeastDerivable net key)

-- every edge of a table is derivable
abbrev pub HoldsDerivable : Plan → Graph → Type 0
HoldsDerivable net table = (edge : Edge) → HasEdge table edge → IsDerivable net edge

-- a forward closed table of a network whose edges are all derivable: there may be many, and the closure is one of them
pub record IsForwardTable (net : Plan) (table : Graph) : Type 0 where
  pub for_network : IsFor net table
  pub derivable : HoldsDerivable net table
  pub closed : IsForwardClosed net table

-- a table is reached from the base table of a network by rules, each applied to edges that the table then has
pub data IsReached (net : Plan) : Graph → Type 0 where
  base : (table : Graph) → table ≡ base_table net → IsReached net table
  more : (before table : Graph) (edge : Edge) → IsReached net before → Follows net (edges_of before) edge → table ≡ lowered before edge → IsReached net table
