-- Derivable edges (Morris and Muscettola 2005, in this project's exact form): those that a finite derivation by the rules gives.
-- No order of propagation occurs here.
use Rattle.std.specs.Prelude.{◌≡◌, ℕ, ℤ, ◌≤ℤ◌, Some, slice_get}
use Rattle.net_model.specs.Network.{Plan}
use Rattle.net_model.specs.Edges.{IsLinkOf}
use Rattle.net_model.specs.Rules.{bound_edge, link_edge, no_case, upper_case, lower_case, cross_case, removal}
use Rattle.net_model.specs.declared.ids.LinkId.{LinkId}
use Rattle.net_model.specs.declared.part.Bound.{Bound}
use Rattle.net_model.specs.declared.part.Edge.{Edge}
use Rattle.net_model.specs.declared.part.Link.{Link}
use Rattle.closure_model.specs.Keys.{Key, edge_of}

-- an edge is derivable: it is that of a bound or a link, or a rule gives it from derivable edges
pub data IsDerivable (net : Plan) : Edge → Type 0 where
  by_bound : (place : ℕ) (bound : Bound) (edge : Edge) → slice_get net.bounds place ≡ Some bound → bound_edge bound ≡ edge → IsDerivable net edge
  by_link : (name : LinkId) (link : Link) (edge : Edge) → IsLinkOf net name link → link_edge name link ≡ edge → IsDerivable net edge
  by_no_case : (first second edge : Edge) → IsDerivable net first → IsDerivable net second → no_case first second ≡ Some edge → IsDerivable net edge
  by_upper_case : (first second edge : Edge) → IsDerivable net first → IsDerivable net second → upper_case first second ≡ Some edge → IsDerivable net edge
  by_lower_case : (name : LinkId) (second edge : Edge) → IsDerivable net second → lower_case net name second ≡ Some edge → IsDerivable net edge
  by_cross_case : (name : LinkId) (second edge : Edge) → IsDerivable net second → cross_case net name second ≡ Some edge → IsDerivable net edge
  by_removal : (premise edge : Edge) → IsDerivable net premise → removal net premise ≡ Some edge → IsDerivable net edge

-- a weight is derivable for a key
abbrev pub IsDerivableFor : Plan → Key → ℤ → Type 0
IsDerivableFor net key weight = IsDerivable net (edge_of key weight)

-- the least weight that is derivable for a key
pub record IsLeastDerivable (net : Plan) (key : Key) (weight : ℤ) : Type 0 where
  pub derivable : IsDerivableFor net key weight
  pub least : (other : ℤ) → IsDerivableFor net key other → weight ≤ℤ other
