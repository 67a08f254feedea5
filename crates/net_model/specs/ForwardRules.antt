-- What follows forward from edges: by the rules of `Rules`, but by those of two edges only if the first is not negative (Morris 2014 prolongs edges by
-- such alone). A list of edges that has whatever follows forward from it decides whether a network is controllable, and is far shorter than the closure.
use Rattle.std.specs.Prelude.{◌≡◌, ℕ, pos, ◌≤ℤ◌, List, Some, slice_get}
use Rattle.std.specs.List.{Contains}
use Rattle.net_model.specs.Network.{Plan}
use Rattle.net_model.specs.Edges.{IsLinkOf}
use Rattle.net_model.specs.Rules.{bound_edge, link_edge, no_case, upper_case, lower_case, cross_case, removal}
use Rattle.net_model.specs.declared.ids.LinkId.{LinkId}
use Rattle.net_model.specs.declared.part.Bound.{Bound}
use Rattle.net_model.specs.declared.part.Edge.{Edge}
use Rattle.net_model.specs.declared.part.Link.{Link}

-- an edge follows forward from edges of a list by one rule: by no-case and upper-case only with a first edge that is not negative
pub data FollowsForward (net : Plan) (earlier : List Edge) (edge : Edge) : Type 0 where
  by_bound : (place : ℕ) (bound : Bound) → slice_get net.bounds place ≡ Some bound → bound_edge bound ≡ edge → FollowsForward net earlier edge
  by_link : (name : LinkId) (link : Link) → IsLinkOf net name link → link_edge name link ≡ edge → FollowsForward net earlier edge
  by_no_case : (first second : Edge) → Contains earlier first → Contains earlier second → pos 0 ≤ℤ first.weight → no_case first second ≡ Some edge
      → FollowsForward net earlier edge
  by_upper_case : (first second : Edge) → Contains earlier first → Contains earlier second → pos 0 ≤ℤ first.weight
      → upper_case first second ≡ Some edge → FollowsForward net earlier edge
  by_lower_case : (name : LinkId) (second : Edge) → Contains earlier second → lower_case net name second ≡ Some edge → FollowsForward net earlier edge
  by_cross_case : (name : LinkId) (second : Edge) → Contains earlier second → cross_case net name second ≡ Some edge → FollowsForward net earlier edge
  by_removal : (premise : Edge) → Contains earlier premise → removal net premise ≡ Some edge → FollowsForward net earlier edge
