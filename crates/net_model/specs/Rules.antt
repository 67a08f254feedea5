-- The reductions of the labelled distance graph (Morris and Muscettola 2005, in this project's exact form): each a function from its premises to its
-- conclusion, if it applies. The edges of bounds and links are the ones to begin with.
use Rattle.std.specs.Prelude.{◌≡◌, ◌==◌, ◌&&◌, not, ℕ, ℤ, pos, ◌+ℤ◌, ◌-ℤ◌, int_lt, Bool, false, List, Option, Some, None, is_some, is_none, slice_get, take}
use Rattle.std.specs.Prelude.{if◌then◌else◌}
use Rattle.std.specs.Int.{int_max}
use Rattle.std.specs.Option.{option_and_then, option_map_or}
use Rattle.std.specs.List.{Contains}
use Rattle.net_model.specs.Network.{Plan}
use Rattle.net_model.specs.Edges.{IsLinkOf}
use Rattle.net_model.specs.declared.ids.LinkId.{LinkId}
use Rattle.net_model.specs.declared.part.Bound.{Bound}
use Rattle.net_model.specs.declared.part.Edge.{Edge}
use Rattle.net_model.specs.declared.part.Link.{Link}

-- bound: a bound from X to Y of d gives X to Y of d
abbrev pub bound_edge : Bound → Edge
bound_edge bound = record { from = bound.from; to = bound.to; label = None; weight = bound.most }

-- link: a link from A to C of at most y gives C to A of -y, labelled by the link
abbrev pub link_edge : LinkId → Link → Edge
link_edge name link = record { from = link.to; to = link.from; label = Some name; weight = pos 0 -ℤ link.high }

-- an edge without a label
abbrev pub is_ordinary : Edge → Bool
is_ordinary edge = is_none edge.label

-- an edge with a label
abbrev pub is_labelled : Edge → Bool
is_labelled edge = is_some edge.label

-- an edge whose label is this link
abbrev pub is_labelled_by : LinkId → Edge → Bool
is_labelled_by name edge = option_map_or (λ label. label.0 == name.0) edge.label false

-- the second edge begins where the first ends
abbrev pub meet : Edge → Edge → Bool
meet first second = first.to.0 == second.from.0

-- an edge of a weight below 0
abbrev pub is_negative : Edge → Bool
is_negative edge = int_lt edge.weight (pos 0)

-- the weight of two edges in a row, of which the first counts as 0 if it is below
abbrev pub joined_weight : Edge → Edge → ℤ
joined_weight first second = int_max first.weight (pos 0) +ℤ second.weight

-- no-case: X to Y of v and Y to Z of u < 0 give X to Z of max(v, 0) + u
unfoldable pub no_case : Edge → Edge → Option Edge
no_case first second =
    if is_ordinary first && is_ordinary second && meet first second && is_negative second
    then Some (record { from = first.from; to = second.to; label = None; weight = joined_weight first second })
    else None

-- upper-case: X to Y of v and Y to A of u < 0, labelled B, give X to A of max(v, 0) + u, labelled B
unfoldable pub upper_case : Edge → Edge → Option Edge
upper_case first second =
    if is_ordinary first && is_labelled second && meet first second && is_negative second
    then Some (record { from = first.from; to = second.to; label = second.label; weight = joined_weight first second })
    else None

-- an edge of a weight below 0 that begins in the contingent point of a link
abbrev pub goes_on_from : Link → Edge → Bool
goes_on_from link second = second.from.0 == link.to.0 && is_negative second

-- what follows from an edge that goes on from a link of at least x: the edge from the link's activation point, of x more
abbrev pub moved_to_activation : Link → Edge → Edge
moved_to_activation link second = record { from = link.from; to = second.to; label = second.label; weight = link.low +ℤ second.weight }

-- lower-case: a link from A to C of at least x, and C to Z of u < 0, give A to Z of x + u
unfoldable pub lower_case : Plan → LinkId → Edge → Option Edge
lower_case net name second =
    option_and_then (λ link. if is_ordinary second && goes_on_from link second then Some (moved_to_activation link second) else None)
    (slice_get net.links name.0)

-- cross-case: a link from A to C of at least x, and C to D of u < 0, labelled by another link B, give A to D of x + u,
-- labelled B
unfoldable pub cross_case : Plan → LinkId → Edge → Option Edge
cross_case net name second =
    option_and_then (λ link. if is_labelled second && not (is_labelled_by name second) && goes_on_from link second then Some (moved_to_activation link second)
    else None) (slice_get net.links name.0)

-- removal: X to A of z, labelled by a link from A of at least x, gives X to A of max(z, -x)
unfoldable pub removal : Plan → Edge → Option Edge
removal net premise =
    option_and_then (λ name. option_and_then (λ link. Some (record premise { label = None; weight = int_max premise.weight (pos 0 -ℤ link.low) }))
    (slice_get net.links name.0)) premise.label

-- an edge follows from edges of a list by one rule
pub data Follows (net : Plan) (earlier : List Edge) (edge : Edge) : Type 0 where
  by_bound : (place : ℕ) (bound : Bound) → slice_get net.bounds place ≡ Some bound → bound_edge bound ≡ edge → Follows net earlier edge
  by_link : (name : LinkId) (link : Link) → IsLinkOf net name link → link_edge name link ≡ edge → Follows net earlier edge
  by_no_case : (first second : Edge) → Contains earlier first → Contains earlier second → no_case first second ≡ Some edge → Follows net earlier edge
  by_upper_case : (first second : Edge) → Contains earlier first → Contains earlier second → upper_case first second ≡ Some edge → Follows net earlier edge
  by_lower_case : (name : LinkId) (second : Edge) → Contains earlier second → lower_case net name second ≡ Some edge → Follows net earlier edge
  by_cross_case : (name : LinkId) (second : Edge) → Contains earlier second → cross_case net name second ≡ Some edge → Follows net earlier edge
  by_removal : (premise : Edge) → Contains earlier premise → removal net premise ≡ Some edge → Follows net earlier edge

-- a derivation: each edge follows from those before it
abbrev pub IsDerivation : Plan → List Edge → Type 0
IsDerivation net edges = (place : ℕ) (edge : Edge) → slice_get edges place ≡ Some edge → Follows net (take place edges) edge
