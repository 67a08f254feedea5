-- Edges of the labelled distance graph (Morris and Muscettola 2005): which edges a network may have.
use Rattle.std.specs.Prelude.{◌≡◌, Option, Some, None, slice_get}
use Rattle.net_model.specs.Network.{Plan, IsPoint}
use Rattle.net_model.specs.declared.ids.LinkId.{LinkId}
use Rattle.net_model.specs.declared.part.Edge.{Edge}
use Rattle.net_model.specs.declared.part.Link.{Link}

-- the link of a number
abbrev pub IsLinkOf : Plan → LinkId → Link → Type 0
IsLinkOf net name link = slice_get net.links name.0 ≡ Some link

-- a label is a link of the network, and its edge ends in the activation point of that link
abbrev pub IsLabelled : Plan → Edge → Option LinkId → Type 0
IsLabelled net edge None = Unit {0}
IsLabelled net edge (Some label) = (link : Link) × IsLinkOf net label link × (edge.to ≡ link.from)

-- an edge of a network: it goes from a point to a point and is well labelled
pub record IsEdge (net : Plan) (edge : Edge) : Type 0 where
  pub from_point : IsPoint net edge.from
  pub to_point : IsPoint net edge.to
  pub labelled : IsLabelled net edge edge.label

-- two edges meet: the second begins where the first ends
abbrev pub Meet : Edge → Edge → Type 0
Meet first second = first.to ≡ second.from
