-- The chains of points and the reduced edges of bounds, as functions.
use Rattle.std.specs.Prelude.{ℕ, zero, suc, List, [], ◌∷◌, Option, Some, None, length, slice_get}
use Rattle.std.specs.Option.{option_map, option_and_then, unwrap_or}
use Rattle.net_model.specs.Network.{Plan, activation}
use Rattle.net_model.specs.declared.ids.PointId.{PointId}
use Rattle.net_model.specs.declared.ids.LinkId.{LinkId}
use Rattle.net_model.specs.declared.part.Bound.{Bound}
use Rattle.net_model.specs.declared.part.Edge.{Edge}
use Rattle.net_model.specs.declared.part.Link.{Link}
use Rattle.strong_plan.specs.Chains.{reduced_weight}

-- the link that ends in a point
abbrev pub link_into : Plan → PointId → Option Link
link_into net point = option_and_then (λ (name : LinkId). slice_get net.links name.0) (activation net point)

-- the chain of a point, if it has fewer than so many links
abbrev pub chain_within : Plan → ℕ → PointId → Option (List Link)
chain_within net zero point = None
chain_within net (suc fuel) point =
    elim (link_into net point) [ None ↦ Some [] | Some link ↦ option_map (λ (chain : List Link). link ∷ chain) (chain_within net fuel link.from) ]

-- the chain of a point; no chain has more links than there are points
unfoldable pub chain_of : Plan → PointId → Option (List Link)
chain_of net point = chain_within net (suc (length net.points)) point

-- its links, or none if it has no root
abbrev pub links_of : Plan → PointId → List Link
links_of net point = unwrap_or (chain_of net point) []

-- where a chain of a point ends
abbrev pub root_of : PointId → List Link → PointId
root_of point [] = point
root_of point (link ∷ chain) = root_of link.from chain

-- the reduced edge of a bound whose points have these chains
abbrev pub edge_between : Bound → (from to : List Link) → Edge
edge_between bound from to =
    record { from = root_of bound.from from; to = root_of bound.to to; label = None; weight = reduced_weight bound.most from to }

-- the reduced edge of a bound, or none if a point of it has no root
abbrev pub reduced_edge : Plan → Bound → Option Edge
reduced_edge net bound =
    option_and_then (λ (from : List Link). option_map (edge_between bound from) (chain_of net bound.to)) (chain_of net bound.from)
