-- The base nodes of what is new in an edited network, by the numbers that the rest has there.
use Rattle.std.specs.Prelude.{ℕ, List, ◌++◌, Bool, map, filter, Option, is_none}
use Rattle.std.specs.Option.{option_and_then}
use Rattle.std.specs.List.{enumerate_from}
use Rattle.net_model.specs.Network.{Plan, bound_named, activation}
use Rattle.net_model.specs.declared.ids.BoundId.{BoundId}
use Rattle.net_model.specs.declared.ids.LinkId.{LinkId}
use Rattle.net_model.specs.declared.ids.PointId.{PointId}
use Rattle.net_model.specs.declared.part.Bound.{Bound}
use Rattle.net_model.specs.declared.part.Link.{Link}
use Rattle.closure_model.specs.Derivations.{bound_node, link_node}
use Rattle.closure_model.specs.declared.derivation.Node.{Node}
use Rattle.edit_laws.specs.KeptLists.{Renumbering}
use Rattle.edit_laws.specs.EditNumbers.{point_in}

-- the number in the edited network of the bound of the old one that has the name of this one, if it is not taken away
abbrev pub bound_before : Renumbering → Plan → Bound → Option BoundId
bound_before moves old bound = option_and_then moves.bounds (bound_named old bound.name)

-- the same of the link that ends in the point of the same name
abbrev pub link_before : Renumbering → (old new : Plan) → Link → Option LinkId
link_before moves old new link = option_and_then (λ (point : PointId). option_and_then moves.links (activation old point)) (point_in new old link.to)

-- a bound and a link of the edited network are new
abbrev pub is_bound_new : Renumbering → Plan → Bound → Bool
is_bound_new moves old bound = is_none (bound_before moves old bound)

-- a link of the edited network is new
abbrev pub is_link_new : Renumbering → (old new : Plan) → Link → Bool
is_link_new moves old new link = is_none (link_before moves old new link)

-- the base nodes of new bounds, in order, and of new links, in order
abbrev pub new_bound_nodes : Renumbering → (old new : Plan) → List Node
new_bound_nodes moves old new = map bound_node (filter (λ (e : ℕ × Bound). is_bound_new moves old e.1) (enumerate_from 0 new.bounds))

-- the base nodes of new links, in order
abbrev pub new_link_nodes : Renumbering → (old new : Plan) → List Node
new_link_nodes moves old new = map link_node (filter (λ (e : ℕ × Link). is_link_new moves old new e.1) (enumerate_from 0 new.links))

-- the base nodes of what is new: of bounds, and then of links
abbrev pub new_nodes : Renumbering → (old new : Plan) → List Node
new_nodes moves old new = new_bound_nodes moves old new ++ new_link_nodes moves old new
