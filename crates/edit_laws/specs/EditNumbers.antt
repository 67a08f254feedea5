-- What an edit takes away, and the numbers that points, bounds and links have afterwards: each is found by its name.
use Rattle.std.specs.Prelude.{◌==◌, ◌&&◌, ℕ, Bool, false, List, ◌++◌, map, filter, Option, Some, None, is_none, if◌then◌else◌, slice_get}
use Rattle.std.specs.List.{enumerate_from}
use Rattle.std.specs.Option.{option_and_then, option_map_or}
use Rattle.std.specs.Ordering.{int_eq}
use Rattle.std.specs.Str.{bytes_eq}
use Rattle.net_model.specs.Network.{Plan, point_named, bound_named, activation}
use Rattle.net_model.specs.NetworkParts.{point_name}
use Rattle.net_model.specs.declared.edit.Edit.TheVariants as edits
use Rattle.net_model.specs.declared.edit.Edit.{Edit}
use Rattle.net_model.specs.declared.ids.BoundId.{BoundId}
use Rattle.net_model.specs.declared.ids.LinkId.{LinkId}
use Rattle.net_model.specs.declared.ids.PointId.{PointId}
use Rattle.net_model.specs.declared.part.Bound.{Bound}
use Rattle.net_model.specs.declared.part.Link.{Link}
use Rattle.closure_model.specs.Derivations.{bound_node, link_node}
use Rattle.closure_model.specs.declared.derivation.Node.{Node}
use Rattle.edit_laws.specs.KeptLists.{Renumbering}

-- an edit sets the bound of a name
abbrev pub sets_bound : Edit → List ℕ → Bool
sets_bound (edits.SetBound name most) other = bytes_eq name other
sets_bound (edits.AddPoint name) other = false
sets_bound (edits.DropPoint name) other = false
sets_bound (edits.AddBound name from to most) other = false
sets_bound (edits.DropBound name) other = false
sets_bound (edits.AddLink from low high to) other = false
sets_bound (edits.DropLink to) other = false
sets_bound (edits.SetLink to low high) other = false

-- an edit sets the link that ends in the point of a name
abbrev pub sets_link : Edit → List ℕ → Bool
sets_link (edits.SetLink to low high) other = bytes_eq to other
sets_link (edits.AddPoint name) other = false
sets_link (edits.DropPoint name) other = false
sets_link (edits.AddBound name from to most) other = false
sets_link (edits.DropBound name) other = false
sets_link (edits.SetBound name most) other = false
sets_link (edits.AddLink from low high to) other = false
sets_link (edits.DropLink to) other = false

-- the point of a network that has the name of a point of another
abbrev pub point_in : (old new : Plan) → PointId → Option PointId
point_in old new point = option_and_then (point_named new) (slice_get old.points point.0)

-- what was found is this point
abbrev pub is_point : Option PointId → PointId → Bool
is_point found point = option_map_or (λ (other : PointId). other.0 == point.0) found false

-- a bound of the old network and one of its name in the new one are the same: between the same points, with the same number
abbrev pub is_same_bound : (old new : Plan) → Bound → Bound → Bool
is_same_bound old new bound other = is_point (point_in old new bound.from) other.from &&
    (is_point (point_in old new bound.to) other.to && int_eq bound.most other.most)

-- a link of the old network and one that ends in the point of the same name in the new one are the same: from the same point, with the
-- same durations
abbrev pub is_same_link : (old new : Plan) → Link → Link → Bool
is_same_link old new link other = is_point (point_in old new link.from) other.from && (int_eq link.low other.low && int_eq link.high other.high)

-- this number, if the same bound stands there in the new network
abbrev pub same_place : (old new : Plan) → Bound → BoundId → Option BoundId
same_place old new bound place = option_and_then (λ other. if is_same_bound old new bound other then Some place else None) (slice_get new.bounds place.0)

-- the number that a bound of the old network has in the new one: that of the bound of its name, if they are the same and the edit does not
-- set it
abbrev pub bound_in : (old : Plan) → Edit → (new : Plan) → Bound → Option BoundId
bound_in old edit new bound = if sets_bound edit bound.name then None else option_and_then (same_place old new bound) (bound_named new bound.name)

-- this number, if the same link stands there in the new network
abbrev pub same_link_place : (old new : Plan) → Link → LinkId → Option LinkId
same_link_place old new link place = option_and_then (λ other. if is_same_link old new link other then Some place else None) (slice_get new.links place.0)

-- the number that a link of the old network has in the new one: that of the link that ends in the point of the same name, if they are the
-- same and the edit does not set it
abbrev pub link_in : (old : Plan) → Edit → (new : Plan) → Link → Option LinkId
link_in old edit new link =
    if sets_link edit (point_name old.points link.to) then None else option_and_then
    (λ point. option_and_then (same_link_place old new link) (activation new point)) (point_in old new link.to)

-- the numbers that all have in the new network: a point that of the point of its name, bounds and links as `bound_in` and `link_in` say
abbrev pub renumbering : (old : Plan) → Edit → (new : Plan) → Renumbering
renumbering old edit new = record {
  points = λ point. option_map_or (λ other. other) (point_in old new point) point;
  bounds = λ id. option_and_then (bound_in old edit new) (slice_get old.bounds id.0);
  links = λ id. option_and_then (link_in old edit new) (slice_get old.links id.0);
}

-- a bound of the new network is new: the old one has none of its name, or that one is taken away
abbrev pub is_new_bound : (old : Plan) → Edit → (new : Plan) → Bound → Bool
is_new_bound old edit new bound = is_none (option_and_then (renumbering old edit new).bounds (bound_named old bound.name))

-- a link of the new network is new: in the old one none ends in the point of the same name, or that one is taken away
abbrev pub is_new_link : (old : Plan) → Edit → (new : Plan) → Link → Bool
is_new_link old edit new link = is_none (option_and_then (λ point. option_and_then (renumbering old edit new).links (activation old point))
    (point_in new old link.to))

-- the new bounds with their numbers, in order
abbrev pub new_bounds : (old : Plan) → Edit → (new : Plan) → List (ℕ × Bound)
new_bounds old edit new = filter (λ (e : ℕ × Bound). is_new_bound old edit new e.1) (enumerate_from 0 new.bounds)

-- the new links with their numbers, in order
abbrev pub new_links : (old : Plan) → Edit → (new : Plan) → List (ℕ × Link)
new_links old edit new = filter (λ (e : ℕ × Link). is_new_link old edit new e.1) (enumerate_from 0 new.links)

-- the base nodes of the new bounds, and then of the new links
abbrev pub new_base_nodes : (old : Plan) → Edit → (new : Plan) → List Node
new_base_nodes old edit new = map bound_node (new_bounds old edit new) ++ map link_node (new_links old edit new)
