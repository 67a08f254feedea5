-- Laws about the edits of a network.
use Rattle.std.specs.Prelude.{◌≡◌, ℕ, ℤ, Bool, false, not, List, [], ◌∷◌, ◌++◌, map, filter, Ok, IsTrue, if◌then◌else◌}
use Rattle.std.specs.Str.{bytes_eq}
use Rattle.net_model.specs.EditedNetwork.{edited}
use Rattle.net_model.specs.Names.{is_name}
use Rattle.net_model.specs.Network.{Plan, IsPlan, HasPlanNumbers}
use Rattle.net_model.specs.NetworkParts.{bound_part, link_part}
use Rattle.net_model.specs.declared.edit.Edit.{Edit}
use Rattle.net_model.specs.declared.edit.Edit.TheVariants as edits
use Rattle.net_model.specs.declared.part.Part.{Part}
use Rattle.net_model.specs.declared.part.Part.TheVariants as part

-- the names of an edit are names
abbrev pub HasNames : Edit → Type 0
HasNames (edits.AddPoint name) = IsTrue (is_name name)
HasNames (edits.DropPoint name) = IsTrue (is_name name)
HasNames (edits.AddBound name from to most) = IsTrue (is_name name) × IsTrue (is_name from) × IsTrue (is_name to)
HasNames (edits.DropBound name) = IsTrue (is_name name)
HasNames (edits.SetBound name most) = IsTrue (is_name name)
HasNames (edits.AddLink from low high to) = IsTrue (is_name from) × IsTrue (is_name to)
HasNames (edits.DropLink to) = IsTrue (is_name to)
HasNames (edits.SetLink to low high) = IsTrue (is_name to)

-- what an accepted edit makes of a sound network is sound, and has the numbers of a plan if the sound one has them
pub record KeepsSound (net : Plan) (edit : Edit) (new : Plan) : Type 0 where
  pub sound : IsPlan net → HasNames edit → IsPlan new
  pub numbers : HasPlanNumbers net → HasPlanNumbers new

-- what every accepted edit makes keeps that
abbrev pub EditsKeepSound : Type 0
EditsKeepSound = (net : Plan) (edit : Edit) (new : Plan) → edited net edit ≡ Ok new → KeepsSound net edit new

-- a network by names alone: its points, its bounds and its links as the parts that declare them, each list in its order, and
-- its delay
pub record ByNames : Type 0 where
  pub points : List (List ℕ)
  pub bounds : List Part
  pub links : List Part
  pub delay : ℕ

-- a network, by names alone
abbrev pub by_names : Plan → ByNames
by_names net = record { points = net.points; bounds = map (bound_part net.points) net.bounds; links = map (link_part net.points) net.links; delay = net.delay }

-- the part declares the bound of a name
abbrev pub is_bound_named : List ℕ → Part → Bool
is_bound_named name (part.Bound bound from to most) = bytes_eq name bound
is_bound_named name other = false

-- the part declares the link that ends in the point of a name
abbrev pub is_link_to : List ℕ → Part → Bool
is_link_to name (part.Link from low high to) = bytes_eq name to
is_link_to name other = false

-- the part with another number, or with another interval
abbrev pub part_with_most : ℤ → Part → Part
part_with_most most (part.Bound name from to old) = part.Bound name from to most
part_with_most most other = other

-- the part with another interval
abbrev pub part_with_interval : ℤ → ℤ → Part → Part
part_with_interval low high (part.Link from old_low old_high to) = part.Link from low high to
part_with_interval low high other = other

-- the effect of an edit, by names: what is added comes last; of what is dropped nothing is left; if a number or an interval is set, that is all that changes;
-- and all else keeps its name, its ends, its numbers and its order
abbrev pub effect : Edit → ByNames → ByNames
effect (edits.AddPoint name) it = record it { points = it.points ++ name ∷ [] }
effect (edits.DropPoint name) it = record it { points = filter (λ other. not (bytes_eq name other)) it.points }
effect (edits.AddBound name from to most) it = record it { bounds = it.bounds ++ part.Bound name from to most ∷ [] }
effect (edits.DropBound name) it = record it { bounds = filter (λ bound. not (is_bound_named name bound)) it.bounds }
effect (edits.SetBound name most) it = record it { bounds = map (λ bound. if is_bound_named name bound then part_with_most most bound else bound) it.bounds }
effect (edits.AddLink from low high to) it = record it { links = it.links ++ part.Link from low high to ∷ [] }
effect (edits.DropLink to) it = record it { links = filter (λ link. not (is_link_to to link)) it.links }
effect (edits.SetLink to low high) it = record it { links = map (λ link. if is_link_to to link then part_with_interval low high link else link) it.links }

-- an accepted edit of a sound network has its effect, by names
abbrev pub EditsChangeByNames : Type 0
EditsChangeByNames = (net : Plan) (edit : Edit) (new : Plan) → IsPlan net → edited net edit ≡ Ok new → by_names new ≡ effect edit (by_names net)
