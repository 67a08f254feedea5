-- The parts that declare a network.
use Rattle.std.specs.Prelude.{◌≡◌, ℕ, true, List, [], ◌++◌, map, IsTrue}
use Rattle.std.specs.List.{slice_index_or}
use Rattle.net_model.specs.Limits.{within_limit}
use Rattle.net_model.specs.Names.{is_name}
use Rattle.net_model.specs.Network.{Plan}
use Rattle.net_model.specs.declared.ids.PointId.{PointId}
use Rattle.net_model.specs.declared.part.Bound.{Bound}
use Rattle.net_model.specs.declared.part.Link.{Link}
use Rattle.net_model.specs.declared.part.Part.{Part}
use Rattle.net_model.specs.declared.part.Part.TheVariants as part

-- the name of a point
abbrev pub point_name : List (List ℕ) → PointId → List ℕ
point_name points point = slice_index_or points point.0 []

-- the part that declares a bound between points
abbrev pub bound_part : List (List ℕ) → Bound → Part
bound_part points bound = part.Bound bound.name (point_name points bound.from) (point_name points bound.to) bound.most

-- the part that declares a link between points
abbrev pub link_part : List (List ℕ) → Link → Part
link_part points link = part.Link (point_name points link.from) link.low link.high (point_name points link.to)

-- a part that can be declared: its names are names, and its numbers are within their limit
abbrev pub IsDeclarable : Part → Type 0
IsDeclarable (part.Point name) = IsTrue (is_name name)
IsDeclarable (part.Bound name from to most) = IsTrue (is_name name) × IsTrue (is_name from) × IsTrue (is_name to) × (within_limit most ≡ true)
IsDeclarable (part.Link from low high to) = IsTrue (is_name from) × (within_limit low ≡ true) × (within_limit high ≡ true) × IsTrue (is_name to)

-- the parts of a network: its points, its bounds and its links, each list in its order
abbrev pub parts_of : Plan → List Part
parts_of net =
    map part.Point net.points ++ (map (bound_part net.points) net.bounds ++ map (link_part net.points) net.links)
