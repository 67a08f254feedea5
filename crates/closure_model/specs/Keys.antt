-- Keys of the labelled distance graph (Morris and Muscettola 2005, in this project's form): a key stands for all edges that
-- differ in their weight alone.
use Rattle.std.specs.Prelude.{◌≡◌, ◌==◌, ℕ, ℤ, ◌<◌, List, [], ◌∷◌, length, map, filter, Option, Some, None, slice_get}
use Rattle.std.specs.List.{enumerate_from, flat_map, range_with_len}
use Rattle.std.specs.declared.cmp.Ordering.{Ordering}
use Rattle.std.specs.Ordering.{nat_cmp}
use Rattle.std.specs.Cmp.Lexicographic.{slice_cmp}
use Rattle.net_model.specs.Network.{Plan}
use Rattle.net_model.specs.declared.ids.PointId.{PointId}
use Rattle.net_model.specs.declared.ids.LinkId.{LinkId}
use Rattle.net_model.specs.declared.part.Edge.{Edge}
use Rattle.net_model.specs.declared.part.Link.{Link}

-- a key: where its edges end and begin, and their label if they have one
pub record Key : Type 0 where
  pub to : PointId
  pub from : PointId
  pub label : Option LinkId

-- the key of an edge
abbrev pub key_of : Edge → Key
key_of edge = record { to = edge.to; from = edge.from; label = edge.label }

-- the edge of a key and a weight
abbrev pub edge_of : Key → ℤ → Edge
edge_of key weight = record { from = key.from; to = key.to; label = key.label; weight = weight }

-- the key of ordinary edges between two points
abbrev pub ordinary_key : (from to : PointId) → Key
ordinary_key from to = record { to = to; from = from; label = None }

-- the key of edges with a label
abbrev pub labelled_key : (from to : PointId) → LinkId → Key
labelled_key from to label = record { to = to; from = from; label = Some label }

-- the number of a label, if there is one
abbrev pub label_number : Option LinkId → List ℕ
label_number None = []
label_number (Some label) = label.0 ∷ []

-- a key by its numbers: its target, its source, its label if it has one
abbrev pub numbers : Key → List ℕ
numbers key = key.to.0 ∷ key.from.0 ∷ label_number key.label

-- The order of keys: by target, then by source, then the one without a label before those with one, then by label.
abbrev pub key_cmp : Key → Key → Ordering
key_cmp first second = slice_cmp nat_cmp (numbers first) (numbers second)

-- what decides which keys there are: how many points, and for each link the point in which it begins
pub record Shape : Type 0 where
  pub points : ℕ
  pub activations : List PointId

-- the shape of a network
abbrev pub shape_of : Plan → Shape
shape_of net = record { points = length net.points; activations = map (λ (link : Link). link.from) net.links }

-- a label is a link, and its edges end in the activation point of that link
abbrev pub IsLabelAt : Shape → PointId → Option LinkId → Type 0
IsLabelAt shape to None = Unit {0}
IsLabelAt shape to (Some label) = slice_get shape.activations label.0 ≡ Some to

-- a key that there is: it goes from a point to a point and is well labelled, which means that its label, if it has one, begins where it
-- ends
pub record IsKey (shape : Shape) (key : Key) : Type 0 where
  pub to_point : key.to.0 < shape.points
  pub from_point : key.from.0 < shape.points
  pub labelled : IsLabelAt shape key.to key.label

-- the points, in order
abbrev pub all_points : Shape → List PointId
all_points shape = map (λ k. record { 0 = k }) (range_with_len 0 shape.points)

-- the links that begin in a point, in order
abbrev pub labels_at : Shape → PointId → List LinkId
labels_at shape to = map (λ (e : ℕ × PointId). record { 0 = e.0 }) (filter (λ (e : ℕ × PointId). e.1.0 == to.0) (enumerate_from 0 shape.activations))

-- the keys of edges between two points: the ordinary one before the labelled ones
abbrev pub keys_between : Shape → (to from : PointId) → List Key
keys_between shape to from = ordinary_key from to ∷ map (labelled_key from to) (labels_at shape to)

-- the keys of the row of a target, in order
abbrev pub row_keys : Shape → PointId → List Key
row_keys shape to = flat_map (keys_between shape to) (all_points shape)

-- all keys that there are, in order
abbrev pub all_keys : Shape → List Key
all_keys shape = flat_map (row_keys shape) (all_points shape)
