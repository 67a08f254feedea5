-- What is made of the words of cells at the end. This project's own choice.
use Rattle.std.specs.Prelude.{◌≡◌, ◌<◌, ◌≤◌, ◌⊎◌, ℕ, ℤ, List, length, Some, slice_index}
use Rattle.std.specs.List.{All}
use Rattle.net_model.specs.declared.ids.PointId.{PointId}
use Rattle.net_model.specs.declared.part.Edge.{Edge}
use Rattle.closure_model.specs.Keys.{Key, IsKey, Shape, key_of, edge_of}
use Rattle.closure_model.specs.Tables.{Graph, HasEdge, HasAtMost, IsAtMost}
use Rattle.net_model.specs.Limits.{IsWeight, most_points, most_links}
use Rattle.cell_table.specs.Places.{held, word_place_of, word_count}

-- how many points a table has, and the points in which the edges of each label end
pub record AreOfShape (shape : Shape) (points : ℕ) (ends : List PointId) : Type 0 where
  pub points_are : points ≡ shape.points
  pub ends_are : ends ≡ shape.activations
  pub begins : All (λ (end : PointId). end.0 < points) ends
  pub few : points ≤ most_points
  pub few_links : length shape.activations ≤ most_links

-- the word of a key holds a weight
abbrev pub HoldsAt : Graph → List ℕ → Key → ℤ → Type 0
HoldsAt table words key weight = held (slice_index words (word_place_of table.shape key)) ≡ Some weight

-- the word at a place can be taken into a table
abbrev pub CanTakeAt : Graph → ℕ → ℕ → Type 0
CanTakeAt table place word = (key : Key) → IsKey table.shape key → word_place_of table.shape key ≡ place → (weight : ℤ) → held word ≡ Some weight
    → IsWeight weight

-- words can be taken into a table
pub record CanTake (table : Graph) (words : List ℕ) : Type 0 where
  pub sized : length words ≡ word_count table.shape
  pub each : (key : Key) → IsKey table.shape key → CanTakeAt table (word_place_of table.shape key) (slice_index words (word_place_of table.shape key))

-- a table took the word at a place
pub record TakesAt (before : Graph) (place : ℕ) (word : ℕ) (after : Graph) : Type 0 where
  pub shape_is : after.shape ≡ before.shape
  pub lower : IsAtMost after before
  pub given : (edge : Edge) → HasEdge after edge → HasEdge before edge
      ⊎ ((IsKey before.shape (key_of edge) × (word_place_of before.shape (key_of edge) ≡ place)) × (held word ≡ Some edge.weight))
  pub taken : (key : Key) → IsKey before.shape key → word_place_of before.shape key ≡ place → (weight : ℤ) → held word ≡ Some weight
      → HasAtMost after (edge_of key weight)

-- a table took words: it is lower; each edge is one that it had, or one that a word holds; and it has at most what each word holds
pub record TakesCellWords (before : Graph) (words : List ℕ) (after : Graph) : Type 0 where
  pub shape_is : after.shape ≡ before.shape
  pub lower : IsAtMost after before
  pub given : (edge : Edge) → HasEdge after edge → HasEdge before edge ⊎ (IsKey before.shape (key_of edge) × HoldsAt before words (key_of edge) edge.weight)
  pub taken : (key : Key) → IsKey before.shape key → (weight : ℤ) → HoldsAt before words key weight → HasAtMost after (edge_of key weight)
