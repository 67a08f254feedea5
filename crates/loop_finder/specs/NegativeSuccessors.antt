-- Where the negative ordinary edges of a table go.
use Rattle.std.specs.Prelude.{◌≡◌, ◌<◌, ◌&&◌, ℕ, pos, int_lt, not, Bool, List, [], ◌∷◌, ◌++◌, length, filter, find, Option, slice_index_or, slice_set}
use Rattle.std.specs.Prelude.{if◌then◌else◌}
use Rattle.std.specs.List.{All}
use Rattle.net_model.specs.declared.ids.PointId.{PointId}
use Rattle.closure_model.specs.Keys.{all_points}
use Rattle.closure_model.specs.Orders.{goes, contains_point}
use Rattle.closure_model.specs.Tables.{Graph}
use Rattle.labelled_graph.specs.Entries.{is_ordinary}
use Rattle.labelled_graph.specs.declared.entry.Entry.{Entry}

-- the point of a number
abbrev pub point : ℕ → PointId
point k = record { 0 = k }

-- an entry of an ordinary edge of negative weight
abbrev pub is_negative_entry : Entry → Bool
is_negative_entry entry = is_ordinary entry && int_lt entry.weight (pos 0)

-- the list of a point
abbrev pub targets_of : List (List PointId) → PointId → List PointId
targets_of lists from = slice_index_or lists from.0 []

-- the lists after the target of an entry of a negative ordinary edge was put at the end of the list of its source
abbrev pub with_target : List (List PointId) → Entry → PointId → List (List PointId)
with_target lists entry to = if is_negative_entry entry then slice_set lists entry.from.0 (targets_of lists entry.from ++ to ∷ []) else lists

-- for each point the points to which a negative ordinary edge goes from it, in order
pub record AreNegativeSuccessors (graph : Graph) (lists : List (List PointId)) : Type 0 where
  pub count : length lists ≡ graph.shape.points
  pub each : (from : ℕ) → from < length lists → targets_of lists (point from) ≡ filter (goes graph (point from)) (all_points graph.shape)

-- the first point of the list of a point that is not placed
abbrev pub next_in : List (List PointId) → List PointId → PointId → Option PointId
next_in lists placed from = find (λ to. not (contains_point placed to)) (targets_of lists from)

-- the points of the lists are below a number
abbrev pub AreTargetsWithin : List (List PointId) → ℕ → Type 0
AreTargetsWithin lists count = (from : ℕ) → All (λ to. to.0 < count) (targets_of lists (point from))
