-- How the points that are placed, and how far a list of points was looked through, are kept.
use Rattle.std.specs.Prelude.{◌≡◌, ◌<◌, ◌≤◌, ℕ, Bool, true, false, List, length, slice_index_or}
use Rattle.net_model.specs.declared.ids.PointId.{PointId}
use Rattle.closure_model.specs.Orders.{contains_point}

-- a mark for each point says whether it stands in a list
abbrev pub AreMarks : List PointId → List Bool → Type 0
AreMarks points marks = (k : ℕ) → k < length marks → slice_index_or marks k false ≡ contains_point points (record { 0 = k })

-- the points of a list before a place are placed
pub record IsHead (placed targets : List PointId) (head : ℕ) : Type 0 where
  pub inside : head ≤ length targets
  pub placed_before : (k : ℕ) (d : PointId) → k < head → contains_point placed (slice_index_or targets k d) ≡ true
