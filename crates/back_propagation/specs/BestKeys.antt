-- The keys with which a row is seeded: of the candidates for a key over a delta edge and one of the row, that of least weight, and of several such the one over
-- the edge of the row that is settled first.
use Rattle.std.specs.Prelude.{◌≡◌, ◌≤◌, ◌⊎◌, ℕ, ℤ, Bool, ◌<ℤ◌, pos, true, false, List, Option, slice_get, Some}
use Rattle.std.specs.List.{Contains}
use Rattle.net_model.specs.Rules.{joined_weight}
use Rattle.net_model.specs.declared.ids.LinkId.{LinkId}
use Rattle.net_model.specs.declared.ids.PointId.{PointId}
use Rattle.net_model.specs.declared.part.Edge.{Edge}
use Rattle.closure_model.specs.DeltaEdges.{delta_at}
use Rattle.closure_model.specs.ReferenceRow.{edge_in, first_slots}
use Rattle.closure_model.specs.Tables.{Graph, has_at_most}
use Rattle.closure_model.specs.declared.rows.Slot.{Slot}
use Rattle.back_propagation.specs.DeltaRows.{goes_before}

-- the negative edge of a row at a place, with a delta edge before it, leads to a key of the row at a weight
pub record LeadsTo (table : Graph) (to : PointId) (delta : List (List Edge)) (place : ℕ) (weight : ℤ) (from : PointId) (label : Option LinkId)
    (total : ℤ) : Type 0 where
  pub slot : Slot
  pub here : slice_get (first_slots table to) place ≡ Some slot
  pub has : slot.weight ≡ Some weight
  pub negative : weight <ℤ pos 0
  pub first : Edge
  pub is_delta : Contains (delta_at delta slot.from) first
  pub before : goes_before first (edge_in to slot weight) ≡ true
  pub from_is : first.from ≡ from
  pub label_is : slot.label ≡ label
  pub total_is : total ≡ joined_weight first (edge_in to slot weight)

-- one candidate is not worse than another: it has a lesser weight, or the same over an edge that is not settled later
abbrev pub IsNoWorse : (total weight : ℤ) (place : ℕ) (other_total other_weight : ℤ) (other_place : ℕ) → Type 0
IsNoWorse total weight place other_total other_weight other_place = (total <ℤ other_total)
    ⊎ ((total ≡ other_total) × ((weight <ℤ other_weight) ⊎ ((weight ≡ other_weight) × (place ≤ other_place))))

-- a candidate for a key that is not worse begins at one of some places
pub record IsMatched (table : Graph) (to : PointId) (delta : List (List Edge)) (items : List (ℤ × ℕ)) (place : ℕ) (weight : ℤ) (from : PointId)
    (label : Option LinkId) (total : ℤ) : Type 0 where
  pub one : ℤ × ℕ
  pub inside : Contains items one
  pub reached : ℤ
  pub leads : LeadsTo table to delta one.1 one.0 from label reached
  pub no_worse : IsNoWorse reached one.0 one.1 total weight place

-- places of a row, each with the weight of its slot, where for each candidate below what the table has one begins that is not worse
pub record AreBest (table : Graph) (to : PointId) (delta : List (List Edge)) (items : List (ℤ × ℕ)) : Type 0 where
  pub sound : (item : ℤ × ℕ) → Contains items item → (slot : Slot) × (slice_get (first_slots table to) item.1 ≡ Some slot) × (slot.weight ≡ Some item.0)
  pub best : (place : ℕ) (weight : ℤ) (from : PointId) (label : Option LinkId) (total : ℤ) → LeadsTo table to delta place weight from label total
      → has_at_most table (record { from = from; to = to; label = label; weight = total }) ≡ false
      → IsMatched table to delta items place weight from label total

-- a candidate for a key that is not worse begins at a place with which a row is seeded
pub record IsOutdone (table : Graph) (to : PointId) (delta : List (List Edge)) (begins : ℕ → Bool) (place : ℕ) (weight : ℤ) (from : PointId)
    (label : Option LinkId) (total : ℤ) : Type 0 where
  pub other : ℕ
  pub begins_there : begins other ≡ true
  pub recorded : ℤ
  pub reached : ℤ
  pub leads : LeadsTo table to delta other recorded from label reached
  pub no_worse : IsNoWorse reached recorded other total weight place

-- for each candidate below what a table has, a row is seeded with a place where one begins that is not worse
abbrev pub IsSeededWithBest : Graph → PointId → List (List Edge) → (ℕ → Bool) → Type 0
IsSeededWithBest table to delta begins =
    (place : ℕ) (weight : ℤ) (from : PointId) (label : Option LinkId) (total : ℤ) → LeadsTo table to delta place weight from label total
    → has_at_most table (record { from = from; to = to; label = label; weight = total }) ≡ false
    → IsOutdone table to delta begins place weight from label total
