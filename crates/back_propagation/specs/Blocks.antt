-- Blocks of entries that are tested before anything is relaxed.
use Rattle.std.specs.Prelude.{◌≡◌, ◌≤◌, ℕ, false, true, List, slice_get, Some}
use Rattle.net_model.specs.Rules.{joined_weight}
use Rattle.net_model.specs.declared.part.Edge.{Edge}
use Rattle.closure_model.specs.ReferenceRow.{has_above}
use Rattle.closure_model.specs.Tables.{Graph, HasEdge}
use Rattle.closure_model.specs.declared.rows.Slot.{Slot}
use Rattle.labelled_graph.specs.Entries.{edge_into, is_ordinary}
use Rattle.labelled_graph.specs.declared.entry.Entry.{Entry}
use Rattle.back_propagation.specs.DeltaRows.{goes_before}
use Rattle.back_propagation.specs.SlotPlaces.{place_in_slots}

-- the edge of an entry is one of the table
abbrev pub IsHeld : Graph → Edge → Entry → Type 0
IsHeld table edge entry = HasEdge table (edge_into edge.from entry)

-- with an edge after it, an ordinary edge does not go below the slot of the row where it begins
abbrev pub IsSaturatedIn : List Slot → ℕ → Edge → ℕ → Entry → Type 0
IsSaturatedIn slots width edge column entry = is_ordinary entry ≡ true → (slot : Slot) → slice_get slots (place_in_slots width entry.from column) ≡ Some slot
    → has_above slot (joined_weight (edge_into edge.from entry) edge) ≡ false

-- from one entry to the next the points in which they begin do not descend
abbrev pub Ascend : List Entry → Type 0
Ascend entries = (i j : ℕ) (one other : Entry) → i ≤ j → slice_get entries i ≡ Some one → slice_get entries j ≡ Some other → one.from.0 ≤ other.from.0

-- with an edge after it, no ordinary edge of a table that ends where that begins goes below the slot of the row where it begins
abbrev pub AllAreSaturated : Graph → List Slot → ℕ → Edge → ℕ → Type 0
AllAreSaturated table slots width edge column = (first : Edge) → HasEdge table first → goes_before first edge ≡ true → (slot : Slot)
    → slice_get slots (place_in_slots width first.from column) ≡ Some slot → has_above slot (joined_weight first edge) ≡ false
