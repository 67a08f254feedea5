-- The reference row: the least row of a target against a table. The keys of the row are settled one after another, always the one of least
-- weight, of equal ones the first in the order of keys (Dijkstra 1959; backwards from a target as in Morris 2014; the order of equal keys
-- and that of consequences are this project's own choice).
use Rattle.std.specs.Prelude.{◌≡◌, ◌≢◌, ◌==◌, ◌&&◌, ℕ, suc, zero, ℤ, ◌≤ℤ◌, ◌<ℤ◌, ◌≤◌, int_lt, unsigned_abs, Bool, true, false, List, [], ◌∷◌, ◌++◌, length, map}
use Rattle.std.specs.Prelude.{fold, slice_get, slice_set, Option, Some, None, if◌then◌else◌}
use Rattle.std.specs.Option.{option_map, option_map_or}
use Rattle.std.specs.List.{All, AllPairs, filter_map, flat_map}
use Rattle.net_model.specs.Network.{Plan, IsPlan, activation, greatest}
use Rattle.net_model.specs.Rules.{no_case, upper_case, lower_case, cross_case, removal}
use Rattle.net_model.specs.declared.ids.LinkId.{LinkId}
use Rattle.net_model.specs.declared.ids.PointId.{PointId}
use Rattle.net_model.specs.declared.part.Edge.{Edge}
use Rattle.closure_model.specs.Keys.{Key, key_of, edge_of, ordinary_key, row_keys, all_points}
use Rattle.closure_model.specs.Least.{first_least, IsFirstLeast, HasNoWeight}
use Rattle.closure_model.specs.Tables.{Graph, weight_of, lowered, HasEdge, HasAtMost, IsGraph, IsFor}
use Rattle.closure_model.specs.declared.rows.Made.{Made}
use Rattle.closure_model.specs.declared.rows.Slot.{Slot}
use Rattle.closure_model.specs.declared.rows.Why.{Why}
use Rattle.closure_model.specs.declared.rows.Why.TheVariants.{No, Up, Low, Cross, Drop}

-- what a rule gave, with how it did
abbrev pub given : Why → Option Edge → List Made
given why None = []
given why (Some edge) = record { edge = edge; why = why } ∷ []

-- the ordinary edges of a table that end in a point, in the order of the points in which they begin
abbrev pub ordinary_into : Graph → PointId → List Edge
ordinary_into table point = filter_map (λ from. option_map (edge_of (ordinary_key from point)) (weight_of table (ordinary_key from point)))
    (all_points table.shape)

-- what follows from an edge of a row by the removal of its label
abbrev pub from_removal : Plan → Edge → List Made
from_removal net edge = given (Drop edge) (removal net edge)

-- what follows over a link that ends where the edge begins
abbrev pub over_link : Plan → Edge → LinkId → List Made
over_link net edge link = given (Low link edge) (lower_case net link edge) ++ given (Cross link edge) (cross_case net link edge)

-- what follows over the link that ends where the edge begins, if one does
abbrev pub from_link : Plan → Edge → List Made
from_link net edge = option_map_or (over_link net edge) (activation net edge.from) []

-- what follows with one more edge before it
abbrev pub from_first : Edge → Edge → List Made
from_first edge first = given (No first edge) (no_case first edge) ++ given (Up first edge) (upper_case first edge)

-- The consequences of an edge of a row, in their order; first premises are always those of the table. First comes removal; then lower-case
-- or cross-case over the link that ends where the edge begins; then, for each ordinary edge of the table that ends there, in the order of
-- the points in which these begin, no-case or upper-case.
abbrev pub consequences : Plan → Graph → Edge → List Made
consequences net table edge = from_removal net edge ++ (from_link net edge ++ flat_map (from_first edge) (ordinary_into table edge.from))

-- the same label, or none
abbrev pub same_label : Option LinkId → Option LinkId → Bool
same_label None None = true
same_label None (Some label) = false
same_label (Some label) None = false
same_label (Some one) (Some other) = one.0 == other.0

-- a slot is the one of the key of an edge of its row
abbrev pub is_slot_of : Edge → Slot → Bool
is_slot_of edge slot = edge.from.0 == slot.from.0 && same_label edge.label slot.label

-- a slot has no weight, or a greater one
abbrev pub has_above : Slot → ℤ → Bool
has_above slot weight = option_map_or (λ old. int_lt weight old) slot.weight true

-- a slot takes what follows for its key exactly if it has no weight or a greater one
abbrev pub taken : Made → Slot → Slot
taken made slot = if has_above slot made.edge.weight then record slot { weight = Some made.edge.weight; why = Some made.why } else slot

-- a row after an edge was relaxed: the key of the edge takes its weight, its rule and its premises exactly if it has no weight or a greater
-- one
abbrev pub relaxed : List Slot → Made → List Slot
relaxed slots made = map (λ slot. if is_slot_of made.edge slot then taken made slot else slot) slots

-- the weight at which a slot can be settled: its own, if it has one and is not settled
abbrev pub open_weight : Slot → Option ℤ
open_weight slot = if slot.settled then None else slot.weight

-- the place and the weight of the slot that is settled next: of those that can be settled the one of least weight, the first of
-- these in the order of keys
abbrev pub next_slot : List Slot → Option (ℕ × ℤ)
next_slot slots = first_least open_weight slots

-- the edge of a slot of the row of a target, at a weight
abbrev pub edge_in : PointId → Slot → ℤ → Edge
edge_in to slot weight = record { from = slot.from; to = to; label = slot.label; weight = weight }

-- the slot of a key as a table has it, not settled
abbrev pub first_slot : Graph → Key → Slot
first_slot table key = record { from = key.from; label = key.label; weight = weight_of table key; why = None; settled = false }

-- the row of a target as a table has it, nothing settled
abbrev pub first_slots : Graph → PointId → List Slot
first_slots table to = map (first_slot table) (row_keys table.shape to)

-- a row while it is made: its slots in the order of keys, and the edges of the keys that improved, in the order of settling
pub record Making : Type 0 where
  pub slots : List Slot
  pub made : List Made

-- what the settling of a slot at a weight adds to the improvements
abbrev pub improved : PointId → Slot → ℤ → List Made
improved to slot weight = option_map_or (λ why. record { edge = edge_in to slot weight; why = why } ∷ []) slot.why []

-- the slots after the one at a place was settled at a weight: its consequences were relaxed
abbrev pub slots_after : Plan → Graph → PointId → List Slot → ℕ → Slot → ℤ → List Slot
slots_after net table to slots place slot weight = fold relaxed (slice_set slots place (record slot { settled = true }))
    (consequences net table (edge_in to slot weight))

-- the row after the slot at a place was settled at a weight
abbrev pub settled_at : Plan → Graph → PointId → Making → ℕ × ℤ → Making
settled_at net table to making next =
    option_map_or (λ slot. record { slots = slots_after net table to making.slots next.0 slot next.1; made = making.made ++ improved to slot next.1 })
    (slice_get making.slots next.0) making

-- the row after as many slots as a number says were settled, or fewer if no more can be
abbrev pub settled_times : Plan → Graph → PointId → ℕ → Making → Making
settled_times net table to zero making = making
settled_times net table to (suc times) making = option_map_or (λ next. settled_times net table to times (settled_at net table to making next))
    (next_slot making.slots) making

-- the row of a target when all that can be is settled: each step settles one more of its slots
abbrev pub settled_row : Plan → Graph → PointId → Making
settled_row net table to = settled_times net table to (length (row_keys table.shape to)) (record { slots = first_slots table to; made = [] })

-- the edges of the keys that improve in the row of a target against a table, in the order of settling
abbrev pub reference_row : Plan → Graph → PointId → List Made
reference_row net table to = (settled_row net table to).made

-- the table with edges, if it had none of their keys or greater ones
abbrev pub with_made : Graph → List Made → Graph
with_made table made = fold lowered table (map (λ (one : Made). one.edge) made)

-- an edge is derivable in the row of a target against a table: it is an edge of the table, or a rule gives it from one that is derivable in
-- the row, with an edge of the table before it if the rule takes two
pub data IsInRow (net : Plan) (table : Graph) (to : PointId) : Edge → Type 0 where
  of_table : (edge : Edge) → HasEdge table edge → edge.to ≡ to → IsInRow net table to edge
  by_no_case : (first second edge : Edge) → HasEdge table first → IsInRow net table to second → no_case first second ≡ Some edge → IsInRow net table to edge
  by_upper_case : (first second edge : Edge) → HasEdge table first → IsInRow net table to second → upper_case first second ≡ Some edge
      → IsInRow net table to edge
  by_lower_case : (name : LinkId) (second edge : Edge) → IsInRow net table to second → lower_case net name second ≡ Some edge → IsInRow net table to edge
  by_cross_case : (name : LinkId) (second edge : Edge) → IsInRow net table to second → cross_case net name second ≡ Some edge → IsInRow net table to edge
  by_removal : (premise edge : Edge) → IsInRow net table to premise → removal net premise ≡ Some edge → IsInRow net table to edge

-- a table has, of the keys of a target, each at the least weight that is derivable in the row against another table, and none other
pub record IsLeastRow (net : Plan) (table : Graph) (to : PointId) (after : Graph) : Type 0 where
  pub derivable : (edge : Edge) → HasEdge after edge → edge.to ≡ to → IsInRow net table to edge
  pub least : (edge : Edge) → IsInRow net table to edge → HasAtMost after edge

-- an edge is lighter than the one of its key that a table has, or the table has none
abbrev pub IsBelow : Graph → Edge → Type 0
IsBelow table edge = (weight : ℤ) → weight_of table (key_of edge) ≡ Some weight → edge.weight <ℤ weight

-- the improvements of the row of a target: put into the table they give the least row; each edge ends in the target and improves its key;
-- each key improves once; and no weight is below the one before it
pub record IsRowOf (net : Plan) (table : Graph) (to : PointId) (made : List Made) : Type 0 where
  pub least : IsLeastRow net table to (with_made table made)
  pub ends : All (λ (one : Made). one.edge.to ≡ to) made
  pub descends : All (λ (one : Made). IsBelow table one.edge) made
  pub once : AllPairs (λ (one other : Made). key_of one.edge ≢ key_of other.edge) made
  pub in_order : AllPairs (λ (one other : Made). one.edge.weight ≤ℤ other.edge.weight) made

-- The reference row is the least row.
abbrev pub RowsAreLeast : Type 0
RowsAreLeast = (net : Plan) (table : Graph) (to : PointId) → IsPlan net → IsFor net table → IsGraph table → IsRowOf net table to (reference_row net table to)

-- a weight from -M to M, where M is the greatest number of a network
abbrev pub IsWithin : Plan → ℤ → Type 0
IsWithin net weight = unsigned_abs weight ≤ greatest net

-- the weights of a table are from -M to M
abbrev pub HasWeightsWithin : Plan → Graph → Type 0
HasWeightsWithin net table = (edge : Edge) → HasEdge table edge → IsWithin net edge.weight

-- Whatever is derivable in a row is from -M to M if the weights of the table are.
abbrev pub RowsStayWithin : Type 0
RowsStayWithin = (net : Plan) (table : Graph) (to : PointId) → IsPlan net → HasWeightsWithin net table → (edge : Edge) → IsInRow net table to edge
    → IsWithin net edge.weight

-- no slot can be settled
abbrev pub IsAllSettled : List Slot → Type 0
IsAllSettled slots = HasNoWeight open_weight slots

-- the slot of a place is settled next: it can be settled at a weight, no other can at a lesser one, and none before it at the same
abbrev pub IsNextSlot : List Slot → ℕ × ℤ → Type 0
IsNextSlot slots next = IsFirstLeast open_weight slots next

-- Whatever slot is first of those that can be settled, it is the next one.
abbrev pub FirstIsNext : Type 0
FirstIsNext = (slots : List Slot) (next : ℕ × ℤ) → IsNextSlot slots next → next_slot slots ≡ Some next
