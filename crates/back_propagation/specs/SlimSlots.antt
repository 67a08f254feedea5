-- How the slots of a row are stored: a weight, a mark and whether it is settled for each place, and how the weights came that the table did not have. Where a
-- slot begins and its label follow from its place.
use Rattle.std.specs.Prelude.{◌≡◌, ◌==◌, ◌&&◌, ◌+◌, ◌*◌, ◌/◌, ◌%◌, ◌≤◌, ◌<◌, ◌^◌, ◌≤ℤ◌, ℕ, zero, suc, ℤ, pos, false, List, length, map, slice_get, IsSomeAnd}
use Rattle.std.specs.Prelude.{Option, Some, None, if◌then◌else◌}
use Rattle.std.specs.List.{range_with_len, slice_index_or}
use Rattle.std.specs.Ordering.{int_eq}
use Rattle.net_model.specs.Limits.{most_points}
use Rattle.net_model.specs.declared.ids.LinkId.{LinkId}
use Rattle.net_model.specs.declared.ids.PointId.{PointId}
use Rattle.closure_model.specs.Keys.{Key, row_keys}
use Rattle.closure_model.specs.Tables.{Graph, weight_of}
use Rattle.closure_model.specs.declared.rows.Slot.{Slot}
use Rattle.closure_model.specs.declared.rows.Why.{Why}
use Rattle.back_propagation.specs.SlotPlaces.{width_of}
use Rattle.back_propagation.specs.declared.slots.Slots.TheInside.{Inside}

-- what stands for a weight that the table lacks: the greatest number of 64 bits with a sign
abbrev pub no_weight : ℤ
no_weight = pos 9223372036854775807

-- what stands for a weight of a table, or for none
abbrev pub stored : Option ℤ → ℤ
stored None = no_weight
stored (Some weight) = weight

-- the weight of a slot: none if none stands there and the slot was not lowered
abbrev pub weight_in_slot : ℤ → ℕ → Option ℤ
weight_in_slot weight mark = if int_eq weight no_weight && mark == 0 then None else Some weight

-- how a slot got its weight: by what was stored as the last of so many, or by the table if by none
abbrev pub why_in : List Why → ℕ → Option Why
why_in whys zero = None
why_in whys (suc k) = slice_get whys k

-- the label of a column: none in the first
abbrev pub label_in : List LinkId → ℕ → Option LinkId
label_in labels zero = None
label_in labels (suc k) = slice_get labels k

-- how many slots each source has
abbrev pub width_in : Inside → ℕ
width_in slots = length slots.labels.items + 1

-- the slot at a place
abbrev pub slot_in : Inside → ℕ → Slot
slot_in slots place =
    record {
      from = record { 0 = place / width_in slots };
      label = label_in slots.labels.items (place % width_in slots);
      weight = weight_in_slot (slice_index_or slots.weights.items place (pos 0)) (slice_index_or slots.marks.items place 0);
      why = why_in slots.whys.items (slice_index_or slots.marks.items place 0);
      settled = slice_index_or slots.settled.items place false;
    }

-- the word of a slot stands by columns, in each by the points
abbrev pub word_place : Inside → ℕ → ℕ
word_place slots place = place % width_in slots * slots.points + place / width_in slots

-- the greatest word stands for no weight
abbrev pub greatest_word : ℤ
greatest_word = pos 2147483647

-- a word stands for what a slot has: it is the greatest one, or the slot has a weight that is no greater
abbrev pub StandsFor : ℤ → Option ℤ → Type 0
StandsFor word weight = (word ≡ greatest_word → ⊥) → IsSomeAnd weight (λ one. one ≤ℤ word)

-- the slots that are stored
abbrev pub slots_of : Inside → List Slot
slots_of slots = map (slot_in slots) (range_with_len 0 (length slots.weights.items))

-- all is there for each source and each column, the words stand for the weights, the marks are of what is stored, and no label has two columns
pub record IsSlim (slots : Inside) : Type 0 where
  pub few : slots.points ≤ most_points
  pub small : length slots.weights.items < 2 ^ 64
  pub places : length slots.weights.items ≡ slots.points * width_in slots
  pub marks : length slots.marks.items ≡ length slots.weights.items
  pub settled : length slots.settled.items ≡ length slots.weights.items
  pub words : length slots.words.items ≡ length slots.weights.items
  pub stand : (place : ℕ) → place < length slots.weights.items
      → StandsFor (slice_index_or slots.words.items (word_place slots place) (pos 0)) (slot_in slots place).weight
  pub apart : (one other : ℕ) → one < width_in slots → other < width_in slots → label_in slots.labels.items one ≡ label_in slots.labels.items other
      → one ≡ other
  pub whys : (place : ℕ) → slice_index_or slots.marks.items place 0 ≤ length slots.whys.items

-- what is stored for the keys of a row as a table has it
abbrev pub stored_of : Graph → Key → ℤ
stored_of table key = stored (weight_of table key)

-- words stand for what a table has at the keys of a row, by columns and in each by the points
abbrev pub StandForKeys : Graph → PointId → List ℤ → Type 0
StandForKeys table to words =
    (length words ≡ length (row_keys table.shape to))
    × ((place : ℕ) (key : Key) → slice_get (row_keys table.shape to) place ≡ Some key
    → StandsFor (slice_index_or words (place % width_of table.shape to * table.shape.points + place / width_of table.shape to) (pos 0))
    (weight_of table key))
