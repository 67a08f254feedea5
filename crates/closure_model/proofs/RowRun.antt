-- A row in progress: settling what is left gives the settled row.
use Rattle.std.proofs.Common.{◌≡◌, ℕ, suc, ◌<◌, ℤ, List, [], ◌∷◌, length, map, Some, None, refl, ap, sym, subst, ◌∙◌, arith}
use Rattle.std.specs.Prelude.{slice_get}
use Rattle.std.specs.List.{All}
use Rattle.net_model.specs.Network.{Plan, IsPlan}
use Rattle.net_model.specs.declared.ids.PointId.{PointId}
use Rattle.net_model.specs.declared.part.Edge.{Edge}
use Rattle.closure_model.specs.Keys.{Key, key_of, row_keys, IsKey}
use Rattle.closure_model.specs.Least.{IsFirstLeast}
use Rattle.closure_model.specs.ReferenceRow.{Making, first_slot, first_slots, next_slot, open_weight, settled_times, settled_row, reference_row, edge_in, IsInRow, HasWeightsWithin, IsWithin, RowsStayWithin}
use Rattle.closure_model.specs.Tables.{Graph, IsFor, IsGraph}
use Rattle.closure_model.specs.declared.rows.Made.{Made}
use Rattle.closure_model.specs.declared.rows.Slot.{Slot}
use Rattle.closure_model.proofs.BaseLemmas.{all_contained}
use Rattle.closure_model.proofs.FirstLeast.{FirstIs, first_least-is}
use Rattle.closure_model.proofs.RoundClosure.{in_row_within}
use Rattle.closure_model.proofs.RowDerivable.{in_row_there}
use Rattle.closure_model.proofs.RowEdges.{IsMaking, later_making}
use Rattle.closure_model.proofs.RowLaw.{first_making, row_derived}
use Rattle.closure_model.proofs.RowSteps.{unsettled, IsSlotThere, slot_there, after_slot, unsettled-after, settled_times-none, settled_times-some}
use Rattle.closure_model.proofs.Slots.{key_in}

pub law_rows_stay_within : RowsStayWithin
law_rows_stay_within net table to plan within edge derived = in_row_within net plan table within to edge derived

pub record IsUnderWay (net : Plan) (table : Graph) (to : PointId) (making : Making) : Type 0 where
  pub is : (plan : IsPlan net) (fits : IsFor net table) (sound : IsGraph table) → IsMaking net table to plan fits sound making
  pub rest : settled_times net table to (unsettled making.slots) making ≡ settled_row net table to

unsettled_first : (table : Graph) (keys : List Key) → unsettled (map (first_slot table) keys) ≡ length keys
unsettled_first table [] = refl
unsettled_first table (key ∷ keys) = let rest = unsettled_first table keys in omega arith

module _ (net : Plan) (table : Graph) (to : PointId) where
  pub under_way_first : IsUnderWay net table to (record { slots = first_slots table to; made = [] })
  under_way_first = record {
    is = λ plan fits sound. first_making net table to plan fits sound;
    rest = ap (λ (n : ℕ). settled_times net table to n (record { slots = first_slots table to; made = [] })) (unsettled_first table (row_keys table.shape to));
  }

  -- the next slot, as the definition has it
  next_is : (making : Making) (next : ℕ × ℤ) → next_slot making.slots ≡ Some next → IsFirstLeast open_weight making.slots next
  next_is making next some = subst (FirstIs open_weight making.slots) some (first_least-is open_weight making.slots)

  pub next_there : (making : Making) (next : ℕ × ℤ) → next_slot making.slots ≡ Some next → IsSlotThere making.slots next
  next_there making next some = slot_there making.slots next (next_is making next some).here

  pub fewer_after : (making : Making) (next : ℕ × ℤ) (some : next_slot making.slots ≡ Some next) → unsettled (after_slot net table to making next (next_there making next some).slot).slots < unsettled making.slots
  fewer_after making next some =
      let there = next_there making next some in
      let fewer = unsettled-after net table to making next there.slot there.here there.is_open in
      omega arith

  pub under_way_next : (making : Making) (next : ℕ × ℤ) (some : next_slot making.slots ≡ Some next) → IsUnderWay net table to making → IsUnderWay net table to (after_slot net table to making next (next_there making next some).slot)
  under_way_next making next some progress =
      let there = next_there making next some in
      let fewer = unsettled-after net table to making next there.slot there.here there.is_open in
      let count : unsettled making.slots ≡ suc (unsettled (after_slot net table to making next there.slot).slots) = omega arith in
      record {
        is = λ plan fits sound. later_making net table to plan fits sound making (progress.is plan fits sound) next.0 there.slot next.1 there.here there.is_open there.has (next_is making next some);
        rest = sym (settled_times-some net table to (unsettled (after_slot net table to making next there.slot).slots) making next there.slot some there.here)
            ∙ (ap (λ (n : ℕ). settled_times net table to n making) (sym count) ∙ progress.rest);
      }

  pub under_way_done : (making : Making) → next_slot making.slots ≡ None → IsUnderWay net table to making → making.made ≡ reference_row net table to
  under_way_done making none progress = ap (λ (m : Making). m.made) (sym (settled_times-none net table to (unsettled making.slots) making none) ∙ progress.rest)

  module _ (plan : IsPlan net) (fits : IsFor net table) (sound : IsGraph table) where
    pub under_way_keys : (making : Making) → IsUnderWay net table to making → map (key_in to) making.slots ≡ row_keys table.shape to
    under_way_keys making progress = (progress.is plan fits sound).partly.row.keys

    pub under_way_derivable : (making : Making) → IsUnderWay net table to making → (place : ℕ) (slot : Slot) (weight : ℤ) → slice_get making.slots place ≡ Some slot → slot.weight ≡ Some weight → IsInRow net table to (edge_in to slot weight)
    under_way_derivable making progress = (progress.is plan fits sound).partly.row.derivable

    pub in_row_key : (edge : Edge) → IsInRow net table to edge → IsKey table.shape (key_of edge)
    in_row_key edge derived = (in_row_there net table to plan fits sound edge derived).key

    -- what improves is from -M to M
    pub row_within : HasWeightsWithin net table → All (λ (one : Made). IsWithin net one.edge.weight) (reference_row net table to)
    row_within within = all_contained (λ (one : Made). IsWithin net one.edge.weight) (reference_row net table to) (λ one inside. in_row_within net plan table within to one.edge (row_derived net table to plan fits sound one inside))
