-- A row in the making, of which one slot more is settled.
use Rattle.std.proofs.Common.{◌≡◌, ℕ, ◌%◌, ◌<◌, ℤ, Bool, true, List, [], ◌++◌, fold, get_or, Some, refl, ap, sym, subst, ◌∙◌, is_some}
use Rattle.std.specs.Prelude.{slice_get, slice_set}
use Rattle.std.proofs.lemmas.Option.{get_or_from_slice_get, same_Some}
use Rattle.net_model.specs.declared.ids.PointId.{PointId}
use Rattle.net_model.specs.declared.part.Edge.{Edge}
use Rattle.closure_model.specs.ReferenceRow.{first_slots, next_slot, relaxed, consequences, edge_in, improved, reference_row}
use Rattle.closure_model.specs.declared.rows.Made.{Made}
use Rattle.closure_model.specs.declared.rows.Slot.{Slot}
use Rattle.closure_model.specs.PrunedRows.{IsAllDone}
use Rattle.closure_model.proofs.RowRun.{IsUnderWay, under_way_first, under_way_done}
use Rattle.closure_model.proofs.RowSteps.{unsettled}
use Rattle.back_propagation.specs.DeltaRows.{what_follows, IsDeltaRow}
use Rattle.back_propagation.specs.BestKeys.{IsSeededWithBest}
use Rattle.back_propagation.specs.SlotPlaces.{IsRowAgainst, IsOfRow}
use Rattle.back_propagation.specs.OpenRows.{IsSeededRow, IsRelaxing, HasRelaxed, HasSettled, IsSameButForQueue}
use Rattle.back_propagation.specs.QueuedPlaces.{IsQueued, IsNextSlotFound}
use Rattle.back_propagation.specs.declared.open_row.Basis.{Basis}
use Rattle.back_propagation.specs.declared.open_row.OpenRow.{OpenRow}
use Rattle.back_propagation.proofs.SeededSteps.{IsPrunedProgress, progress_first, pruned_has, pruned_marked, pruned_edge, pruned_rest, pruned_fewer, pruned_next, pruned_end}
use Rattle.back_propagation.proofs.RelaxSteps.{row_kept}
use Rattle.back_propagation.proofs.QueuedSteps.{found_next, found_rest, done_is_none}
use Rattle.back_propagation.proofs.SettleSteps.{marked_row, edge_of_row, has_is, settled_progress, settled_fewer}

-- one slot was found and settled: the queue alone was changed until a slot came that is settled next, and then this slot was marked
pub record HasSettledNext (begins : ℕ → Bool) (row middle marked : OpenRow) : Type 0 where
  pub next : ℤ × ℕ
  pub slot : Slot
  pub same : IsSameButForQueue row middle
  pub found : IsNextSlotFound begins middle.slots middle.queue next
  pub settled : HasSettled middle marked next.1 slot

-- an edge by the slot that was found, and by any weight that it has
pub of_slot : {begins : ℕ → Bool} (to : PointId) (row : OpenRow) (weight recorded : ℤ) (place : ℕ) (found : IsNextSlotFound begins row.slots row.queue (weight, place)) (edge : Edge) → recorded ≡ weight
    → ((slot : Slot) → slice_get row.slots place ≡ Some slot → edge ≡ edge_in to slot recorded) → (other : ℤ) → found.slot.weight ≡ Some other → edge ≡ edge_in to found.slot other
of_slot to row weight recorded place found edge kept is other has =
    let same : weight ≡ other = same_Some weight other (sym found.next.has ∙ has) in
    is found.slot found.next.here ∙ ap (edge_in to found.slot) (kept ∙ same)

-- the slots of a row, with the one at a place marked as settled
abbrev slots_marked : OpenRow → (place : ℕ) → Slot → List Slot
slots_marked row place slot = slice_set row.slots place (record slot { settled = true })

-- what was read at the place that was settled
was_read : (was now : OpenRow) (place : ℕ) (slot : Slot) → HasSettled was now place slot → slot ≡ get_or was.slots place slot
was_read was now place slot settled = sym (get_or_from_slice_get was.slots place slot slot settled.here)

-- the row with the slot marked is one in which what follows from its edge is relaxed
marked_relaxing : (basis : Basis) (to : PointId) (was now : OpenRow) (place : ℕ) (slot : Slot) (edge recorded : Edge) (column : ℕ) → HasSettled was now place slot → edge ≡ recorded → recorded.to ≡ to
    → IsRowAgainst basis.net.now basis.table.now to (slots_marked was place slot) was.width → IsOfRow basis.net.now basis.table.now to recorded column → IsRelaxing basis now edge column
marked_relaxing basis to was now place slot edge recorded column settled is ends row of_row =
    let slots : IsRowAgainst basis.net.now basis.table.now to now.slots now.width =
    subst (IsRowAgainst basis.net.now basis.table.now to now.slots) (sym settled.width) (subst (λ (list : List Slot). IsRowAgainst basis.net.now basis.table.now to list was.width) (sym settled.slots) row) in
    let same : to ≡ edge.to = sym (ap (λ (e : Edge). e.to) is ∙ ends) in
    record {
      slots = subst (λ (p : PointId). IsRowAgainst basis.net.now basis.table.now p now.slots now.width) same slots;
      of_row = subst (λ (p : PointId). IsOfRow basis.net.now basis.table.now p edge column) same (subst (λ (e : Edge). IsOfRow basis.net.now basis.table.now to e column) (sym is) of_row);
    }

-- the slots after what follows was relaxed
relaxed_after : (was marked after : OpenRow) (place : ℕ) (slot : Slot) (list : List Made) → HasSettled was marked place slot → HasRelaxed marked after list → after.slots ≡ fold relaxed (slots_marked was place slot) list
relaxed_after was marked after place slot list settled relaxes = relaxes.slots ∙ ap (λ (slots : List Slot). fold relaxed slots list) settled.slots

-- the row after what follows was relaxed
row_after_relaxations : (basis : Basis) (to : PointId) (was marked after : OpenRow) (place : ℕ) (slot : Slot) (list : List Made) → HasSettled was marked place slot → HasRelaxed marked after list
    → IsRowAgainst basis.net.now basis.table.now to (slots_marked was place slot) was.width → IsRowAgainst basis.net.now basis.table.now to after.slots after.width
row_after_relaxations basis to was marked after place slot list settled relaxes row =
    subst (IsRowAgainst basis.net.now basis.table.now to after.slots) (sym (relaxes.width ∙ settled.width))
    (row_kept basis.net.now basis.table.now to (slots_marked was place slot) after.slots was.width list (relaxed_after was marked after place slot list settled relaxes) row)

queue_after_relaxations : (begins : ℕ → Bool) (was marked after : OpenRow) (place : ℕ) (slot : Slot) (list : List Made) → HasSettled was marked place slot → HasRelaxed marked after list
    → IsQueued begins (slots_marked was place slot) was.queue → IsQueued begins after.slots after.queue
queue_after_relaxations begins was marked after place slot list settled relaxes rest =
    relaxes.queue begins (subst (IsQueued begins marked.slots) (sym settled.queue) (subst (λ (slots : List Slot). IsQueued begins slots was.queue) (sym settled.slots) rest))

-- ---- all slots are settled
pub record IsSettling (basis : Basis) (to : PointId) (row : OpenRow) (made : List Made) : Type 0 where
  pub candidate : IsUnderWay basis.net.now basis.table.now to (record { slots = row.slots; made = made })
  pub queue : IsQueued (λ _. true) row.slots row.queue
  pub slots : IsRowAgainst basis.net.now basis.table.now to row.slots row.width

pub settling_first : (basis : Basis) (to : PointId) (row : OpenRow) (made : List Made) → IsSeededRow basis to (λ _. true) row → made ≡ [] → IsSettling basis to row made
settling_first basis to row made first none = record {
  candidate = subst (IsUnderWay basis.net.now basis.table.now to) (λ i. record { slots = sym first.first i; made = sym none i }) (under_way_first basis.net.now basis.table.now to);
  queue = first.queue;
  slots = first.slots;
}

-- the queue alone was changed
settling_same : (basis : Basis) (to : PointId) (row middle : OpenRow) (made : List Made) → IsSettling basis to row made → IsSameButForQueue row middle
    → IsUnderWay basis.net.now basis.table.now to (record { slots = middle.slots; made = made }) × IsRowAgainst basis.net.now basis.table.now to middle.slots middle.width
settling_same basis to row middle made was same = (
  subst (λ (r : OpenRow). IsUnderWay basis.net.now basis.table.now to (record { slots = r.slots; made = made })) (sym same) was.candidate,
  subst (λ (r : OpenRow). IsRowAgainst basis.net.now basis.table.now to r.slots r.width) (sym same) was.slots,
)

module _ (basis : Basis) (to : PointId) (row middle marked : OpenRow) (made : List Made) (was : IsSettling basis to row made) (turn : HasSettledNext (λ _. true) row middle marked) where
  candidate : IsUnderWay basis.net.now basis.table.now to (record { slots = middle.slots; made = made })
  candidate = (settling_same basis to row middle made was turn.same).0

  some : next_slot middle.slots ≡ Some (turn.next.1, turn.next.0)
  some = found_next middle.slots middle.queue turn.next turn.found

  read : turn.slot ≡ get_or middle.slots turn.next.1 turn.slot
  read = was_read middle marked turn.next.1 turn.slot turn.settled

  settling_has : turn.slot.weight ≡ Some turn.next.0
  settling_has = has_is basis.net.now basis.table.now to (record { slots = middle.slots; made = made }) candidate (turn.next.1, turn.next.0) some turn.slot turn.slot read

  marked_is : IsRowAgainst basis.net.now basis.table.now to (slots_marked middle turn.next.1 turn.slot) middle.width
  marked_is =
      marked_row basis.net.now basis.table.now to (record { slots = middle.slots; made = made }) candidate (turn.next.1, turn.next.0) some turn.slot turn.slot read middle.width middle.slots
      (settling_same basis to row middle made was turn.same).1

  -- its edge
  module _ (edge : Edge) (of_slot : (weight : ℤ) → turn.slot.weight ≡ Some weight → edge ≡ edge_in to turn.slot weight) where
    is : edge ≡ edge_in to turn.slot turn.next.0
    is = of_slot turn.next.0 settling_has

    pub settling_relaxing : IsRelaxing basis marked edge (turn.next.1 % middle.width)
    settling_relaxing =
        marked_relaxing basis to middle marked turn.next.1 turn.slot edge (edge_in to turn.slot turn.next.0) (turn.next.1 % middle.width) turn.settled is refl marked_is
        (edge_of_row basis.net.now basis.table.now to (record { slots = middle.slots; made = made }) candidate (turn.next.1, turn.next.0) some turn.slot turn.slot read middle.width middle.slots
        (settling_same basis to row middle made was turn.same).1)

    module _ (after : OpenRow) (relaxes : HasRelaxed marked after (consequences basis.net.now basis.table.now edge)) where
      slots_after : after.slots ≡ fold relaxed (slots_marked middle turn.next.1 turn.slot) (consequences basis.net.now basis.table.now (edge_in to turn.slot turn.next.0))
      slots_after =
          relaxed_after middle marked after turn.next.1 turn.slot (consequences basis.net.now basis.table.now edge) turn.settled relaxes
          ∙ ap (λ (e : Edge). fold relaxed (slots_marked middle turn.next.1 turn.slot) (consequences basis.net.now basis.table.now e)) is

      pub settling_fewer : unsettled after.slots < unsettled row.slots
      settling_fewer =
          subst (λ (r : OpenRow). unsettled after.slots < unsettled r.slots) turn.same
          (settled_fewer basis.net.now basis.table.now to (record { slots = middle.slots; made = made }) candidate (turn.next.1, turn.next.0) some turn.slot turn.slot read after.slots slots_after)

      pub settling_next : (now : List Made) → (edge ≡ edge_in to turn.slot edge.weight → now ≡ made ++ improved to turn.slot edge.weight) → IsSettling basis to after now
      settling_next now improvements =
          let weight : edge.weight ≡ turn.next.0 = ap (λ (e : Edge). e.weight) is in
          let improved_is : now ≡ made ++ improved to turn.slot turn.next.0 = improvements (is ∙ ap (edge_in to turn.slot) (sym weight)) ∙ ap (λ (w : ℤ). made ++ improved to turn.slot w) weight in
          record {
            candidate =
                settled_progress basis.net.now basis.table.now to (record { slots = middle.slots; made = made }) candidate (turn.next.1, turn.next.0) some turn.slot turn.slot read after.slots now slots_after improved_is;
            queue =
                queue_after_relaxations (λ _. true) middle marked after turn.next.1 turn.slot (consequences basis.net.now basis.table.now edge) turn.settled relaxes
                (found_rest middle.slots middle.queue turn.next turn.slot (record turn.slot { settled = true }) turn.found (ap (λ (s : Slot). record s { settled = true }) read));
            slots = row_after_relaxations basis to middle marked after turn.next.1 turn.slot (consequences basis.net.now basis.table.now edge) turn.settled relaxes marked_is;
          }

pub settling_end : (basis : Basis) (to : PointId) (row middle : OpenRow) (made : List Made) → IsSettling basis to row made → IsSameButForQueue row middle → IsAllDone (λ _. true) middle.slots
    → made ≡ reference_row basis.net.now basis.table.now to
settling_end basis to row middle made was same done =
    under_way_done basis.net.now basis.table.now to (record { slots = middle.slots; made = made }) (done_is_none middle.slots done) (settling_same basis to row middle made was same).0

-- ---- the live slots are settled
pub record IsPrunedSettling (basis : Basis) (to : PointId) (delta : List (List Edge)) (begins : ℕ → Bool) (row : OpenRow) (made : List Made) : Type 0 where
  pub candidate : IsPrunedProgress basis.net.now basis.table.now to delta begins row.slots made
  pub queue : IsQueued begins row.slots row.queue
  pub slots : IsRowAgainst basis.net.now basis.table.now to row.slots row.width

pub pruned_settling_first : (basis : Basis) (to : PointId) (delta : List (List Edge)) (begins : ℕ → Bool) (row : OpenRow) (made : List Made) → IsSeededRow basis to begins row → made ≡ [] → IsPrunedSettling basis to delta begins row made
pruned_settling_first basis to delta begins row made first none = record {
  candidate =
      subst (λ (list : List Slot). IsPrunedProgress basis.net.now basis.table.now to delta begins list made) (sym first.first)
      (subst (IsPrunedProgress basis.net.now basis.table.now to delta begins (first_slots basis.table.now to)) (sym none) (progress_first basis.net.now basis.table.now to delta begins));
  queue = first.queue;
  slots = first.slots;
}

pruned_same : (basis : Basis) (to : PointId) (delta : List (List Edge)) (begins : ℕ → Bool) (row middle : OpenRow) (made : List Made) → IsPrunedSettling basis to delta begins row made → IsSameButForQueue row middle
    → IsPrunedProgress basis.net.now basis.table.now to delta begins middle.slots made × IsRowAgainst basis.net.now basis.table.now to middle.slots middle.width
pruned_same basis to delta begins row middle made was same = (
  subst (λ (r : OpenRow). IsPrunedProgress basis.net.now basis.table.now to delta begins r.slots made) (sym same) was.candidate,
  subst (λ (r : OpenRow). IsRowAgainst basis.net.now basis.table.now to r.slots r.width) (sym same) was.slots,
)

module _ (basis : Basis) (to : PointId) (delta : List (List Edge)) (begins : ℕ → Bool) (recorded : IsDeltaRow basis.net.now basis.table.now to delta) (best : IsSeededWithBest basis.table.now to delta begins) where
  module _ (row middle marked : OpenRow) (made : List Made) (was : IsPrunedSettling basis to delta begins row made) (turn : HasSettledNext begins row middle marked) where
    there : IsPrunedProgress basis.net.now basis.table.now to delta begins middle.slots made × IsRowAgainst basis.net.now basis.table.now to middle.slots middle.width
    there = pruned_same basis to delta begins row middle made was turn.same

    pruned_read : turn.slot ≡ get_or middle.slots turn.next.1 turn.slot
    pruned_read = was_read middle marked turn.next.1 turn.slot turn.settled

    pruned_settling_has : turn.slot.weight ≡ Some turn.next.0
    pruned_settling_has = pruned_has basis.net.now basis.table.now to begins middle.slots made middle.queue turn.next turn.found turn.slot turn.slot pruned_read

    pruned_marked_is : IsRowAgainst basis.net.now basis.table.now to (slots_marked middle turn.next.1 turn.slot) middle.width
    pruned_marked_is = pruned_marked basis.net.now basis.table.now to begins middle.slots made middle.queue turn.next turn.found turn.slot turn.slot pruned_read middle.width there.1

    -- its edge
    module _ (edge : Edge) (of_slot : (weight : ℤ) → turn.slot.weight ≡ Some weight → edge ≡ edge_in to turn.slot weight) where
      pruned_is : edge ≡ edge_in to turn.slot turn.next.0
      pruned_is = of_slot turn.next.0 pruned_settling_has

      pub pruned_settling_relaxing : IsRelaxing basis marked edge (turn.next.1 % middle.width)
      pruned_settling_relaxing =
          marked_relaxing basis to middle marked turn.next.1 turn.slot edge (edge_in to turn.slot turn.next.0) (turn.next.1 % middle.width) turn.settled pruned_is refl pruned_marked_is
          (pruned_edge basis.net.now basis.table.now to begins middle.slots made middle.queue turn.next turn.found turn.slot turn.slot pruned_read delta middle.width there.1 recorded.delta.edges recorded.met best there.0)

      module _ (after : OpenRow) (relaxes : HasRelaxed marked after (what_follows basis.net.now basis.table.now delta (is_some turn.slot.why) edge)) where
        pruned_slots_after : after.slots ≡ fold relaxed (slots_marked middle turn.next.1 turn.slot) (what_follows basis.net.now basis.table.now delta (is_some turn.slot.why) (edge_in to turn.slot turn.next.0))
        pruned_slots_after =
            relaxed_after middle marked after turn.next.1 turn.slot (what_follows basis.net.now basis.table.now delta (is_some turn.slot.why) edge) turn.settled relaxes
            ∙ ap (λ (e : Edge). fold relaxed (slots_marked middle turn.next.1 turn.slot) (what_follows basis.net.now basis.table.now delta (is_some turn.slot.why) e)) pruned_is

        pub pruned_settling_fewer : unsettled after.slots < unsettled row.slots
        pruned_settling_fewer =
            subst (λ (r : OpenRow). unsettled after.slots < unsettled r.slots) turn.same
            (pruned_fewer basis.net.now basis.table.now to begins middle.slots made middle.queue turn.next turn.found turn.slot turn.slot pruned_read delta after.slots pruned_slots_after)

        pub pruned_settling_next : (now : List Made) → (edge ≡ edge_in to turn.slot edge.weight → now ≡ made ++ improved to turn.slot edge.weight) → IsPrunedSettling basis to delta begins after now
        pruned_settling_next now improvements =
            let weight : edge.weight ≡ turn.next.0 = ap (λ (e : Edge). e.weight) pruned_is in
            let improved_is : now ≡ made ++ improved to turn.slot turn.next.0 = improvements (pruned_is ∙ ap (edge_in to turn.slot) (sym weight)) ∙ ap (λ (w : ℤ). made ++ improved to turn.slot w) weight in
            record {
              candidate =
                  pruned_next basis.net.now basis.table.now to begins middle.slots made middle.queue turn.next turn.found turn.slot turn.slot pruned_read delta after.slots pruned_slots_after now improved_is there.0;
              queue =
                  queue_after_relaxations begins middle marked after turn.next.1 turn.slot (what_follows basis.net.now basis.table.now delta (is_some turn.slot.why) edge) turn.settled relaxes
                  (pruned_rest basis.net.now basis.table.now to begins middle.slots made middle.queue turn.next turn.found turn.slot turn.slot pruned_read);
              slots = row_after_relaxations basis to middle marked after turn.next.1 turn.slot (what_follows basis.net.now basis.table.now delta (is_some turn.slot.why) edge) turn.settled relaxes pruned_marked_is;
            }

  pub pruned_settling_end : (row middle : OpenRow) (made : List Made) → IsPrunedSettling basis to delta begins row made → IsSameButForQueue row middle → IsAllDone begins middle.slots
      → made ≡ reference_row basis.net.now basis.table.now to
  pruned_settling_end row middle made was same done =
      pruned_end basis.net.now basis.table.now to delta begins middle.slots made recorded.plan recorded.fits recorded.sound recorded.delta.edges recorded.met best (pruned_same basis to delta begins row middle made was same).0 done

-- a row that was seeded with the best candidates is being settled
pub record IsBestSettling (basis : Basis) (to : PointId) (delta : List (List Edge)) (row : OpenRow) (made : List Made) : Type 0 where
  pub begins : ℕ → Bool
  pub best : IsSeededWithBest basis.table.now to delta begins
  pub pruned : IsPrunedSettling basis to delta begins row made
