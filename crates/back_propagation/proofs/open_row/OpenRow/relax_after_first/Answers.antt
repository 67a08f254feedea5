-- Both conclusions begin where the first edge does, in the column of the second.
use Rattle.std.proofs.Common.{rules, to_z, of_z, w64, length, get_or, None, false, ℤ, refl, ◌≡◌, ◌<◌, sym, subst, ◌∙◌, ℕ}
use Rattle.std.proofs.lemmas.Option.{slice_get-get_or}
use Rattle.closure_model.specs.ReferenceRow.{has_above}
use Rattle.closure_model.specs.declared.rows.Slot.{Slot}
use Rattle.net_model.specs.Rules.{joined_weight}
use Rattle.back_propagation.proofs.RelaxSteps.{first_place, first_unchanged, place_fits, weight_small, column_within}
use Rattle.back_propagation.proofs.QueuedSteps.{keeps_itself}
use Rattle.back_propagation.proofs.open_row.OpenRow.relax_after_first.Goals as goal

pub place_of-place-requires : goal.place_of-place-requires
place_of-place-requires c =
    place_fits c.args.basis.net.now c.args.basis.table.now c.args.edge.now.to c.args.self.now.slots c.args.self.now.width c.requires.row.slots c.args.first.now.from c.args.column
    (c.requires.row.slots.sound.keys c.args.first.now c.requires.first).from_point
    (column_within c.args.basis.net.now c.args.basis.table.now c.args.edge.now.to c.args.self.now.slots c.args.self.now.width c.requires.row.slots c.args.edge.now c.args.column c.requires.row.of_row)

abbrev no_slot : Slot
no_slot = record { from = record { 0 = 0 }; label = None; weight = None; why = None; settled = false }

pub has_above-requires : goal.has_above-requires
has_above-requires c =
    subst (λ (place : ℕ). place < length c.args.self.now.slots) (sym c.place_of-place.ensures)
    (first_place c.args.basis.net.now c.args.basis.table.now c.args.edge.now.to c.args.self.now.slots c.args.self.now.width c.requires.row.slots c.args.edge.now c.args.column c.requires.row.of_row c.args.first.now c.requires.first)

pub joined_weight-requires-clause-second : goal.joined_weight-requires-clause-second
joined_weight-requires-clause-second c = weight_small c.args.basis.net.now c.args.edge.now.weight c.requires.row.slots.plan c.requires.row.of_row.within

pub returns-then-not-has_above : goal.returns-then-not-has_above
returns-then-not-has_above c =
    let kept : to_z w64 (of_z w64 c.joined_weight.result) ≡ c.joined_weight.result = search rules in
    let inside : c.place_of-place.result < length c.args.self.now.slots =
    subst (λ (place : ℕ). place < length c.args.self.now.slots) (sym c.place_of-place.ensures)
    (first_place c.args.basis.net.now c.args.basis.table.now c.args.edge.now.to c.args.self.now.slots c.args.self.now.width c.requires.row.slots c.args.edge.now c.args.column c.requires.row.of_row c.args.first.now c.requires.first) in
    let not = sym (c.has_above.ensures (get_or c.args.self.now.slots c.place_of-place.result no_slot) (slice_get-get_or c.args.self.now.slots c.place_of-place.result no_slot inside)) ∙ c.if-not-has_above.true in
    record {
      slots = first_unchanged c.args.basis.net.now c.args.basis.table.now c.args.edge.now.to c.args.self.now.slots c.args.self.now.width c.requires.row.slots c.args.edge.now c.args.column c.requires.row.of_row c.args.first.now
          c.requires.first no_slot
          (subst (λ (place : ℕ). has_above (get_or c.args.self.now.slots place no_slot) (joined_weight c.args.first.now c.args.edge.now) ≡ false) c.place_of-place.ensures
          (subst (λ (w : ℤ). has_above (get_or c.args.self.now.slots c.place_of-place.result no_slot) w ≡ false) (kept ∙ c.joined_weight.ensures) not));
      queue = keeps_itself c.args.self.now.slots c.args.self.now.queue;
      width = refl;
    }
