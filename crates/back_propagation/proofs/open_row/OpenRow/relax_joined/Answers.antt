-- Both conclusions begin where the first edge does, in the column of the second.
use Rattle.std.proofs.Common.{IfSome, OnOk, Option, sym, subst, ℕ}
use Rattle.std.proofs.lemmas.Result.{on_ok_weaker}
use Rattle.net_model.specs.declared.part.Edge.{Edge}
use Rattle.closure_model.specs.ReferenceRow.{given}
use Rattle.closure_model.specs.declared.rows.Why.TheVariants.{No, Up}
use Rattle.back_propagation.specs.SlotPlaces.{IsSlotAt}
use Rattle.back_propagation.specs.OpenRows.{HasRelaxed}
use Rattle.net_model.specs.Rules.{no_case, upper_case}
use Rattle.back_propagation.proofs.RelaxSteps.{place_fits, weight_small, column_within, no_case_slot, upper_case_slot, row_kept}
use Rattle.back_propagation.proofs.OpenRowSteps.{relaxes_then}
use Rattle.back_propagation.proofs.open_row.OpenRow.relax_joined.Goals as goal

pub place_of-place-requires : goal.place_of-place-requires
place_of-place-requires c =
    place_fits c.args.basis.net.now c.args.basis.table.now c.args.edge.now.to c.args.self.now.slots c.args.self.now.width c.requires.row.slots c.args.first.now.from c.args.column
    (c.requires.row.slots.sound.keys c.args.first.now c.requires.first).from_point
    (column_within c.args.basis.net.now c.args.basis.table.now c.args.edge.now.to c.args.self.now.slots c.args.self.now.width c.requires.row.slots c.args.edge.now c.args.column c.requires.row.of_row)

pub no_case-requires-clause-second : goal.no_case-requires-clause-second
no_case-requires-clause-second c = weight_small c.args.basis.net.now c.args.edge.now.weight c.requires.row.slots.plan c.requires.row.of_row.within

pub relax_given-requires : goal.relax_given-requires
relax_given-requires c =
    subst (λ (place : ℕ). IfSome c.no_case.result (IsSlotAt c.args.self.now.slots place)) (sym c.place_of-place.ensures)
    (no_case_slot c.args.basis.net.now c.args.basis.table.now c.args.edge.now.to c.args.self.now.slots c.args.self.now.width c.requires.row.slots c.args.edge.now c.args.column c.requires.row.of_row c.args.first.now c.no_case.result
    c.requires.first c.no_case.ensures.exact)

pub upper_case-requires-clause-second : goal.upper_case-requires-clause-second
upper_case-requires-clause-second c = weight_small c.args.basis.net.now c.args.edge.now.weight c.requires.row.slots.plan c.requires.row.of_row.within

pub relax_given-requires-2 : goal.relax_given-requires-2
relax_given-requires-2 c =
    let row = row_kept c.args.basis.net.now c.args.basis.table.now c.args.edge.now.to c.args.self.now.slots c.relax_given.new.self.slots c.args.self.now.width
    (given (No c.args.first.now c.args.edge.now) c.no_case.result) c.in_ok-relax_given.ensures.slots c.requires.row.slots in
    subst (λ (place : ℕ). IfSome c.upper_case.result (IsSlotAt c.relax_given.new.self.slots place)) (sym c.place_of-place.ensures)
    (upper_case_slot c.args.basis.net.now c.args.basis.table.now c.args.edge.now.to c.relax_given.new.self.slots c.args.self.now.width row c.args.edge.now c.args.column c.requires.row.of_row c.args.first.now c.upper_case.result
    c.requires.first c.upper_case.ensures.exact)

pub returns : goal.returns
returns c =
    let no = subst (λ (o : Option Edge). HasRelaxed c.args.self.now c.relax_given.new.self (given (No c.args.first.now c.args.edge.now) o)) c.no_case.ensures.exact c.in_ok-relax_given.ensures in
    let up = subst (λ (o : Option Edge). OnOk c.relax_given-2.result (HasRelaxed c.relax_given.new.self c.relax_given-2.new.self (given (Up c.args.first.now c.args.edge.now) o))) c.upper_case.ensures.exact c.relax_given-2.ensures in
    on_ok_weaker c.relax_given-2.result
    (relaxes_then c.args.self.now c.relax_given.new.self c.relax_given-2.new.self (given (No c.args.first.now c.args.edge.now) (no_case c.args.first.now c.args.edge.now))
    (given (Up c.args.first.now c.args.edge.now) (upper_case c.args.first.now c.args.edge.now)) no) up
