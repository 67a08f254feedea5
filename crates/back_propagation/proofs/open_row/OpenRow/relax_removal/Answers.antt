-- The conclusion is in the first column of its source.
use Rattle.std.proofs.Common.{IfSome, OnOk, Option, sym, subst, ℕ, arith}
use Rattle.net_model.specs.declared.part.Edge.{Edge}
use Rattle.closure_model.specs.ReferenceRow.{given}
use Rattle.closure_model.specs.declared.rows.Why.TheVariants.{Drop}
use Rattle.back_propagation.specs.SlotPlaces.{IsSlotAt}
use Rattle.back_propagation.specs.OpenRows.{HasRelaxed}
use Rattle.back_propagation.proofs.RelaxSteps.{place_fits, label_is_link, weight_small, removal_slot}
use Rattle.back_propagation.proofs.open_row.OpenRow.relax_removal.Goals as goal

pub place_of-place-requires : goal.place_of-place-requires
place_of-place-requires c =
    place_fits c.args.basis.net.now c.args.basis.table.now c.args.edge.now.to c.args.self.now.slots c.args.self.now.width c.requires.1.slots c.args.edge.now.from 0 c.requires.1.of_row.key.from_point
    (let wide = c.requires.1.slots.wide in omega arith)

pub removal-requires-clause-known : goal.removal-requires-clause-known
removal-requires-clause-known c = label_is_link c.args.basis.net.now c.args.basis.table.now c.args.edge.now.to c.args.self.now.slots c.args.self.now.width c.requires.1.slots c.args.edge.now c.requires.0 c.requires.1.of_row

pub removal-requires-clause-weight : goal.removal-requires-clause-weight
removal-requires-clause-weight c = weight_small c.args.basis.net.now c.args.edge.now.weight c.requires.1.slots.plan c.requires.1.of_row.within

pub relax_given-requires : goal.relax_given-requires
relax_given-requires c =
    subst (λ (place : ℕ). IfSome c.removal.result (IsSlotAt c.args.self.now.slots place)) (sym c.place_of-place.ensures)
    (removal_slot c.args.basis.net.now c.args.basis.table.now c.args.edge.now.to c.args.self.now.slots c.args.self.now.width c.requires.1.slots c.args.edge.now c.requires.0 c.requires.1.of_row c.removal.result c.removal.ensures.exact)

pub returns : goal.returns
returns c = subst (λ (o : Option Edge). OnOk c.relax_given.result (HasRelaxed c.args.self.now c.relax_given.new.self (given (Drop c.args.edge.now) o))) c.removal.ensures.exact c.relax_given.ensures
