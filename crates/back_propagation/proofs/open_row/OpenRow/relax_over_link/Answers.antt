-- Both conclusions begin where the link does, in the column of the edge.
use Rattle.std.proofs.Common.{IfSome, Option, [], sym, subst, ℕ}
use Rattle.std.specs.Option.{option_map_or}
use Rattle.net_model.specs.Rules.{lower_case, cross_case}
use Rattle.net_model.specs.declared.ids.LinkId.{LinkId}
use Rattle.net_model.specs.declared.part.Edge.{Edge}
use Rattle.closure_model.specs.ReferenceRow.{given, over_link}
use Rattle.closure_model.specs.declared.rows.Why.TheVariants.{Low, Cross}
use Rattle.back_propagation.specs.SlotPlaces.{IsSlotAt}
use Rattle.back_propagation.specs.OpenRows.{HasRelaxed}
use Rattle.back_propagation.proofs.RelaxSteps.{place_fits, weight_small, activation_known, link_from, column_within, lower_slot, cross_slot, row_kept}
use Rattle.back_propagation.proofs.OpenRowSteps.{relaxes_nothing, relaxes_then}
use Rattle.back_propagation.proofs.open_row.OpenRow.relax_over_link.Goals as goal

pub link_of-requires : goal.link_of-requires
link_of-requires c = activation_known c.args.basis.net.now c.args.edge.now.from c.in-Some.link (sym c.in-Some.ensures)

pub place_of-place-requires : goal.place_of-place-requires
place_of-place-requires c =
    place_fits c.args.basis.net.now c.args.basis.table.now c.args.edge.now.to c.args.self.now.slots c.args.self.now.width c.requires.slots c.link_of.result.from c.args.column
    (link_from c.args.basis.net.now c.args.basis.table.now c.args.edge.now.to c.args.self.now.slots c.args.self.now.width c.requires.slots c.args.edge.now c.args.column c.requires.of_row c.in-Some.link c.link_of.result c.link_of.ensures)
    (column_within c.args.basis.net.now c.args.basis.table.now c.args.edge.now.to c.args.self.now.slots c.args.self.now.width c.requires.slots c.args.edge.now c.args.column c.requires.of_row)

pub lower_case-requires-clause-second : goal.lower_case-requires-clause-second
lower_case-requires-clause-second c = weight_small c.args.basis.net.now c.args.edge.now.weight c.requires.slots.plan c.requires.of_row.within

pub relax_given-requires : goal.relax_given-requires
relax_given-requires c =
    subst (λ (place : ℕ). IfSome c.lower_case.result (IsSlotAt c.args.self.now.slots place)) (sym c.place_of-place.ensures)
    (lower_slot c.args.basis.net.now c.args.basis.table.now c.args.edge.now.to c.args.self.now.slots c.args.self.now.width c.requires.slots c.args.edge.now c.args.column c.requires.of_row c.in-Some.link c.link_of.result c.lower_case.result
    c.link_of.ensures c.lower_case.ensures.exact)

pub cross_case-requires-clause-second : goal.cross_case-requires-clause-second
cross_case-requires-clause-second c = weight_small c.args.basis.net.now c.args.edge.now.weight c.requires.slots.plan c.requires.of_row.within

pub relax_given-requires-in-Some : goal.relax_given-requires-in-Some
relax_given-requires-in-Some c =
    let row = row_kept c.args.basis.net.now c.args.basis.table.now c.args.edge.now.to c.args.self.now.slots c.relax_given.new.self.slots c.args.self.now.width
    (given (Low c.in-Some.link c.args.edge.now) c.lower_case.result) c.in_ok-relax_given.ensures.slots c.requires.slots in
    subst (λ (place : ℕ). IfSome c.cross_case.result (IsSlotAt c.relax_given.new.self.slots place)) (sym c.place_of-place.ensures)
    (cross_slot c.args.basis.net.now c.args.basis.table.now c.args.edge.now.to c.relax_given.new.self.slots c.args.self.now.width row c.args.edge.now c.args.column c.requires.of_row c.in-Some.link c.link_of.result c.cross_case.result
    c.link_of.ensures c.cross_case.ensures.exact)

pub returns-in_ok-relax_given-2 : goal.returns-in_ok-relax_given-2
returns-in_ok-relax_given-2 c =
    let low = subst (λ (o : Option Edge). HasRelaxed c.args.self.now c.relax_given.new.self (given (Low c.in-Some.link c.args.edge.now) o)) c.lower_case.ensures.exact c.in_ok-relax_given.ensures in
    let cross = subst (λ (o : Option Edge). HasRelaxed c.relax_given.new.self c.relax_given-in-Some.new.self (given (Cross c.in-Some.link c.args.edge.now) o)) c.cross_case.ensures.exact c.in_ok-relax_given-2.ensures in
    subst (λ (o : Option LinkId). HasRelaxed c.args.self.now c.relax_given-in-Some.new.self (option_map_or (over_link c.args.basis.net.now c.args.edge.now) o [])) c.in-Some.ensures
    (relaxes_then c.args.self.now c.relax_given.new.self c.relax_given-in-Some.new.self (given (Low c.in-Some.link c.args.edge.now) (lower_case c.args.basis.net.now c.in-Some.link c.args.edge.now))
    (given (Cross c.in-Some.link c.args.edge.now) (cross_case c.args.basis.net.now c.in-Some.link c.args.edge.now)) low cross)

pub returns-in_default : goal.returns-in_default
returns-in_default c = subst (λ (o : Option LinkId). HasRelaxed c.args.self.now c.args.self.now (option_map_or (over_link c.args.basis.net.now c.args.edge.now) o [])) c.in_default.ensures (relaxes_nothing c.args.self.now)
