use Rattle.std.proofs.Common.{subst}
use Rattle.network_closure.proofs.PartialClosureLemmas.{base_is_partial_closure, derivable_key, derivable_weight}
use Rattle.cell_table.specs.Settlement.{TestedAs}
use Rattle.cell_table.proofs.SettleLemmas.{further_partial_closure, further_less}
use Rattle.cell_table.proofs.settlement.settle.Goals as goal

pub loop-table-init : goal.loop-table-init
loop-table-init g c = base_is_partial_closure c.args.net.now c.in-Ok.table c.sound.ensures c.in-Ok.ensures.base c.in-Ok.ensures.shape

pub returns-in-Ok-Looped-clause-settled : goal.returns-in-Ok-Looped-clause-settled
returns-in-Ok-Looped-clause-settled g c = record {
  table = c.in_ok-table.table;
  derivable = c.in_ok-table.ensures.swept.partial_closure.derivable;
  fits = c.in_ok-table.ensures.swept.partial_closure.fits;
  is = subst (TestedAs c.args.net.now c.in_ok-table.table) c.in-Ok-Looped.field-0-is c.in-Ok-Looped.ensures;
}

pub lower_to-requires-clause-key : goal.lower_to-requires-clause-key
lower_to-requires-clause-key g c =
    derivable_key c.args.net.now c.loop-table.invariant.plan c.in-Ok-Unsaturated.edge (subst (TestedAs c.args.net.now c.in_ok-table.table) c.in-Ok-Unsaturated.field-0-is c.in-Ok-Unsaturated.ensures).derivable c.in_ok-table.table
    c.in_ok-table.ensures.swept.partial_closure.fits

pub lower_to-requires-clause-weight : goal.lower_to-requires-clause-weight
lower_to-requires-clause-weight g c = derivable_weight c.args.net.now c.loop-table.invariant.plan c.in-Ok-Unsaturated.edge
    (subst (TestedAs c.args.net.now c.in_ok-table.table) c.in-Ok-Unsaturated.field-0-is c.in-Ok-Unsaturated.ensures).derivable

pub loop-table-smaller : goal.loop-table-smaller
loop-table-smaller g c =
    further_less c.args.net.now c.loop-table.table c.in_ok-table.table c.lower_to.new.self c.in-Ok-Unsaturated.edge c.loop-table.invariant c.in_ok-table.ensures.swept
    (subst (TestedAs c.args.net.now c.in_ok-table.table) c.in-Ok-Unsaturated.field-0-is c.in-Ok-Unsaturated.ensures) c.in-Ok-lower_to.ensures.lowered.1

pub loop-table-preserved : goal.loop-table-preserved
loop-table-preserved g c =
    further_partial_closure c.args.net.now c.loop-table.table c.in_ok-table.table c.lower_to.new.self c.in-Ok-Unsaturated.edge c.loop-table.invariant c.in_ok-table.ensures.swept
    (subst (TestedAs c.args.net.now c.in_ok-table.table) c.in-Ok-Unsaturated.field-0-is c.in-Ok-Unsaturated.ensures) c.in-Ok-lower_to.ensures.lowered.1
