-- The three lists of consequences, one after another; an edge of weight 0 or more has the first alone.
use Rattle.std.proofs.Common.{◌++◌, pos, sym, subst, ◌∙◌}
use Rattle.std.specs.List.{flat_map}
use Rattle.closure_model.proofs.Weights.{lt_is, lt_is_not}
use Rattle.closure_model.specs.ReferenceRow.{from_removal, from_link, from_first, ordinary_into}
use Rattle.back_propagation.specs.OpenRows.{HasRelaxed}
use Rattle.back_propagation.proofs.RelaxSteps.{consequences_of_heavy}
use Rattle.back_propagation.proofs.OpenRowSteps.{relaxes_then, still_relaxing}
use Rattle.back_propagation.proofs.open_row.OpenRow.relax_consequences.Goals as goal

pub relax_removal-requires : goal.relax_removal-requires
relax_removal-requires c = (c.args.column, c.requires)

pub relax_over_link-requires : goal.relax_over_link-requires
relax_over_link-requires c = still_relaxing c.args.basis c.args.self.now c.relax_removal.new.self c.args.edge.now c.args.column (from_removal c.args.basis.net.now c.args.edge.now) c.in_ok-relax_removal.ensures c.requires

pub relax_after_firsts-requires-clause-row : goal.relax_after_firsts-requires-clause-row
relax_after_firsts-requires-clause-row c =
    still_relaxing c.args.basis c.relax_removal.new.self c.relax_over_link.new.self c.args.edge.now c.args.column (from_link c.args.basis.net.now c.args.edge.now) c.in_ok-relax_over_link.ensures
    (still_relaxing c.args.basis c.args.self.now c.relax_removal.new.self c.args.edge.now c.args.column (from_removal c.args.basis.net.now c.args.edge.now) c.in_ok-relax_removal.ensures c.requires)

pub relax_after_firsts-requires-clause-negative : goal.relax_after_firsts-requires-clause-negative
relax_after_firsts-requires-clause-negative c = lt_is c.args.edge.now.weight (pos 0) (sym c.is_negative.ensures ∙ c.if-is_negative.true)

pub returns-else-is_negative : goal.returns-else-is_negative
returns-else-is_negative c =
    subst (HasRelaxed c.args.self.now c.relax_removal.new.self) (consequences_of_heavy c.args.basis.net.now c.args.basis.table.now c.args.edge.now
    (lt_is_not c.args.edge.now.weight (pos 0) (sym c.is_negative.ensures ∙ c.if-is_negative.false))) c.in_ok-relax_removal.ensures

pub returns-in_ok-relax_after_firsts : goal.returns-in_ok-relax_after_firsts
returns-in_ok-relax_after_firsts c =
    relaxes_then c.args.self.now c.relax_removal.new.self c.relax_after_firsts.new.self (from_removal c.args.basis.net.now c.args.edge.now)
    (from_link c.args.basis.net.now c.args.edge.now ++ flat_map (from_first c.args.edge.now) (ordinary_into c.args.basis.table.now c.args.edge.now.from)) c.in_ok-relax_removal.ensures
    (relaxes_then c.relax_removal.new.self c.relax_over_link.new.self c.relax_after_firsts.new.self (from_link c.args.basis.net.now c.args.edge.now)
    (flat_map (from_first c.args.edge.now) (ordinary_into c.args.basis.table.now c.args.edge.now.from)) c.in_ok-relax_over_link.ensures c.in_ok-relax_after_firsts.ensures)
