-- All is relaxed by blocks, unless all is saturated.
use Rattle.std.proofs.Common.{subst}
use Rattle.back_propagation.specs.OpenRows.{HasRelaxed}
use Rattle.back_propagation.proofs.AscendSteps.{entries_ascend}
use Rattle.back_propagation.proofs.BlockSteps.{all_held, block_relaxes_nothing}
use Rattle.back_propagation.proofs.RelaxSteps.{entries_all}
use Rattle.back_propagation.proofs.open_row.OpenRow.relax_after_firsts.Goals as goal

pub may_improve_among-requires-clause-entries : goal.may_improve_among-requires-clause-entries
may_improve_among-requires-clause-entries c = all_held c.args.basis.table.now c.args.edge.now c.entries-entries.result.now c.entries-entries.ensures.row

pub may_improve_among-requires-clause-ascend : goal.may_improve_among-requires-clause-ascend
may_improve_among-requires-clause-ascend c = entries_ascend c.args.basis.table.now c.args.edge.now.from c.entries-entries.result.now c.entries-entries.ensures.sound c.requires.row.of_row.key.from_point c.entries-entries.ensures.row

pub relax_by_blocks-requires-clause-entries : goal.relax_by_blocks-requires-clause-entries
relax_by_blocks-requires-clause-entries c = all_held c.args.basis.table.now c.args.edge.now c.entries-entries.result.now c.entries-entries.ensures.row

pub relax_by_blocks-requires-clause-ascend : goal.relax_by_blocks-requires-clause-ascend
relax_by_blocks-requires-clause-ascend c = entries_ascend c.args.basis.table.now c.args.edge.now.from c.entries-entries.result.now c.entries-entries.ensures.sound c.requires.row.of_row.key.from_point c.entries-entries.ensures.row

pub returns-in_ok-relax_by_blocks : goal.returns-in_ok-relax_by_blocks
returns-in_ok-relax_by_blocks c =
    subst (HasRelaxed c.args.self.now c.relax_by_blocks.new.self) (entries_all c.args.basis.table.now c.args.edge.now c.entries-entries.result.now c.entries-entries.ensures.ordinary) c.in_ok-relax_by_blocks.ensures

pub returns-else-may_improve_among : goal.returns-else-may_improve_among
returns-else-may_improve_among c =
    subst (HasRelaxed c.args.self.now c.args.self.now) (entries_all c.args.basis.table.now c.args.edge.now c.entries-entries.result.now c.entries-entries.ensures.ordinary)
    (block_relaxes_nothing c.args.basis c.args.self.now c.args.edge.now c.args.column c.entries-entries.result.now c.requires.row
    (all_held c.args.basis.table.now c.args.edge.now c.entries-entries.result.now c.entries-entries.ensures.row) (c.may_improve_among.ensures c.if-may_improve_among.false))
