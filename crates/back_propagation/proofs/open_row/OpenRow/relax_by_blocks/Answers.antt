-- Each block adds what follows after its edges.
use Rattle.std.proofs.Common.{None, pos, arith}
use Rattle.std.proofs.lemmas.List.Edits.{length-between}
use Rattle.labelled_graph.specs.declared.entry.Entry.{Entry}
use Rattle.back_propagation.proofs.AscendSteps.{block_ascends}
use Rattle.back_propagation.proofs.BlockSteps.{block_held, relaxed_none, relaxed_more, relaxed_all}
use Rattle.back_propagation.proofs.OpenRowSteps.{still_relaxing}
use Rattle.back_propagation.proofs.open_row.OpenRow.relax_by_blocks.Goals as goal

abbrev no_entry : Entry
no_entry = record { from = record { 0 = 0 }; label = None; weight = pos 0 }

pub loop-at-init : goal.loop-at-init
loop-at-init c = relaxed_none c.args.edge.now c.args.entries.now c.args.self.now

pub improves_among-improves-requires-clause-row : goal.improves_among-improves-requires-clause-row
improves_among-improves-requires-clause-row c = still_relaxing c.args.basis c.args.self.now c.loop-at.self c.args.edge.now c.args.column c.loop-at.invariant.done c.loop-at.invariant.relaxed c.requires.row

pub improves_among-improves-requires-clause-entries : goal.improves_among-improves-requires-clause-entries
improves_among-improves-requires-clause-entries c = block_held c.args.basis.table.now c.args.edge.now c.args.entries.now c.loop-at.at c.block_end-end.result c.requires.entries c.block_end-end.ensures.within

pub improves_among-improves-requires-clause-ascend : goal.improves_among-improves-requires-clause-ascend
improves_among-improves-requires-clause-ascend c =
    block_ascends c.args.entries.now c.loop-at.at c.block_end-end.result c.block_end-end.ensures.within c.requires.ascend

pub improves_among-improves-requires-clause-some : goal.improves_among-improves-requires-clause-some
improves_among-improves-requires-clause-some c =
    let long = length-between c.args.entries.now c.loop-at.at c.block_end-end.result c.block_end-end.ensures.within in
    let after = c.block_end-end.ensures.after in
    omega (arith, long, after)

pub relax_unless_saturated-requires-clause-row : goal.relax_unless_saturated-requires-clause-row
relax_unless_saturated-requires-clause-row c = still_relaxing c.args.basis c.args.self.now c.loop-at.self c.args.edge.now c.args.column c.loop-at.invariant.done c.loop-at.invariant.relaxed c.requires.row

pub relax_unless_saturated-requires-clause-entries : goal.relax_unless_saturated-requires-clause-entries
relax_unless_saturated-requires-clause-entries c = block_held c.args.basis.table.now c.args.edge.now c.args.entries.now c.loop-at.at c.block_end-end.result c.requires.entries c.block_end-end.ensures.within

pub loop-at-preserved : goal.loop-at-preserved
loop-at-preserved c =
    let after = c.block_end-end.ensures.after in
    relaxed_more c.args.edge.now c.args.entries.now c.loop-at.at c.block_end-end.result c.args.self.now c.loop-at.self c.relax_unless_saturated.new.self (omega (arith, after)) c.loop-at.invariant c.in_ok-relax_unless_saturated.ensures

pub loop-at-smaller : goal.loop-at-smaller
loop-at-smaller c =
    let after = c.block_end-end.ensures.after in
    let within = c.block_end-end.ensures.within in
    omega (arith, after, within)

pub returns : goal.returns
returns c = relaxed_all c.args.edge.now c.args.entries.now c.loop-at.at c.args.self.now c.loop-at.self c.loop-at-test.false c.loop-at.invariant
