use Rattle.labelled_graph.proofs.MergeLemmas.{can_put_next, merging_begins, merging_goes_on, merging_ends}
use Rattle.std.proofs.Common.{take, refl, ◌∙◌}
use Rattle.labelled_graph.proofs.row.merged.Goals as goal

pub loop-entry-init : goal.loop-entry-init
loop-entry-init c to one two = merging_begins to c.args.entries.now c.args.new.now c.in_ok-all.all.items c.args.entries.now one two c.in_ok-all.ensures.items refl

pub loop-entry-preserved : goal.loop-entry-preserved
loop-entry-preserved c to one two =
    let was = c.loop-entry.invariant to one two in
    merging_goes_on to c.args.entries.now c.args.new.now c.loop-entry.all.items c.loop-entry.left.now c.put_next.new.all.items c.in_ok-left.left.now c.loop-entry.entry-index _ c.loop-entry-test.true was
    (c.in_ok-left.ensures to (can_put_next to c.args.entries.now c.args.new.now (take c.loop-entry.entry-index c.args.new.now) c.loop-entry.all.items c.loop-entry.left.now c.loop-entry.entry-index _ c.loop-entry-test.true was))

pub returns : goal.returns
returns c to one two =
    merging_ends to c.args.entries.now c.args.new.now c.loop-entry.all.items c.loop-entry.left.now c.shrink_to_fit.new.self.items c.loop-entry.entry-index c.loop-entry-test.false (c.loop-entry.invariant to one two)
    (c.shrink_to_fit.ensures.items ∙ c.in_ok-extend_from_slice.ensures.items)
