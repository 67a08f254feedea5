-- One bound more.
use Rattle.std.proofs.Common.{ap, ◌∙◌}
use Rattle.edit_laws.specs.EditNumbers.{bound_in}
use Rattle.support_records.proofs.MovesLemmas.{mapped_more}
use Rattle.support_records.proofs.moves.bounds_in.Goals as goal

pub loop-bound-preserved : goal.loop-bound-preserved
loop-bound-preserved c =
    mapped_more (bound_in c.args.points.now.old.now c.args.edit.now c.args.points.now.new.now) c.bounds-bound-items.result.now c.args.points.now.old.now.bounds c.loop-bound.bound-index c.bound-item.result c.loop-bound.bounds.items
    c.push.new.self.items
    c.bound_in.result c.bounds-bound-items.ensures.bounds c.loop-bound-test.true c.loop-bound.invariant (c.bound_in.ensures ∙ ap (bound_in c.args.points.now.old.now c.args.edit.now c.args.points.now.new.now) c.bound-item.is)
    c.in_ok-push.ensures.items
