use Rattle.std.proofs.Common.{◌+◌, ◌∙◌, length, ap, sym, subst}
use Rattle.loop_finder.proofs.SuccessorLemmas.{AreFilled, filled_more, wrote_back}
use Rattle.loop_finder.proofs.successors.negative_successors.Goals as goal

pub loop-to-preserved : goal.loop-to-preserved
loop-to-preserved c =
    let lent = c.as_mut_slice.ensures.value in
    let count = c.in_ok-push_target.ensures.count in
    let whole = wrote_back c.loop-to.lists.len c.push_target.new.lists c.loop-to.lists.items (sym c.as_mut_slice.ensures.len ∙ ap length lent) (count ∙ ap length lent) in
    subst (λ ls. AreFilled c.args.table.now ls (c.loop-to.to + 1)) (sym whole)
    (filled_more c.args.table.now c.as_mut_slice.result.now c.push_target.new.lists c.loop-to.to (subst (λ ls. AreFilled c.args.table.now ls c.loop-to.to) (sym lent) c.loop-to.invariant) count c.in_ok-push_target.ensures.pushed)
