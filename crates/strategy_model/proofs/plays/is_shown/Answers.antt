use Rattle.std.proofs.Common.{sym, ◌∙◌, length, rules}
use Rattle.std.proofs.lemmas.Slice.Zip.{zip_end}
use Rattle.strategy_model.proofs.ShownSteps.{completion_none}
use Rattle.strategy_model.proofs.plays.is_shown.Goals as goal

pub returns : goal.returns
returns c =
    let whole = zip_end c.args.links.now c.args.durations.now c.loop-link.yielded c.into_iter-link-iterator.result c.loop-link.link-iterator c.next.new.self c.next.result (search rules)
    (search rules) c.loop-link.yielded_by c.in-None.is c.next.ensures.steps in
    sym (c.loop-link.invariant ∙ completion_none c.args.net.now c.args.so_far.now c.args.t c.args.links.now c.args.durations.now c.args.point (length c.loop-link.yielded) whole)
