use Rattle.std.proofs.Common.{◌∙◌, ◌<◌, length, get_or, arith, subst}
use Rattle.std.proofs.lemmas.List.{length-set}
use Rattle.net_model.specs.declared.ids.PointId.{PointId}
use Rattle.dispatch_net.proofs.OrderLemmas.{few_below, one_ranked}
use Rattle.dispatch_net.proofs.slim_lists.ranks_of.Goals as goal

pub overflow_cast-rank : goal.overflow_cast-rank
overflow_cast-rank c =
    let order = c.args.order.now in
    let few = few_below (λ (p : PointId). p.0) order c.args.points c.requires.once (λ p among. let (k, inside, at) = among in subst (λ (q : PointId). q.0 < c.args.points) at (c.requires.points k p inside)) in
    omega (arith, few, c.ranges.points.fits, c.loop-rank-test.true)

pub loop-rank-preserved : goal.loop-rank-preserved
loop-rank-preserved c =
    let order = c.args.order.now in
    let rank = c.loop-rank.rank in
    let none : PointId = record { 0 = 0 } in
    let within : (get_or order rank none).0 < length c.loop-rank.ranks.items = let below = c.requires.points rank none c.loop-rank-test.true in omega (arith, below, c.loop-rank.invariant.count) in
    record {
      count = length-set c.loop-rank.ranks.items (get_or order rank none).0 rank ∙ c.loop-rank.invariant.count;
      ranked = one_ranked order c.requires.once c.loop-rank.ranks.items rank none c.loop-rank-test.true within c.loop-rank.invariant.ranked;
    }

pub returns : goal.returns
returns c = λ place d inside. c.loop-rank.invariant.ranked place d (omega (arith, inside, c.loop-rank-test.false)) inside
