use Rattle.std.proofs.Common.{Option, None, refl, subst, sym}
use Rattle.desk_feeding.specs.Feedings.{FeedingSeen}
use Rattle.event_phase.specs.CompletionOrders.{AreInCompletionOrder, completion_order_where}
use Rattle.event_phase.specs.EventPhase.{IsDeskAfter}
use Rattle.event_phase.proofs.phase.feed_named.Goals as goal

pub returns-in-None : goal.returns-in-None
returns-in-None g c =
    let before = c.args.parts.now in
    let points = c.completions-named.result.now in
    record {
      points = points;
      ordered = subst (λ (feeding : Option FeedingSeen). AreInCompletionOrder (completion_order_where feeding) before.events points) (sym c.in-None.is) c.completions-named.ensures.points;
      fed = c.feed.ensures.fed;
      desk = subst (λ (feeding : Option FeedingSeen). IsDeskAfter before.net before.executor.moments c.args.moment before.events feeding feeding) (sym c.in-None.is) refl;
      same = refl;
    }
