-- A closed end of the rounds is a closure with an order, by which its network may be dispatched.
use Rattle.std.proofs.Common.{◌≡◌, ◌∙◌, ap, length, arith}
use Rattle.std.proofs.lemmas.Int.{ints}
use Rattle.example_executions.proofs.DispatchFacts.{may_be, sound_graph}
use Rattle.example_executions.proofs.live.dispatch.Goals as goal

pub of-requires-2-clause-may : goal.of-requires-2-clause-may
of-requires-2-clause-may g c =
    may_be c.args.net.now c.propagate.new.store _ c.in-Closed.rounds c.in-Closed.order c.as_slice.result.now c.table.result.now c.points-points.ensures.sound
    c.in_ok-order.ensures.says c.in-Closed.is c.table.ensures c.as_slice.ensures

pub returns-clause-dispatched : goal.returns-clause-dispatched
returns-clause-dispatched g c =
    let plan = c.points-points.ensures.sound in
    let by = c.in_ok-dispatch.ensures.dispatchable in
    let none : c.args.net.now.delay ≡ 0 = omega (arith, ints, c.delay.ensures.delay, c.if-delay-ne0.false) in
    record {
      instant = record { sound = plan; no_delay = none };
      table = c.table.result.now;
      order = c.as_slice.result.now;
      graph = sound_graph c.args.net.now c.propagate.new.store c.table.result.now plan c.in_ok-order.ensures.stands c.table.ensures;
      may = may_be c.args.net.now c.propagate.new.store _ c.in-Closed.rounds c.in-Closed.order c.as_slice.result.now c.table.result.now plan
          c.in_ok-order.ensures.says c.in-Closed.is c.table.ensures c.as_slice.ensures;
      links = by.links;
      made = by.made;
    }

pub returns-clause-kept : goal.returns-clause-kept
returns-clause-kept g c = ap length c.in_ok-dispatch.ensures.dispatchable.kept ∙ c.in_ok-dispatch.ensures.whole
