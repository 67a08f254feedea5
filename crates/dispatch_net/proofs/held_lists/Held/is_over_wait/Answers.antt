use Rattle.std.proofs.Common.{◌<◌, length, rules, sym, subst}
use Rattle.dispatch_net.specs.Held.{AreInOrder}
use Rattle.dispatch_net.proofs.held_lists.Held.is_over_wait.Goals as goal

pub is_through_wait-requires : goal.is_through_wait-requires
is_through_wait-requires c =
    let inside : c.args.other.0.0 < length c.self.inside.lists.items = search rules in
    subst AreInOrder (sym c.index.ensures) (c.self.invariant.in_order c.args.other.0.0 c.index.result.now inside)
