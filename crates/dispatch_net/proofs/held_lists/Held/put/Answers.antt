use Rattle.dispatch_net.proofs.DownLemmas.{held_set}
use Rattle.dispatch_net.proofs.held_lists.Held.put.Goals as goal

pub invariant_of-self : goal.invariant_of-self
invariant_of-self c =
    let held = c.self.inside in
    held_set held.links.items held.ends.items held.lists.items c.args.point.0 c.args.conditions c.self.invariant c.requires.in_order
