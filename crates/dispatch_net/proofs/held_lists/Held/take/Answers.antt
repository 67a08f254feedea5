use Rattle.std.proofs.Common.{◌∙◌, ◌<◌, length, rules, sym, subst}
use Rattle.dispatch_net.specs.Held.{AreInOrder}
use Rattle.dispatch_net.proofs.DownLemmas.{held_set, none_in_order}
use Rattle.dispatch_net.proofs.held_lists.Held.take.Goals as goal

pub invariant_of-self : goal.invariant_of-self
invariant_of-self c =
    let held = c.self.inside in
    held_set held.links.items held.ends.items held.lists.items c.args.point.0 c.replace.new.dest c.self.invariant
    (subst AreInOrder (sym (c.replace.ensures.after ∙ c.no_conditions-none.ensures)) none_in_order)

pub returns-clause-in_order : goal.returns-clause-in_order
returns-clause-in_order c =
    let inside : c.args.point.0 < length c.self.inside.lists.items = search rules in
    subst AreInOrder (sym (c.replace.ensures.value ∙ c.index_mut.ensures.value)) (c.self.invariant.in_order c.args.point.0 c.index_mut.result.now inside)
