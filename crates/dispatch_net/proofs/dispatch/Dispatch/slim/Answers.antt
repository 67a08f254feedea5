use Rattle.std.proofs.Common.{◌∙◌, List, length, ap, arith, sym, subst, inr}
use Rattle.std.proofs.lemmas.List.{length-map}
use Rattle.net_model.specs.declared.part.Link.{Link}
use Rattle.dispatch_net.specs.declared.dispatch.Conditions.{Conditions}
use Rattle.dispatch_net.specs.Held.{IsSlimOrWhole, GoDown}
use Rattle.dispatch_net.specs.Slim.{slim_conditions}
use Rattle.dispatch_net.proofs.DownLemmas.{slim_go_down}
use Rattle.dispatch_net.proofs.StayLemmas.{slim_again}
use Rattle.dispatch_net.proofs.dispatch.Dispatch.slim.Goals as goal

pub invariant_of-result : goal.invariant_of-result
invariant_of-result c =
    let held = c.self.inside.held in
    let made = c.self.inside.made.value.items in
    let order = c.self.inside.order.items in
    record {
      slim_or_whole = subst (λ (links : List Link). IsSlimOrWhole links made c.slim.new.self.lists) (sym c.slim.ensures.links)
          (inr (c.slim.ensures.lists ∙ slim_again held.links made held.lists c.self.invariant.slim_or_whole));
      down = subst (GoDown order) (sym c.slim.ensures.lists) (slim_go_down held.links held.lists order c.self.invariant.down);
      spare_capacity =
          let same = ap (λ (lists : List Conditions). length lists) c.slim.ensures.lists ∙ length-map held.lists (slim_conditions held.links held.lists) in
          omega (arith, same, c.slim.ensures.spare_capacity, c.self.invariant.spare_capacity);
    }
