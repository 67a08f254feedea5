use Rattle.std.proofs.Common.{rules, ◌≤◌, ◌∙◌, ap, sym, length}
use Rattle.loop_finder.specs.KeptOrders.{place_in_order}
use Rattle.loop_finder.proofs.KeptLemmas.{out_of_order}
use Rattle.loop_finder.proofs.kept_order.KeptOrder.place_of.Goals as goal

pub returns-else-number-len : goal.returns-else-number-len
returns-else-number-len c =
    let past : length c.self.inside.places.items ≤ c.args.point.0 = search rules in
    ap length c.as_slice.ensures ∙ sym (out_of_order c.self.inside.order (length c.self.inside.places.items) c.args.point c.self.invariant.within past) ∙ ap (λ o. place_in_order o c.args.point) c.self.view_is
