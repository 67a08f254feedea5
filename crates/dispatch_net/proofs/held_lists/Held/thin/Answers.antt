use Rattle.std.proofs.Common.{◌∙◌, ℤ, List, arith, length, set, ap, sym, subst}
use Rattle.std.specs.List.{Contains, list_any}
use Rattle.std.proofs.lemmas.List.{length-set}
use Rattle.net_model.specs.declared.ids.PointId.{PointId}
use Rattle.net_model.specs.declared.part.Link.{Link}
use Rattle.dispatch_net.specs.declared.dispatch.Conditions.{Conditions}
use Rattle.dispatch_net.specs.Dispatchable.{no_conditions}
use Rattle.dispatch_net.specs.Held.{AreInOrder}
use Rattle.dispatch_net.specs.Slim.{slim_conditions}
use Rattle.dispatch_net.proofs.DownLemmas.{slim_in_order, one_thinned}
use Rattle.dispatch_net.proofs.OrderLemmas.{few_bounds}
use Rattle.dispatch_net.proofs.held_lists.Held.thin.Goals as goal

pub put_in_order-requires : goal.put_in_order-requires
put_in_order-requires c =
    let held = c.args.self.now in
    let taken = ap (λ (all : Conditions). all.lower_bounds) c.take-all.ensures.taken in
    let few = few_bounds (length held.lists) c.args.point c.take-all.result.lower_bounds c.take-all.ensures.in_order.bounds
    (λ bound among. c.requires.on_others bound (subst (λ (bounds : List (PointId × ℤ)). Contains bounds bound) taken among)) in
    let same = ap (λ (bounds : List (PointId × ℤ)). length bounds) c.as_slice.ensures in
    omega (arith, few, same, c.requires.spare_capacity)

pub thinned-left-requires : goal.thinned-left-requires
thinned-left-requires c =
    λ test. ap (list_any test) c.as_slice-2.ensures.value ∙ (c.put_in_order.ensures.same test ∙ ap (list_any test) c.as_slice.ensures)

pub put-requires-clause-within : goal.put-requires-clause-within
put-requires-clause-within c =
    let same = ap (λ (cs : List Conditions). length cs) c.take-all.ensures.left ∙ length-set c.args.self.now.lists c.args.point.0 no_conditions in
    omega (arith, c.requires.within, same)

pub put-requires-clause-in_order : goal.put-requires-clause-in_order
put-requires-clause-in_order c =
    let held = c.take-all.new.self in
    subst AreInOrder (sym c.thinned-left.ensures) (slim_in_order held.links held.lists c.take-all.result c.take-all.ensures.in_order)

pub returns-clause-lists : goal.returns-clause-lists
returns-clause-lists c =
    let held = c.args.self.now in
    let out = c.take-all.new.self in
    c.put.ensures.lists
    ∙ (ap (set out.lists c.args.point.0) (c.thinned-left.ensures ∙ ap (λ (links : List Link). slim_conditions links out.lists c.take-all.result) c.take-all.ensures.links)
    ∙ one_thinned held.links held.lists out.lists (length held.lists) c.args.point c.take-all.result c.take-all.ensures.taken c.take-all.ensures.left c.requires.on_others)
