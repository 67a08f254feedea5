use Rattle.std.proofs.Common.{◌≡◌, ◌∙◌, List, Vec, Global, arith, length, ap, sym, subst, inl}
use Rattle.std.specs.List.{All}
use Rattle.net_model.specs.declared.ids.PointId.{PointId}
use Rattle.dispatch_net.specs.declared.dispatch.Conditions.{Conditions}
use Rattle.dispatch_net.specs.Execution.{ExecutionSatisfies}
use Rattle.dispatch_net.specs.Held.{HeldLists, AreInOrder, GoDown}
use Rattle.dispatch_net.proofs.DownLemmas.{made_go_down}
use Rattle.dispatch_net.proofs.ExactLemmas.{in_order}
use Rattle.dispatch_net.proofs.ExecutionLemmas.{law_executions_satisfy, point_count}
use Rattle.dispatch_net.proofs.dispatch.Dispatch.of.Goals as goal

pub new-requires-clause-in_order : goal.new-requires-clause-in_order
new-requires-clause-in_order c = subst (All AreInOrder) (sym c.in_ok-lists.ensures.made) (in_order c.args.net.now c.args.table.now)

pub ranks_of-requires : goal.ranks_of-requires
ranks_of-requires c =
    let count = point_count c.args.net.now c.args.table.now c.requires.may.for_network in
    record {
      points = λ k d inside. let at = c.requires.may.ordered.points k d inside in omega (arith, at, count, ap length c.points.ensures.points);
      once = c.requires.may.ordered.once;
    }

pub invariant_of-result : goal.invariant_of-result
invariant_of-result c =
    let lists = c.in_ok-lists.lists in
    let kept : c.in_ok-held.held.lists ≡ lists.items = ap (λ (held : HeldLists). held.lists) c.in_ok-held.ensures in
    let made : c.of-made.result.value.items ≡ lists.items = ap (λ (all : Vec Conditions Global). all.items) c.of-made.ensures in
    record {
      slim_or_whole = inl (kept ∙ sym made);
      down = subst (λ (order : List PointId). GoDown order c.in_ok-held.held.lists) (sym c.in_ok-order.ensures.items)
          (subst (GoDown c.args.order.now) (sym (kept ∙ c.in_ok-lists.ensures.made)) (made_go_down c.args.net.now c.args.table.now c.args.order.now c.requires.may.for_network c.requires.may.ordered));
      spare_capacity = let same = ap (λ (ls : List Conditions). length ls) kept in omega (arith, c.in_ok-others.ensures.capacity, c.in_ok-lists.lists.ok.0, same);
    }

pub returns-clause-executed : goal.returns-clause-executed
returns-clause-executed c =
    λ instant sound.
    let made : c.of-made.result.value.items ≡ c.in_ok-lists.lists.items = ap (λ (all : Vec Conditions Global). all.items) c.of-made.ensures in
    subst (ExecutionSatisfies c.args.net.now) (sym (made ∙ c.in_ok-lists.ensures.made))
    (law_executions_satisfy c.args.net.now c.args.table.now c.args.order.now instant c.requires.may.for_network sound c.requires.may.closed c.requires.may.ordered)
