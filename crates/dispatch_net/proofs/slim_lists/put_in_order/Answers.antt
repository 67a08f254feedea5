use Rattle.std.proofs.Common.{◌≡◌, ◌∙◌, ℤ, ap, get_or, rules, sym}
use Rattle.std.specs.List.{list_any}
use Rattle.std.proofs.lemmas.List.{take_all}
use Rattle.std.proofs.lemmas.List.Sorted.{IsNonDecreasingBy-from_sort_by_key, list_any-IsPermutation}
use Rattle.net_model.specs.declared.ids.PointId.{PointId}
use Rattle.dispatch_net.proofs.slim_lists.put_in_order.Goals as goal

pub returns-clause-same : goal.returns-clause-same
returns-clause-same c =
    λ test.
    let copied : c.loop-bound.ordered.items ≡ c.args.bounds.now = c.loop-bound.invariant.copied ∙ take_all c.loop-bound.bound-index c.args.bounds.now c.loop-bound-test.false in
    sym (list_any-IsPermutation test c.loop-bound.ordered.items c.sort_unstable_by_key.new.self.items c.sort_unstable_by_key.ensures.permutation) ∙ ap (list_any test) copied

pub returns-clause-in_order : goal.returns-clause-in_order
returns-clause-in_order c =
    IsNonDecreasingBy-from_sort_by_key (λ (bound : PointId × ℤ). get_or c.args.ranks.now bound.0.0 0) _ c.sort_unstable_by_key.ensures.sorted (λ a r q k. search rules)
