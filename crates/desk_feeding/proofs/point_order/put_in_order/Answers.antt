use Rattle.std.proofs.Common.{rules}
use Rattle.std.proofs.lemmas.List.Sorted.{IsNonDecreasingBy-from_sort_by_key}
use Rattle.net_model.specs.declared.ids.PointId.{PointId}
use Rattle.desk_feeding.proofs.point_order.put_in_order.Goals as goal

pub returns-clause-order : goal.returns-clause-order
returns-clause-order c = record {
  same = c.sort_unstable_by_key.ensures.permutation;
  rises = IsNonDecreasingBy-from_sort_by_key (λ (point : PointId). point.0) _ c.sort_unstable_by_key.ensures.sorted (λ a r q k. search rules);
}
