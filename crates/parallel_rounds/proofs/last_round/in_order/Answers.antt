-- The sort is by the number of the point in which an edge begins.
use Rattle.std.proofs.Common.{List, IsPermutation, rules, sym, subst}
use Rattle.std.specs.List.Sorted.{IsNonDecreasingBy}
use Rattle.std.proofs.lemmas.List.Sorted.{IsNonDecreasingBy-from_sort_by_key}
use Rattle.net_model.specs.declared.part.Edge.{Edge}
use Rattle.parallel_rounds.proofs.last_round.in_order.Goals as goal

pub returns : goal.returns
returns c = record {
  same = subst (λ (edges : List Edge). IsPermutation edges c.new.result) c.in_ok-edges.ensures (subst (λ (edges : List Edge). IsPermutation c.in_ok-edges.edges.items edges) (sym c.new.ensures) c.sort_unstable_by_key.ensures.permutation);
  rise = subst (λ (edges : List Edge). IsNonDecreasingBy (λ (edge : Edge). edge.from.0) edges) (sym c.new.ensures)
      (IsNonDecreasingBy-from_sort_by_key (λ (edge : Edge). edge.from.0) _ c.sort_unstable_by_key.ensures.sorted (λ a r q k. search rules));
}
