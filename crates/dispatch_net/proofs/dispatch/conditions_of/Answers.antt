use Rattle.std.proofs.Common.{◌≡◌, ◌∙◌, ℤ, List, ap, rules, sym, subst}
use Rattle.std.specs.List.Sorted.{IsPermutation, IsNonDecreasingBy}
use Rattle.std.proofs.lemmas.Bool.{true≢false}
use Rattle.std.proofs.lemmas.List.Sorted.{IsNonDecreasingBy-from_sort_by_key}
use Rattle.net_model.specs.declared.ids.LinkId.{LinkId}
use Rattle.dispatch_net.specs.declared.dispatch.Conditions.{Conditions}
use Rattle.dispatch_net.proofs.OutgoingLemmas.{conditions_are}
use Rattle.dispatch_net.proofs.dispatch.conditions_of.Goals as goal

pub returns : goal.returns
returns c =
    λ table sound is.
    let sorted = c.sort_unstable_by_key.new.self.items in
    let rises = IsNonDecreasingBy-from_sort_by_key (λ (wait : LinkId × ℤ). wait.0.0) _ c.sort_unstable_by_key.ensures.sorted (λ a r q k. search rules) in
    let gathered : c.outgoing.inside.waits.items ≡ c.args.outgoing.waits = ap (λ (gathered : Conditions). gathered.waits) c.outgoing.view_is in
    conditions_are c.args.net.now table sound c.args.point c.args.outgoing (record { lower_bounds = c.new.result; waits = c.new-2.result }) is
    (λ contingent. true≢false (sym (c.is_contingent.ensures.1 contingent) ∙ c.if-is_contingent.false))
    (c.new.ensures ∙ ap (λ (gathered : Conditions). gathered.lower_bounds) c.outgoing.view_is)
    (subst (IsPermutation c.args.outgoing.waits) (sym c.new-2.ensures) (subst (λ (waits : List (LinkId × ℤ)). IsPermutation waits sorted) gathered c.sort_unstable_by_key.ensures.permutation))
    (subst (IsNonDecreasingBy (λ (wait : LinkId × ℤ). wait.0.0)) (sym c.new-2.ensures) rises)
