use Rattle.std.proofs.Common.{◌≡◌, ℕ, List, ◌∙◌, arith, subst}
use Rattle.std.proofs.lemmas.Grind.{common_steps}
use Rattle.std.specs.Option.{IsSome}
use Rattle.net_model.specs.Network.{bound_named}
use Rattle.deadline_search.specs.Goals.{goal_name}
use Rattle.deadline_search.proofs.NameLemmas.{as_many_bounds, taken_up_to}
use Rattle.deadline_search.proofs.goal_names.free_name.Goals as goal

pub loop-place-preserved : goal.loop-place-preserved
loop-place-preserved c =
    let net = c.args.net.now in
    let same : c.bytes.result.now ≡ goal_name c.loop-place.place = c.bytes.ensures.text ∙ c.in_ok-name.ensures in
    let here : IsSome (bound_named net c.bytes.result.now) = grind (arith, common_steps, c.bound.ensures, c.is_none.ensures, c.if-is_none.false) in
    taken_up_to net c.loop-place.place c.loop-place.invariant (subst (λ (n : List ℕ). IsSome (bound_named net n)) same here)

pub unreachable-requires : goal.unreachable-requires
unreachable-requires c =
    let full = c.loop-place-test.false in
    let few = c.requires in
    let many = as_many_bounds c.args.net.now c.loop-place.place (omega (arith, c.loop-place.auto.place-end)) c.loop-place.invariant in
    omega (arith, full, few, many)
