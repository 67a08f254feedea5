use Rattle.std.proofs.Common.{◌≡◌, ℤ, ◌<◌, rules, subst, sym, w64, to_z, of_z}
use Rattle.deadline_search.specs.Deadlines.{lowest}
use Rattle.deadline_search.proofs.DistanceLemmas.{distance, nearer_from_above}
use Rattle.deadline_search.proofs.goal_search.Search.below.Goals as goal

pub loop-kept-smaller : goal.loop-kept-smaller
loop-kept-smaller g c =
    let kept : ℤ = to_z w64 c.loop-kept.kept-bits in
    let number : to_z w64 (of_z w64 c.lower-next.result) ≡ c.lower-next.result = search rules in
    subst (λ (n : ℤ). distance lowest n < distance lowest kept) (sym number) (nearer_from_above lowest c.lower-next.result kept c.lower-next.ensures.low c.lower-next.ensures.below)
