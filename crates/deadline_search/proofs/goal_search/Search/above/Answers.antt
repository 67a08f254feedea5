use Rattle.std.proofs.Common.{◌≡◌, ℤ, ◌<◌, arith, rules, subst, sym, w64, to_z, of_z}
use Rattle.std.proofs.lemmas.Bool.Decides.{not_from_Decides}
use Rattle.std.proofs.lemmas.Int.{ints}
use Rattle.deadline_search.specs.Deadlines.{highest}
use Rattle.deadline_search.proofs.DistanceLemmas.{distance, nearer_from_below}
use Rattle.deadline_search.proofs.goal_search.Search.above.Goals as goal

pub loop-failed-smaller : goal.loop-failed-smaller
loop-failed-smaller g c =
    let failed : ℤ = to_z w64 c.loop-failed.failed-bits in
    let number : to_z w64 (of_z w64 c.higher-next.result) ≡ c.higher-next.result = search rules in
    subst (λ (n : ℤ). distance n highest < distance failed highest) (sym number) (nearer_from_below failed c.higher-next.result highest c.higher-next.ensures.above c.higher-next.ensures.high)

pub loop-failed-preserved : goal.loop-failed-preserved
loop-failed-preserved g c =
    let number : to_z w64 (of_z w64 c.higher-next.result) ≡ c.higher-next.result = search rules in
    let step : to_z w64 (of_z w64 c.doubled-step.result) ≡ c.doubled-step.result = search rules in
    record {
      low = omega (arith, ints, number, c.higher-next.ensures.above, c.loop-failed.invariant.low);
      high = omega (arith, ints, number, c.higher-next.ensures.high);
      none = not_from_Decides c.in_ok-is_deadline.field-0 c.in_ok-is_deadline.ensures c.if-branch.false;
      forward = omega (arith, ints, step, c.doubled-step.ensures.within.0);
      near = omega (arith, ints, step, c.doubled-step.ensures.within.1);
    }
