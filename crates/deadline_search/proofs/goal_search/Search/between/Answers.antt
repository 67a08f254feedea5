use Rattle.std.proofs.Common.{◌≡◌, ℤ, pos, ◌-ℤ◌, ◌≤ℤ◌, ◌<◌, inr, arith, rules, subst, sym, w64, to_z, of_z}
use Rattle.std.proofs.lemmas.Bool.Decides.{not_from_Decides}
use Rattle.std.proofs.lemmas.Int.{ints}
use Rattle.deadline_search.specs.Deadlines.{IsDeadline}
use Rattle.deadline_search.proofs.DistanceLemmas.{distance, nearer_from_above, nearer_from_below}
use Rattle.deadline_search.proofs.goal_search.Search.between.Goals as goal

pub loop-kept-smaller-then-branch : goal.loop-kept-smaller-then-branch
loop-kept-smaller-then-branch g c =
    let failed : ℤ = to_z w64 c.loop-kept.failed-bits in
    let kept : ℤ = to_z w64 c.loop-kept.kept-bits in
    let next : ℤ = c.middle-next.result in
    let number : to_z w64 (of_z w64 next) ≡ next = search rules in
    let limit : failed ≤ℤ next = omega (arith, ints, c.middle-next.ensures.above) in
    subst (λ (n : ℤ). distance failed n < distance failed kept) (sym number) (nearer_from_above failed next kept limit c.middle-next.ensures.below)

pub loop-kept-smaller : goal.loop-kept-smaller
loop-kept-smaller g c =
    let failed : ℤ = to_z w64 c.loop-kept.failed-bits in
    let kept : ℤ = to_z w64 c.loop-kept.kept-bits in
    let next : ℤ = c.middle-next.result in
    let number : to_z w64 (of_z w64 next) ≡ next = search rules in
    let limit : next ≤ℤ kept = omega (arith, ints, c.middle-next.ensures.below) in
    subst (λ (n : ℤ). distance n kept < distance failed kept) (sym number) (nearer_from_below failed next kept c.middle-next.ensures.above limit)

pub loop-kept-preserved-then-branch : goal.loop-kept-preserved-then-branch
loop-kept-preserved-then-branch g c =
    let next : ℤ = c.middle-next.result in
    let number : to_z w64 (of_z w64 next) ≡ next = search rules in
    record {
      low = c.loop-kept.invariant.low;
      apart = omega (arith, ints, number, c.middle-next.ensures.above);
      none = c.loop-kept.invariant.none;
      kept = c.in_ok-is_deadline.ensures.0 c.if-branch.true;
    }

pub loop-kept-preserved : goal.loop-kept-preserved
loop-kept-preserved g c =
    let next : ℤ = c.middle-next.result in
    let number : to_z w64 (of_z w64 next) ≡ next = search rules in
    record {
      low = omega (arith, ints, number, c.middle-next.ensures.above, c.loop-kept.invariant.low);
      apart = omega (arith, ints, number, c.middle-next.ensures.below);
      none = not_from_Decides c.in_ok-is_deadline.field-0 c.in_ok-is_deadline.ensures c.if-branch.false;
      kept = c.loop-kept.invariant.kept;
    }

pub returns : goal.returns
returns g c =
    let failed : ℤ = to_z w64 c.loop-kept.failed-bits in
    let kept : ℤ = to_z w64 c.loop-kept.kept-bits in
    let before : (kept -ℤ pos 1) ≡ failed = omega (arith, ints, c.loop-kept-test.false, c.loop-kept.invariant.apart) in
    record {
      deadline = c.loop-kept.invariant.kept;
      last = inr (λ deadline. c.loop-kept.invariant.none (subst (IsDeadline c.args.self.now.net c.args.self.now.goal) before deadline));
    }
