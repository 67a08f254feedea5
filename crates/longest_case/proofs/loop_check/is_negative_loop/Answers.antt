use Rattle.std.proofs.Common.{◌≡◌, ℕ, pos, None, get_or, w64, FitsSigned, ap, arith, rules}
use Rattle.std.proofs.lemmas.Int.{ints}
use Rattle.net_model.specs.declared.part.Edge.{Edge}
use Rattle.longest_case.proofs.LoopLemmas.{walk_more, total_more}
use Rattle.longest_case.proofs.loop_check.is_negative_loop.Goals as goal

pub loop-edge-preserved : goal.loop-edge-preserved
loop-edge-preserved c =
    let i = c.loop-edge.edge-index in
    let edges = c.args.walk.now in
    let d : Edge = record { from = record { 0 = 0 }; to = record { 0 = 0 }; label = None; weight = pos 0 } in
    let meets : (get_or edges i d).from.0 ≡ c.loop-edge.at.0 = search rules in
    let fits : FitsSigned w64 (get_or edges i d).weight = search rules in
    let more = total_more edges i d c.loop-edge-test.true in
    let before = c.loop-edge.invariant.counted in
    let sum = c.in-Some-checked_add.ensures in
    record {
      walked = walk_more c.in-Some.first.now.from c.loop-edge.at edges i d c.loop-edge-test.true c.loop-edge.invariant.walked (ap (λ (n : ℕ). record { 0 = n }) meets);
      counted = omega (arith, ints, fits, sum, before, more);
    }
