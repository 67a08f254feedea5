use Rattle.std.proofs.Common.{◌≡◌, ◌∙◌, arith, to_z, of_z}
use Rattle.std.specs.Prelude.{int_le, ◌+ℤ◌}
use Rattle.std.proofs.lemmas.Int.{ints}
use Rattle.std.proofs.Math.Facts.{to_z-of_z}
use mir.Syntax.{w128}
use Rattle.dispatch_net.proofs.slim_lists.reaches.Goals as goal

pub returns : goal.returns
returns c =
    let n = c.from.ensures ∙ to_z-of_z c.ranges.n in
    let first = c.from-2.ensures ∙ to_z-of_z c.ranges.first in
    let second = c.from-3.ensures ∙ to_z-of_z c.ranges.second in
    let a : to_z w128 (of_z w128 c.from.result) ≡ c.args.n = omega (arith, ints) in
    let b : to_z w128 (of_z w128 (to_z w128 (of_z w128 c.from-2.result) +ℤ to_z w128 (of_z w128 c.from-3.result))) ≡ c.args.first +ℤ c.args.second = omega (arith, ints) in
    λ i. int_le (a i) (b i)
