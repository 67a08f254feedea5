use Rattle.std.proofs.Common.{◌≡◌, ◌+ℤ◌, ◌&&◌, pos, w64, SFits, to_z, of_z, ap, ◌∙◌, arith}
use Rattle.std.specs.Prelude.{int_lt}
use Rattle.std.specs.Int.{int_max}
use Rattle.std.proofs.Math.Facts.{to_z-of_z}
use Rattle.std.proofs.lemmas.Int.{ints}
use Rattle.cert_checker.specs.Least.{absent}
use Rattle.cert_checker.proofs.RowLemmas.{sum_fits}
use Rattle.cert_checker.proofs.row.descends.Goals as goal

pub overflow_add-result : goal.overflow_add-result
overflow_add-result c =
    let fits : SFits w64 c.max.result = omega (arith, ints, c.max.type_inv) in
    sum_fits c.max.result c.args.weight _ _ (to_z-of_z fits) (to_z-of_z c.ranges.weight) c.max.ensures.other_bound fits c.requires.negative c.requires.weight

pub returns : goal.returns
returns c =
    let fits : SFits w64 c.max.result = omega (arith, ints, c.max.type_inv) in
    let high : to_z w64 (of_z w64 c.max.result) ≡ c.max.result = to_z-of_z fits in
    let own : to_z w64 (of_z w64 c.args.weight) ≡ c.args.weight = to_z-of_z c.ranges.weight in
    let first : to_z w64 (of_z w64 c.args.first) ≡ c.args.first = to_z-of_z c.ranges.first in
    let there : to_z w64 (of_z w64 c.args.there) ≡ c.args.there = to_z-of_z c.ranges.there in
    let sum_in = sum_fits c.max.result c.args.weight _ _ high own c.max.ensures.other_bound fits c.requires.negative c.requires.weight in
    let sum = to_z-of_z sum_in ∙ ((λ i. high i +ℤ own i) ∙ ap (λ z. z +ℤ c.args.weight) (c.max.ensures.value ∙ ap (λ z. int_max z (pos 0)) first)) in
    λ i. int_lt (first i) absent && int_lt (sum i) (there i)
