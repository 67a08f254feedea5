use Rattle.std.proofs.Common.{◌≡◌, ◌+◌, ◌-◌, ◌*◌, take, get_or, arith}
use Rattle.std.proofs.lemmas.List.Sums.{fold_more}
use Rattle.net_model.specs.Numbers.{value_of}
use Rattle.net_model.proofs.NumberLemmas.{value_of-take}
use Rattle.net_model.proofs.text.value_within.Goals as goal

pub returns-then-value-from : goal.returns-then-value-from
returns-then-value-from c =
    let digits = c.args.digits.now in
    let place = c.loop-digit.digit-index in
    let more : value_of (take (place + 1) digits) ≡ 10 * value_of (take place digits) + (get_or digits place 0 - 48) = fold_more (λ value digit. 10 * value + (digit - 48)) 0 digits place 0 c.loop-digit-test.true in
    λ within. omega (arith, value_of-take (place + 1) digits, c.loop-digit.invariant.0)
