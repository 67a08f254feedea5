use Rattle.std.proofs.Common.{◌≡◌, ◌≤◌, take}
use Rattle.net_model.specs.Numbers.{value_of}
use Rattle.net_model.proofs.text.value_within.Given as goal

abbrev pub invariant-loop-digit : goal.invariant-loop-digit
invariant-loop-digit l = (l.value ≡ value_of (take l.digit-index l.digits)) × (l.value ≤ l.limit)
