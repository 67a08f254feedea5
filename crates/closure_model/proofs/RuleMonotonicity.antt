-- What a rule gives from premises of lesser weight is no greater.
use Rattle.std.proofs.Common.{ℤ, pos, ◌≤ℤ◌, ◌<ℤ◌, ◌+ℤ◌, ◌-ℤ◌, arith}
use Rattle.std.specs.Int.{int_max}
use Rattle.std.proofs.lemmas.Int.{ints, int_max_is}

pub below_zero : (u w : ℤ) → u ≤ℤ w → w <ℤ pos 0 → u <ℤ pos 0
below_zero u w less below = grind (arith, ints)

pub joined_less : (v w u x : ℤ) → v ≤ℤ w → u ≤ℤ x → (int_max v (pos 0) +ℤ u) ≤ℤ (int_max w (pos 0) +ℤ x)
joined_less v w u x first second = grind (arith, ints, int_max_is)

pub moved_less : (low u w : ℤ) → u ≤ℤ w → (low +ℤ u) ≤ℤ (low +ℤ w)
moved_less low u w less = grind (arith, ints)

pub without_label_less : (low u w : ℤ) → u ≤ℤ w → int_max u (pos 0 -ℤ low) ≤ℤ int_max w (pos 0 -ℤ low)
without_label_less low u w less = grind (arith, ints, int_max_is)
