-- What tests of weights say, and how weights compare.
use Rattle.std.proofs.Common.{◌≡◌, ℤ, ◌≤ℤ◌, ◌<ℤ◌, true, false, Some, arith}
use Rattle.std.proofs.lemmas.Int.{ints}
use Rattle.std.specs.Prelude.{int_le, int_lt}

pub same_weight : (a b : ℤ) → Some a ≡ Some b → a ≡ b
same_weight a b same = cc

pub le_of_same : (a b : ℤ) → a ≡ b → a ≤ℤ b
le_of_same a b same = grind (arith, ints)

pub le_refl : (a : ℤ) → a ≤ℤ a
le_refl a = grind (arith, ints)

pub le_is : (a b : ℤ) → int_le a b ≡ true → a ≤ℤ b
le_is a b e = grind (arith, ints)

pub le_is_not : (a b : ℤ) → int_le a b ≡ false → b <ℤ a
le_is_not a b e = grind (arith, ints)

pub lt_is : (a b : ℤ) → int_lt a b ≡ true → a <ℤ b
lt_is a b e = grind (arith, ints)

pub lt_is_not : (a b : ℤ) → int_lt a b ≡ false → b ≤ℤ a
lt_is_not a b e = grind (arith, ints)

pub lt_true : (a b : ℤ) → a <ℤ b → int_lt a b ≡ true
lt_true a b e = grind (arith, ints)

pub lt_false : (a b : ℤ) → b ≤ℤ a → int_lt a b ≡ false
lt_false a b e = grind (arith, ints)

pub le_then : (a b c : ℤ) → a ≤ℤ b → b ≤ℤ c → a ≤ℤ c
le_then a b c one two = grind (arith, ints)

pub lt_then : (a b c : ℤ) → a <ℤ b → b ≤ℤ c → a <ℤ c
lt_then a b c one two = grind (arith, ints)

pub le_then_lt : (a b c : ℤ) → a ≤ℤ b → b <ℤ c → a <ℤ c
le_then_lt a b c one two = grind (arith, ints)

pub lt_is_le : (a b : ℤ) → a <ℤ b → a ≤ℤ b
lt_is_le a b one = grind (arith, ints)

pub between : (a b : ℤ) → a ≤ℤ b → b ≤ℤ a → a ≡ b
between a b up down = grind (arith, ints)

pub not_below : (a b : ℤ) → a ≡ b → a <ℤ b → ⊥
not_below a b same below = grind (arith, ints)
