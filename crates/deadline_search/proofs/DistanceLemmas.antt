-- How far a number is above another, and that it is less far if one comes nearer to the other.
use Rattle.std.proofs.Common.{◌≡◌, ℕ, ℤ, Bool, true, false, ◌+◌, ◌-◌, ◌<◌, ◌≤ℤ◌, ◌<ℤ◌, refl, arith}
use lib.Dec.{T}
use lib.Signed.{lt_z, le_z}
use borrow.Author.Differences.{up, down, lt-true, le-true}

-- how far the second number is above the first
abbrev pub distance : ℤ → ℤ → ℕ
distance low high = (up high + down low) - (up low + down high)

passes : (test : Bool) → T test → test ≡ true
passes true holds = refl
passes false holds = absurd holds

pub nearer_from_below : (low next high : ℤ) → low <ℤ next → next ≤ℤ high → distance next high < distance low high
nearer_from_below low next high above limit =
    omega (arith, lt-true low next (passes (lt_z low next) above.lt), le-true next high (passes (le_z next high) limit.le))

pub nearer_from_above : (low next high : ℤ) → low ≤ℤ next → next <ℤ high → distance low next < distance low high
nearer_from_above low next high limit below =
    omega (arith, le-true low next (passes (le_z low next) limit.le), lt-true next high (passes (lt_z next high) below.lt))
