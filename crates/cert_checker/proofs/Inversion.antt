-- What the tests of a line say if it passes.
use Rattle.std.proofs.Common.{◌≡◌, ℕ, ℤ, pos, ◌≤ℤ◌, ◌<ℤ◌, true, List, Some, Ok, zero, suc, map, ap, ◌∙◌, arith}
use Rattle.std.specs.Prelude.{slice_get, int_le, int_lt}
use Rattle.std.specs.List.{Contains}
use Rattle.std.specs.Option.{option_map}
use Rattle.std.proofs.lemmas.Int.{ints}
use Rattle.std.proofs.lemmas.Option.{slice_get-map, slice_get_within, get_or_from_slice_get}
use Rattle.cert_format.specs.declared.line.CertLine.{CertLine}
use Rattle.cert_format.proofs.PassedStepLemmas.{unless_ok}
use Rattle.cert_checker.specs.Lines.{line_at, at_least, is_negative}

pub le_is : (a b : ℤ) → int_le a b ≡ true → a ≤ℤ b
le_is a b e = grind (arith, ints)

pub lt_is : (a b : ℤ) → int_lt a b ≡ true → a <ℤ b
lt_is a b e = grind (arith, ints)

pub at_least_ok : (line : CertLine) (least : ℤ) → at_least line least ≡ Ok tt → least ≤ℤ line.weight
at_least_ok line least e = le_is least line.weight (unless_ok (int_le least line.weight) _ e)

pub negative_ok : (weight : ℤ) → is_negative weight ≡ true → weight <ℤ pos 0
negative_ok weight e = lt_is weight (pos 0) e

pub contains_at : {A : Type 0} (xs : List A) (k : ℕ) (x : A) → slice_get xs k ≡ Some x → Contains xs x
contains_at xs k x e = (k, slice_get_within xs k x e, get_or_from_slice_get xs k x x e)

-- what stands at a number is among the items, and its image among theirs
pub contains_line : {A B : Type 0} (f : A → B) (xs : List A) (number : ℕ) (x : A) → line_at xs number ≡ Some x → Contains (map f xs) (f x)
contains_line f xs zero x e = absurd (cc)
contains_line f xs (suc k) x e = contains_at (map f xs) k (f x) (slice_get-map f xs k ∙ ap (option_map f) e)
