-- The line of a number from 1, as it is looked up in a slice.
use Rattle.std.proofs.Common.{◌≡◌, ℕ, ◌-◌, ◌<◌, ◌≤◌, List, length, get_or, Bor, Option, Some, None, IfSome, MatchOption, option_copied, slice_get, zero, suc, refl, sym, ap, ◌∙◌, arith}
use Rattle.std.specs.List.{HoldsAt}
use Rattle.std.proofs.lemmas.Option.{slice_get_past, slice_get_read}
use Rattle.cert_checker.specs.Lines.{line_at}

module _ {A : Type 0} (lines : List A) where
  pub no_line : (number : ℕ) → (1 ≤ number → ⊥) → None ≡ line_at lines number
  no_line zero none = refl
  no_line (suc k) none = absurd (none (omega arith))

  line_from : (number k : ℕ) → 1 ≤ number → k ≡ number - 1 → slice_get lines k ≡ line_at lines number
  line_from zero k some is = absurd (omega arith)
  line_from (suc n) k some is = let same : k ≡ n = omega arith in ap (slice_get lines) same

  copied : (found : Option (Bor A)) (k : ℕ) → MatchOption found (length lines ≤ k) (λ x. (k < length lines) × HoldsAt (λ y. x.now ≡ y) lines k)
      → IfSome found (λ x. x.now ≡ get_or lines k x.now) → option_copied found ≡ slice_get lines k
  copied None k past is = sym (slice_get_past lines k past)
  copied (Some x) k (within, holds) is = sym (slice_get_read lines (length lines) k x.now refl within is)

  pub line_found : (found : Option (Bor A)) (number k : ℕ) → 1 ≤ number → k ≡ number - 1 → MatchOption found (length lines ≤ k) (λ x. (k < length lines) × HoldsAt (λ y. x.now ≡ y) lines k)
      → IfSome found (λ x. x.now ≡ get_or lines k x.now) → option_copied found ≡ line_at lines number
  line_found found number k some before at is = copied found k at is ∙ line_from number k some before
