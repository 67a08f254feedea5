-- The order of names is total, and only equal names compare as equal.
use Rattle.std.proofs.Common.{◌≡◌, ◌≢◌, ◌∙◌, ℕ, Bool, true, false, List, length, Some, refl, ap, sym}
use mathlib.Core.Bool.{true≢false}
use Rattle.std.specs.Cmp.{IsTotalOrder, IsPartialOrder, partial_order_from_total, partial_order_from_own_ties, nat_cmp_total, on_total, then_total, tied_itself}
use Rattle.std.specs.Cmp.Lexicographic.{slice_cmp, nat_list_cmp_total, texts_ties, bytes_decides}
use Rattle.std.specs.Ordering.{nat_cmp, ordering_then, eq_by_cmp, is_eq}
use Rattle.std.specs.declared.cmp.Ordering.{Ordering}
use Rattle.std.specs.declared.cmp.Ordering.TheVariants.{Less, Equal, Greater}
use Rattle.std.specs.Str.{bytes_eq}
use Rattle.net_model.specs.Names.{name_cmp}

pub name_cmp_total : IsTotalOrder name_cmp
name_cmp_total = then_total (on_total length nat_cmp_total) nat_list_cmp_total

-- names that are not of one length differ
differ : (x y : List ℕ) → nat_cmp (length x) (length y) ≢ Equal → bytes_eq x y ≡ false
differ x y apart = by (bytes_eq x y) refl
  where
    by : (b : Bool) → bytes_eq x y ≡ b → b ≡ false
    by true same = absurd (apart (ap (λ (n : List ℕ). nat_cmp (length x) (length n)) (sym ((bytes_decides x y).0 same)) ∙ tied_itself nat_cmp_total (length x)))
    by false other = refl

pub names_tie : (x y : List ℕ) → bytes_eq x y ≡ eq_by_cmp name_cmp x y
names_tie x y = by (nat_cmp (length x) (length y)) refl
  where
    by : (o : Ordering) → nat_cmp (length x) (length y) ≡ o → bytes_eq x y ≡ is_eq (ordering_then o (slice_cmp nat_cmp x y))
    by Less is = differ x y (λ same. true≢false (ap is_eq (sym same ∙ is)))
    by Equal is = texts_ties x y
    by Greater is = differ x y (λ same. true≢false (ap is_eq (sym same ∙ is)))

pub names_po : IsPartialOrder bytes_eq (λ x y. Some (name_cmp x y))
names_po = partial_order_from_own_ties (partial_order_from_total name_cmp_total) names_tie
