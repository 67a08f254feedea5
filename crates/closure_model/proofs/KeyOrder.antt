-- Keys are ordered totally, and only equal keys tie.
use Rattle.std.proofs.Common.{◌≡◌, ◌≢◌, ℕ, Bool, true, false, List, [], ◌∷◌, Option, Some, None, refl, ap, sym, ◌∙◌}
use Rattle.std.specs.Bool.{Decides}
use Rattle.std.specs.declared.cmp.Ordering.TheVariants.{Equal}
use Rattle.std.specs.Ordering.{eq_by_cmp}
use Rattle.std.specs.Cmp.{IsTotalOrder, on_total, Equal-is, tied_itself}
use Rattle.std.specs.Cmp.Lexicographic.{nat_list_cmp_total}
use Rattle.std.specs.FinMap.{IsAntisymmetric, nat_cmp-IsAntisymmetric, slice_cmp-IsAntisymmetric}
use Rattle.net_model.specs.declared.ids.LinkId.{LinkId}
use Rattle.closure_model.specs.Keys.{Key, numbers, label_number, key_cmp, ordinary_key}

pub key_total : IsTotalOrder key_cmp
key_total = on_total numbers nat_list_cmp_total

label_back : List ℕ → Option LinkId
label_back [] = None
label_back (label ∷ more) = Some (record { 0 = label })

key_back : List ℕ → Key
key_back [] = ordinary_key (record { 0 = 0 }) (record { 0 = 0 })
key_back (to ∷ []) = ordinary_key (record { 0 = 0 }) (record { 0 = to })
key_back (to ∷ from ∷ label) = record { to = record { 0 = to }; from = record { 0 = from }; label = label_back label }

label_back-number : (label : Option LinkId) → label_back (label_number label) ≡ label
unfolding label_back
label_back-number None = refl
label_back-number (Some label) = refl

key_back-numbers : (key : Key) → key_back (numbers key) ≡ key
unfolding key_back
key_back-numbers key = ap (λ label. record { to = key.to; from = key.from; label = label }) (label_back-number key.label)

-- only equal keys tie
pub same_key : IsAntisymmetric key_cmp
same_key first second tie =
    sym (key_back-numbers first) ∙ ap key_back (slice_cmp-IsAntisymmetric nat_cmp-IsAntisymmetric (numbers first) (numbers second) tie) ∙ key_back-numbers second

-- a key ties with itself
pub key_itself : (key : Key) → key_cmp key key ≡ Equal
key_itself key = tied_itself key_total key

-- the test of two keys
pub key_test : (first second : Key) → Decides (eq_by_cmp key_cmp first second) (first ≡ second)
key_test first second =
    let decides = Equal-is (key_cmp first second) in
    (λ e. same_key first second (decides.0 e), λ e. decides.1 (ap (key_cmp first) (sym e) ∙ key_itself first))

-- two keys that are not one fail it
pub test_apart : (first second : Key) → first ≢ second → eq_by_cmp key_cmp first second ≡ false
test_apart first second apart = by (eq_by_cmp key_cmp first second) refl
  where
    by : (b : Bool) → eq_by_cmp key_cmp first second ≡ b → eq_by_cmp key_cmp first second ≡ false
    by true is = absurd (apart ((key_test first second).0 is))
    by false is = is
