-- Whether some word of a row improves, if what is there of one of two rows is gone through.
use Rattle.std.proofs.Common.{◌≡◌, ℕ, ◌+◌, ◌==◌, ◌<◌, ℤ, Bool, true, false, inl, inr, List, length, get_or, refl, sym, ap, ◌∙◌, arith}
use Rattle.std.proofs.lemmas.Bool.{eqb-true}
use Rattle.std.proofs.lemmas.Bool.Decides.{nat_tests}
use Rattle.std.proofs.lemmas.List.{get_or_default}
use Rattle.cert_checker.specs.declared.few.Start.{Start}
use Rattle.cert_checker.specs.Least.{absent, descends, improves_in}
use Rattle.cert_checker.specs.Few.{start_word_of, words_of, AreRisingStarts}
use Rattle.cert_checker.proofs.FewLemmas.{word_at, word_in, OneOrNone, one_or_none}
use Rattle.cert_checker.proofs.RowLemmas.{improves_somewhere, improves_at}

pub each_stays : (firsts there : List ℤ) (weight : ℤ) → ((k : ℕ) → k < length firsts → descends (get_or firsts k absent) (get_or there k absent) weight ≡ false) → improves_in firsts there weight ≡ false
each_stays firsts there weight each = by (improves_in firsts there weight) refl
  where
    by : (b : Bool) → improves_in firsts there weight ≡ b → improves_in firsts there weight ≡ false
    by true is =
        let (k, within, improves_there) = improves_somewhere firsts there weight is in
        let stays = each k within in
        absurd cc
    by false is = is

module _ (firsts there : List ℤ) (weight : ℤ) (starts : List Start) (words : firsts ≡ words_of (length firsts) starts) (are : AreRisingStarts (length firsts) starts) where
  word : (from : ℕ) → from < length firsts → get_or firsts from absent ≡ start_word_of starts from
  word from inside = ap (λ (r : List ℤ). get_or r from absent) words ∙ word_in (length firsts) starts from absent inside

  pub start_improves : (k : ℕ) (d : Start) → k < length starts → length firsts ≡ length there → descends (get_or starts k d).word (get_or there (get_or starts k d).from absent) weight ≡ true → improves_in firsts there weight ≡ true
  start_improves k d inside long is =
      let start : Start = get_or starts k d in
      let within : start.from < length firsts = are.inside k d inside in
      let at : start_word_of starts start.from ≡ start.word = word_at starts k start.from d are.rise (record { inside = inside; same = λ e. ap (λ (s : Start). s.from) (get_or_default starts k e d inside) }) in
      improves_at firsts there weight start.from within (omega arith) (ap (λ (w : ℤ). descends w (get_or there start.from absent) weight) (word start.from within ∙ at) ∙ is)

  pub starts_stay : ((k : ℕ) (d : Start) → k < length starts → descends (get_or starts k d).word (get_or there (get_or starts k d).from absent) weight ≡ false) → improves_in firsts there weight ≡ false
  starts_stay each = each_stays firsts there weight (λ from inside. ap (λ (w : ℤ). descends w (get_or there from absent) weight) (word from inside) ∙ by from (one_or_none starts from))
    where
      by : (from : ℕ) → OneOrNone starts from → descends (start_word_of starts from) (get_or there from absent) weight ≡ false
      by from (inl none) = ap (λ (w : ℤ). descends w (get_or there from absent) weight) none
      by from (inr (k, inside, at)) =
          let d : Start = record { from = from; word = absent } in
          let (same, is) = at d in
          ap (λ (w : ℤ). descends w (get_or there from absent) weight) is ∙ (ap (λ (n : ℕ). descends (get_or starts k d).word (get_or there n absent) weight) (sym same) ∙ each k d inside)

-- a start does not go below a weight there
abbrev pub StartStays : List ℤ → ℤ → Start → Type 0
StartStays there weight start = descends start.word (get_or there start.from absent) weight ≡ false

-- one more that does not improve
pub none_more : (starts : List Start) (there : List ℤ) (weight : ℤ) (index : ℕ) (e : Start) → index < length starts
    → ((k : ℕ) (d : Start) → k < index → StartStays there weight (get_or starts k d)) → StartStays there weight (get_or starts index e)
    → (k : ℕ) (d : Start) → k < index + 1 → StartStays there weight (get_or starts k d)
none_more starts there weight index e inside before here k d less = by (k == index) refl
  where
    at : Start → Bool
    at start = descends start.word (get_or there start.from absent) weight

    by : (b : Bool) → k == index ≡ b → at (get_or starts k d) ≡ false
    by true same = ap (λ (n : ℕ). at (get_or starts n d)) (eqb-true k index same) ∙ (ap at (get_or_default starts index d e inside) ∙ here)
    by false apart = before k d (grind (arith, nat_tests))

pub each_more : (firsts there : List ℤ) (weight : ℤ) (index : ℕ) → ((k : ℕ) → k < index → descends (get_or firsts k absent) (get_or there k absent) weight ≡ false)
    → descends (get_or firsts index absent) (get_or there index absent) weight ≡ false → (k : ℕ) → k < index + 1 → descends (get_or firsts k absent) (get_or there k absent) weight ≡ false
each_more firsts there weight index before here k less = by (k == index) refl
  where
    by : (b : Bool) → k == index ≡ b → descends (get_or firsts k absent) (get_or there k absent) weight ≡ false
    by true same = ap (λ (n : ℕ). descends (get_or firsts n absent) (get_or there n absent) weight) (eqb-true k index same) ∙ here
    by false apart = before k (grind (arith, nat_tests))
