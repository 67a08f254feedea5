-- Texts that are all there.
use Rattle.std.proofs.Common.{◌≡◌, ℕ, suc, zero, ◌<◌, ◌≤◌, length, drop, drop_of_length-le, append-nil, List, [], ◌∷◌, ◌++◌, map, Option, Some, None, refl, sym, ap, ap₂, ◌∙◌, arith}
use Rattle.std.specs.Borrow.{Bor}
use Rattle.std.specs.List.{slice_index_or}
use Rattle.command_words.specs.Syntax.{Text}
use Rattle.command_words.specs.ArgumentReading.{all_texts, with_first_text}

all_some : (texts : List Text) → all_texts (map Some texts) ≡ Some texts
all_some [] = refl
all_some (text ∷ texts) = ap (with_first_text (Some text)) (all_some texts)

some_none : (texts : List Text) (rest : List (Option Text)) → all_texts (map Some texts ++ None ∷ rest) ≡ None
some_none [] rest = refl
some_none (text ∷ texts) rest = ap (with_first_text (Some text)) (some_none texts rest)

module _ (f : Text → Option Text) where
  abbrev found : List (Bor Text) → List (Option Text)
  found names = map f (map (λ name. name.now) names)

  next : (names : List (Bor Text)) (i : ℕ) (d : Bor Text) → i < length names → found (drop i names) ≡ f (slice_index_or names i d).now ∷ found (drop (suc i) names)
  next [] i d lt = absurd (omega arith)
  next (n ∷ names) zero d lt = refl
  next (n ∷ names) (suc i) d lt = next names i d (omega (arith, lt))

  -- one is not there
  pub none_there : (texts : List Text) (names : List (Bor Text)) (i : ℕ) (d : Bor Text) → map Some texts ++ found (drop i names) ≡ found names → i < length names
      → f (slice_index_or names i d).now ≡ None → None ≡ all_texts (found names)
  none_there texts names i d same lt none =
      sym (some_none texts (found (drop (suc i) names)))
      ∙ ap all_texts (ap₂ (λ x xs. map Some texts ++ x ∷ xs) (sym none) refl ∙ ap (λ l. map Some texts ++ l) (sym (next names i d lt)) ∙ same)

  -- each is there
  pub all_there : (texts : List Text) (names : List (Bor Text)) (i : ℕ) → map Some texts ++ found (drop i names) ≡ found names → length names ≤ i → Some texts ≡ all_texts (found names)
  all_there texts names i same past =
      sym (all_some texts) ∙ ap all_texts (sym (append-nil (map Some texts)) ∙ ap (λ l. map Some texts ++ found l) (sym (drop_of_length-le names past)) ∙ same)
