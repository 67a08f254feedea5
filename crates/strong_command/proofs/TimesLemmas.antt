-- The lines of points and their moments, one after another.
use Rattle.std.proofs.Common.{◌≡◌, ℕ, ◌+◌, ◌<◌, List, [], ◌∷◌, ◌++◌, Some, None, length, drop, get_or, slice_get, refl, sym, ap, ◌∙◌, inl, inr, arith, append_assoc}
use Rattle.std.proofs.Math.ListN.{drop_of_length-le}
use Rattle.std.proofs.lemmas.Bool.{cases_lt}
use Rattle.std.proofs.lemmas.List.{drop_more}
use Rattle.std.proofs.lemmas.Option.{none-some, slice_get_within, get_or_from_slice_get, slice_get-get_or}
use Rattle.strong_command.specs.StrongAnswers.{time_line, times_text}

no_times : (names : List (List ℕ)) → times_text names [] ≡ []
no_times [] = refl
no_times (name ∷ names) = refl

-- one line more
pub pushed : (before after out : List ℕ) (names : List (List ℕ)) (times : List ℕ) (k : ℕ) (name : List ℕ) (time : ℕ) → k < length names → name ≡ get_or names k name → slice_get times k ≡ Some time → after ≡ before ++ time_line name time
    → before ++ times_text (drop k names) (drop k times) ≡ out → after ++ times_text (drop (k + 1) names) (drop (k + 1) times) ≡ out
pushed before after out names times k name time inside is there grown so_far =
    let first : drop k names ≡ name ∷ drop (k + 1) names = drop_more names k name inside ∙ ap (λ (n : List ℕ). n ∷ drop (k + 1) names) (sym is) in
    let second : drop k times ≡ time ∷ drop (k + 1) times = drop_more times k time (slice_get_within times k time there) ∙ ap (λ (t : ℕ). t ∷ drop (k + 1) times) (get_or_from_slice_get times k time time there) in
    let both : times_text (drop k names) (drop k times) ≡ time_line name time ++ times_text (drop (k + 1) names) (drop (k + 1) times) = λ i. times_text (first i) (second i) in
    ap (λ (text : List ℕ). text ++ times_text (drop (k + 1) names) (drop (k + 1) times)) grown
    ∙ (append_assoc before (time_line name time) (times_text (drop (k + 1) names) (drop (k + 1) times))
    ∙ (sym (ap (λ (text : List ℕ). before ++ text) both) ∙ so_far))

-- if there are no more moments
pub passed : (before out : List ℕ) (names : List (List ℕ)) (times : List ℕ) (k : ℕ) → slice_get times k ≡ None → before ++ times_text (drop k names) (drop k times) ≡ out → before ++ times_text (drop (k + 1) names) (drop (k + 1) times) ≡ out
passed before out names times k none so_far =
    elim (cases_lt k (length times)) [
      | inl inside ↦ absurd (none-some (get_or times k 0) (sym none ∙ slice_get-get_or times k 0 inside))
      | inr over ↦
          let here : times_text (drop k names) (drop k times) ≡ [] = ap (times_text (drop k names)) (drop_of_length-le times over) ∙ no_times (drop k names) in
          let next : times_text (drop (k + 1) names) (drop (k + 1) times) ≡ [] = ap (times_text (drop (k + 1) names)) (drop_of_length-le times (omega (arith, over))) ∙ no_times (drop (k + 1) names) in
          ap (λ (text : List ℕ). before ++ text) (next ∙ sym here) ∙ so_far
    ]
