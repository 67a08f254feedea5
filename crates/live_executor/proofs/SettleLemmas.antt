-- In as many moments as the greatest number of a network there is an act, or no point is left.
use Rattle.std.proofs.Common.{◌≡◌, ℕ, zero, suc, ◌+◌, ◌-◌, ◌*◌, ◌<◌, ◌≤◌, Bool, true, false, cond, ◌⊎◌, inl, inr, [], ◌∷◌, length, get_or, Option, Some, None, refl, ap, sym, subst, ◌∙◌, arith}
use Rattle.std.specs.Prelude.{is_none}
use Rattle.std.proofs.Math.Nat.{mul-suc}
use Rattle.std.proofs.lemmas.Bool.{cases_lt}
use Rattle.std.proofs.lemmas.List.Sums.{sum_by-cons}
use Rattle.net_model.specs.Limits.{most_size}
use Rattle.net_model.specs.declared.ids.PointId.{PointId}
use Rattle.net_model.specs.Moments.{Moments}
use Rattle.execution_model.specs.Execution.{Setting, is_due, acts_at, acted, time_runs}
use Rattle.execution_model.proofs.MomentLemmas.{moment_due, acted_keeps, due_parts, none_due_no_acts, no_acts_same, length-acted, length-time_runs, time_runs_keeps, time_runs_on}
use Rattle.live_executor.specs.ExecutionStates.{points_left}
use Rattle.live_executor.specs.Limits.{AreBefore}
use Rattle.live_executor.specs.Sound.{IsSoundSetting}
use Rattle.live_executor.proofs.EndLemmas.{due_later}
use Rattle.live_executor.proofs.MomentLemmas.{time_before}
use Rattle.live_executor.proofs.TimeLemmas.{IsIdle, still}

-- ---- how many are left
-- each that has come in one list has come in the other
abbrev StaysCome : Moments → Moments → Type 0
StaysCome old new = (k : ℕ) (m : ℕ) → get_or old k None ≡ Some m → is_none (get_or new k None) ≡ false

one_more : (x y : Option ℕ) (m n : ℕ) → n ≤ m → ((a : ℕ) → x ≡ Some a → is_none y ≡ false) → cond (is_none y) 1 0 + n ≤ cond (is_none x) 1 0 + m
one_more None None m n less come = omega (arith, less)
one_more None (Some b) m n less come = omega (arith, less)
one_more (Some a) (Some b) m n less come = omega (arith, less)
one_more (Some a) None m n less come = (let no = come a refl in cc)

one_less : (x y : Option ℕ) (m n : ℕ) → n ≤ m → x ≡ None → is_none y ≡ false → cond (is_none y) 1 0 + n < cond (is_none x) 1 0 + m
one_less None None m n less none some = cc
one_less None (Some b) m n less none some = omega (arith, less)
one_less (Some a) y m n less none some = cc

pub left_cons : (x : Option ℕ) (xs : Moments) → points_left (x ∷ xs) ≡ cond (is_none x) 1 0 + points_left xs
left_cons x xs = sum_by-cons (λ moment. cond (is_none moment) 1 0) x xs

fewer : (old new : Moments) → length old ≡ length new → StaysCome old new → points_left new ≤ points_left old
fewer [] [] same stays = omega arith
fewer [] (y ∷ new) same stays = absurd (omega (arith, same))
fewer (x ∷ old) [] same stays = absurd (omega (arith, same))
fewer (x ∷ old) (y ∷ new) same stays =
    rw (left_cons y new, left_cons x old) (one_more x y (points_left old) (points_left new) (fewer old new (omega (arith, same)) (λ k m is. stays (suc k) m is)) (λ m is. stays 0 m is))

less_left : (old new : Moments) (k : ℕ) → length old ≡ length new → StaysCome old new → k < length old → get_or old k None ≡ None → is_none (get_or new k None) ≡ false → points_left new < points_left old
less_left [] new k same stays inside none some = absurd (omega (arith, inside))
less_left (x ∷ old) [] k same stays inside none some = absurd (omega (arith, same))
less_left (x ∷ old) (y ∷ new) zero same stays inside none some =
    rw (left_cons y new, left_cons x old) (one_less x y (points_left old) (points_left new) (fewer old new (omega (arith, same)) (λ k m is. stays (suc k) m is)) none some)
less_left (x ∷ old) (y ∷ new) (suc k) same stays inside none some =
    (let rest = less_left old new k (omega (arith, same)) (λ k m is. stays (suc k) m is) (omega (arith, inside)) none some in
    let first = one_more x y (points_left old) (suc (points_left new)) rest (λ m is. stays 0 m is) in
    rw (left_cons y new, left_cons x old) (omega (arith, first)))

some_is_not_none : (o : Option ℕ) (m : ℕ) → o ≡ Some m → is_none o ≡ false
some_is_not_none o m is = ap is_none is

-- ---- what is due
any_passes : (p : PointId → Bool) (n : ℕ) → ((point : PointId) → point.0 < n → p point ≡ false) ⊎ ((point : PointId) × (point.0 < n) × (p point ≡ true))
any_passes p zero = inl (λ point below. absurd (omega (arith, below)))
any_passes p (suc n) = by (any_passes p n) (p (record { 0 = n })) refl
  where
    by : ((point : PointId) → point.0 < n → p point ≡ false) ⊎ ((point : PointId) × (point.0 < n) × (p point ≡ true)) → (b : Bool) → p (record { 0 = n }) ≡ b
        → ((point : PointId) → point.0 < suc n → p point ≡ false) ⊎ ((point : PointId) × (point.0 < suc n) × (p point ≡ true))
    by (inr found) b is = inr (found.0, (let low = found.1 in omega (arith, low)), found.2)
    by (inl none) true is = inr (record { 0 = n }, omega arith, is)
    by (inl none) false is =
        inl (λ point below. elim (cases_lt point.0 n) [
          | inl less ↦ none point less
          | inr not_less ↦ (let same : n ≡ point.0 = omega (arith, below, not_less) in subst (λ (k : ℕ). p (record { 0 = k }) ≡ false) same is)
        ])

module _ (setting : Setting) where
  -- no point is due from a moment to the one before another
  abbrev IsIdleFrom : Moments → (t until : ℕ) → Type 0
  IsIdleFrom moments t until = (u : ℕ) → t ≤ u → u < until → IsIdle setting moments u

  -- no moment brings an act
  abbrev IsOver : Moments → Type 0
  IsOver moments = (t : ℕ) → acts_at setting moments t ≡ []

  left_runs : (moments : Moments) (t count : ℕ) → length moments ≡ length setting.dispatch → points_left (time_runs setting moments t count) ≤ points_left moments
  left_runs moments t count whole =
      fewer moments (time_runs setting moments t count) (whole ∙ sym (length-time_runs setting moments t count whole))
      (λ k m is. some_is_not_none (get_or (time_runs setting moments t count) k None) m (time_runs_keeps setting moments t count whole (record { 0 = k }) m is))

  pub left_acted : (moments : Moments) (t : ℕ) (point : PointId) → length moments ≡ length setting.dispatch → point.0 < length setting.dispatch → is_due setting moments t point ≡ true
      → points_left (acted setting moments t) < points_left moments
  left_acted moments t point whole inside is =
      let due = due_parts setting moments t point is in
      less_left moments (acted setting moments t) point.0 (whole ∙ sym (length-acted setting moments t))
      (λ k m is. some_is_not_none (get_or (acted setting moments t) k None) m (acted_keeps setting moments t whole (record { 0 = k }) m is))
      (omega (arith, inside, whole)) due.1 (some_is_not_none (get_or (acted setting moments t) point.0 None) t (moment_due setting moments t point inside is))

  idle_same : (moments : Moments) (t : ℕ) → length moments ≡ length setting.dispatch → IsIdle setting moments t → acted setting moments t ≡ moments
  idle_same moments t whole idle = no_acts_same setting moments t whole (none_due_no_acts setting moments t idle)

  -- in some time no point is due, or fewer are left after it
  progress : (moments : Moments) (t count : ℕ) → length moments ≡ length setting.dispatch
      → IsIdleFrom moments t (t + count) ⊎ (points_left (time_runs setting moments t count) < points_left moments)
  progress moments t zero whole = inl (λ u above below. absurd (omega (arith, above, below)))
  progress moments t (suc count) whole = by (any_passes (is_due setting moments t) (length setting.dispatch)) (progress moments (suc t) count whole)
    where
      by : IsIdle setting moments t ⊎ ((point : PointId) × (point.0 < length setting.dispatch) × (is_due setting moments t point ≡ true))
          → IsIdleFrom moments (suc t) (suc t + count) ⊎ (points_left (time_runs setting moments (suc t) count) < points_left moments)
          → IsIdleFrom moments t (t + suc count) ⊎ (points_left (time_runs setting (acted setting moments t) (suc t) count) < points_left moments)
      by (inr found) later =
          inr (let less = left_acted moments t found.0 whole found.1 found.2 in
          let more = left_runs (acted setting moments t) (suc t) count (length-acted setting moments t) in omega (arith, less, more))
      by (inl idle) (inl later) =
          inl (λ u above below. elim (cases_lt t u) [
            | inl after ↦ later u (omega arith) (omega (arith, below))
            | inr not_after ↦ (let same : t ≡ u = omega (arith, above, not_after) in subst (IsIdle setting moments) same idle)
          ])
      by (inl idle) (inr less) = inr (subst (λ (m : Moments). points_left (time_runs setting m (suc t) count) < points_left moments) (sym (idle_same moments t whole idle)) less)

  idle_for_ever : (moments : Moments) (from count : ℕ) → length moments ≡ length setting.dispatch → ((t : ℕ) → IsIdle setting moments t)
      → IsOver (time_runs setting moments from count)
  idle_for_ever moments from count whole idle t =
      rw ((still setting moments from count whole (λ u above below. idle u)).same) (none_due_no_acts setting moments t (idle t))

  module _ (sound : IsSoundSetting setting) (size : ℕ) (great : most_size ≤ size) (some : 0 < size) where
    none_left : (moments : Moments) → length moments ≡ length setting.dispatch → points_left moments ≤ 0 → (t : ℕ) → IsIdle setting moments t
    none_left moments whole none t point inside = by (is_due setting moments t point) refl
      where
        by : (b : Bool) → is_due setting moments t point ≡ b → b ≡ false
        by false is = refl
        by true is = absurd (let less = left_acted moments t point whole inside is in omega (arith, none, less))

    quiet : (moments : Moments) (from u : ℕ) → AreBefore from moments → from + size ≤ u + 1 → IsIdle setting moments u → (t : ℕ) → IsIdle setting moments t
    quiet moments from u before later idle t point inside = by (is_due setting moments t point) refl
      where
        by : (b : Bool) → is_due setting moments t point ≡ b → b ≡ false
        by false is = refl
        by true is = (let yes = due_later setting sound moments from t u before (omega (arith, later, great)) point inside is in let no = idle point inside in cc)

    abbrev IsSettledBy : (left : ℕ) → Moments → (from count : ℕ) → Type 0
    IsSettledBy left moments from count =
        length moments ≡ length setting.dispatch → AreBefore from moments → points_left moments ≤ left → size * left ≤ count → IsOver (time_runs setting moments from count)

    -- after so many times this size no act is left
    pub settled : (left : ℕ) (moments : Moments) (from count : ℕ) → IsSettledBy left moments from count
    settled zero moments from count whole before few long = idle_for_ever moments from count whole (none_left moments whole few)
    settled (suc left) moments from count whole before few long = by (progress moments from size whole) (settled left (time_runs setting moments from size) (from + size) (count - size))
      where
        more : size * suc left ≡ size * left + size
        more = mul-suc size left

        by : IsIdleFrom moments from (from + size) ⊎ (points_left (time_runs setting moments from size) < points_left moments)
            → IsSettledBy left (time_runs setting moments from size) (from + size) (count - size) → IsOver (time_runs setting moments from count)
        by (inl idle) next =
            idle_for_ever moments from count whole (quiet moments from (from + size - 1) before (omega (arith, great)) (idle (from + size - 1) (omega (arith, great)) (omega (arith, great))))
        by (inr less) next = λ t.
            (let split : size + (count - size) ≡ count = omega (arith, long, more) in
            let same : time_runs setting (time_runs setting moments from size) (from + size) (count - size) ≡ time_runs setting moments from count =
            sym (time_runs_on setting moments from size (count - size)) ∙ ap (time_runs setting moments from) split in
            subst (λ (m : Moments). acts_at setting m t ≡ []) same
            (next (length-time_runs setting moments from size whole) (time_before setting moments from size before) (omega (arith, less, few)) (omega (arith, long, more)) t))
