-- How often numbers stand among draws.
use Rattle.std.proofs.Common.{◌≡◌, ℕ, ◌+◌, ◌<◌, cond, List, [], ◌∷◌, ◌++◌, refl, ap, inl, inr, arith, eq-eqb, ne_eqb}
use Rattle.std.specs.Prelude.{◌==◌}
use Rattle.std.specs.List.{All}
use Rattle.std.proofs.lemmas.Bool.{cases_lt, cases_eq, lt-ltb, le-ltb}
use Rattle.std.proofs.lemmas.List.Elements.{All-nil, All-cons}
use Rattle.std.proofs.lemmas.List.Sums.{sum_by-append, sum_by_push, sum_by-cons}
use Rattle.work_board.specs.BoardRule.{times_drawn, once_below}
use Rattle.work_board.specs.declared.view.Draw.{Draw}

-- how often a number stands among draws with one more, and among two lists
pub times_snoc : (number : ℕ) (draws : List Draw) (draw : Draw) → times_drawn number (draws ++ draw ∷ []) ≡ times_drawn number draws + cond {A = ℕ} (draw.number == number) 1 0
times_snoc number draws draw = sum_by_push (λ (d : Draw). cond (d.number == number) 1 0) draws draw

pub times_append : (number : ℕ) (draws more : List Draw) → times_drawn number (draws ++ more) ≡ times_drawn number draws + times_drawn number more
times_append number draws more = sum_by-append (λ (d : Draw). cond (d.number == number) 1 0) draws more

times_cons : (number : ℕ) (draw : Draw) (draws : List Draw) → times_drawn number (draw ∷ draws) ≡ cond {A = ℕ} (draw.number == number) 1 0 + times_drawn number draws
times_cons number draw draws = sum_by-cons (λ (d : Draw). cond (d.number == number) 1 0) draw draws

-- a draw stands at least once among draws that have it
pub all_of_times : (bound : ℕ) (draws : List Draw) → ((number : ℕ) → 0 < times_drawn number draws → number < bound) → All (λ (draw : Draw). draw.number < bound) draws
all_of_times bound [] h = All-nil (λ (d : Draw). d.number < bound)
all_of_times bound (draw ∷ draws) h =
    let whole = times_cons draw.number draw draws in
    let one : cond {A = ℕ} (draw.number == draw.number) 1 0 ≡ 1 = ap (λ b. cond {A = ℕ} b 1 0) (eq-eqb draw.number draw.number refl) in
    All-cons (λ (d : Draw). d.number < bound) draw draws (h draw.number (omega arith))
    (all_of_times bound draws (λ number some. let more = times_cons number draw draws in h number (omega arith)))

-- one number more is below the next bound
pub once_more : (number bound : ℕ) → once_below number (bound + 1) ≡ once_below number bound + cond {A = ℕ} (bound == number) 1 0
once_more number bound =
    elim (cases_lt number bound) [
      | inl below ↦
          let next : once_below number (bound + 1) ≡ 1 = ap (λ b. cond {A = ℕ} b 1 0) (lt-ltb number (bound + 1) (omega arith)) in
          let now : once_below number bound ≡ 1 = ap (λ b. cond {A = ℕ} b 1 0) (lt-ltb number bound below) in
          let is : cond {A = ℕ} (bound == number) 1 0 ≡ 0 = ap (λ b. cond {A = ℕ} b 1 0) (ne_eqb bound number (λ e. omega arith)) in omega arith
      | inr above ↦
          elim (cases_eq bound number) [
            | inl same ↦
                let next : once_below number (bound + 1) ≡ 1 = ap (λ b. cond {A = ℕ} b 1 0) (lt-ltb number (bound + 1) (omega arith)) in
                let now : once_below number bound ≡ 0 = ap (λ b. cond {A = ℕ} b 1 0) (le-ltb number bound above) in
                let is : cond {A = ℕ} (bound == number) 1 0 ≡ 1 = ap (λ b. cond {A = ℕ} b 1 0) (eq-eqb bound number same) in omega arith
            | inr other ↦
                let next : once_below number (bound + 1) ≡ 0 = ap (λ b. cond {A = ℕ} b 1 0) (le-ltb number (bound + 1) (omega arith)) in
                let now : once_below number bound ≡ 0 = ap (λ b. cond {A = ℕ} b 1 0) (le-ltb number bound above) in
                let is : cond {A = ℕ} (bound == number) 1 0 ≡ 0 = ap (λ b. cond {A = ℕ} b 1 0) (ne_eqb bound number other) in omega arith
          ]
    ]
