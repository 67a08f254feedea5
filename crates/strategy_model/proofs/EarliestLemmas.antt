-- Earliest schedules.
use Rattle.std.proofs.Common.{◌≡◌, ℕ, suc, ◌<◌, ◌≤◌, List, [], ◌∷◌, length, refl, arith}
use Rattle.std.specs.List.{AllZip, slice_index}
use Rattle.strategy_model.specs.Laws.{AtMostOneEarliest}

-- numbers of two lists that are place by place at most the other's
pub place_by_place : (xs ys : List ℕ) → length xs ≡ length ys → ((k : ℕ) → k < length xs → slice_index xs k ≤ slice_index ys k) → AllZip (λ x y. x ≤ y) xs ys
place_by_place [] [] same below = tt
place_by_place [] (y ∷ ys) same below = absurd (omega (arith, same))
place_by_place (x ∷ xs) [] same below = absurd (omega (arith, same))
place_by_place (x ∷ xs) (y ∷ ys) same below =
    (below 0 (omega arith), place_by_place xs ys (omega (arith, same)) (λ k within. below (suc k) (omega (arith, within))))

-- lists of which each is at no place above the other are one
pub both_ways : (xs ys : List ℕ) → AllZip (λ x y. x ≤ y) xs ys → AllZip (λ y x. y ≤ x) ys xs → xs ≡ ys
both_ways [] [] below above = refl
both_ways [] (y ∷ ys) below above = absurd below
both_ways (x ∷ xs) [] below above = absurd below
both_ways (x ∷ xs) (y ∷ ys) below above =
    let under = below.0 in
    let over = above.0 in
    let same : x ≡ y = omega (arith, under, over) in
    let rest = both_ways xs ys below.1 above.1 in
    cc

pub law_at_most_one_earliest : AtMostOneEarliest
law_at_most_one_earliest net situation first second is_first is_second =
    both_ways first second (is_first.earliest is_second.strategy second is_second.controls is_second.played) (is_second.earliest is_first.strategy first is_first.controls is_first.played)
