-- Points that rise.
use Rattle.std.proofs.Common.{◌≡◌, ℕ, suc, ◌+◌, ◌-◌, ◌<◌, ◌≤◌, List, [], ◌∷◌, length, get_or, Some, sym, subst, arith}
use Rattle.std.specs.Prelude.{slice_get}
use Rattle.std.specs.List.{All, Contains}
use Rattle.std.proofs.lemmas.List.Elements.{All-contains, All-head, All-tail}
use Rattle.std.proofs.lemmas.List.FromFn.{get_or-map-range_with_len, length-map-range_with_len}
use Rattle.std.proofs.lemmas.Option.{slice_get_within, get_or_from_slice_get}
use Rattle.net_model.specs.declared.ids.PointId.{PointId}
use Rattle.closure_model.specs.Keys.{Shape, all_points}
use Rattle.parallel_rounds.specs.Targets.{AreRisingPoints}

pub rising_tail : (point : PointId) (points : List PointId) → AreRisingPoints (point ∷ points) → AreRisingPoints points
rising_tail point points rise = λ i j d less inside. rise (suc i) (suc j) d (omega arith) (omega arith)

pub rising_above : (point : PointId) (points : List PointId) → AreRisingPoints (point ∷ points) → (other : PointId) → Contains points other → point.0 < other.0
rising_above point points rise other there =
    All-contains (λ (p : PointId). point.0 < p.0) points other (λ k d inside. rise 0 (suc k) d (omega arith) (omega arith)) there

pub rising_at : (points : List PointId) (i j : ℕ) (one other : PointId) → AreRisingPoints points → i < j → slice_get points i ≡ Some one → slice_get points j ≡ Some other → one.0 < other.0
rising_at points i j one other rise less here there =
    let inside = slice_get_within points j other there in
    let below = rise i j one less inside in
    let first : get_or points i one ≡ one = get_or_from_slice_get points i one one here in
    let second : get_or points j one ≡ other = get_or_from_slice_get points j other one there in
    subst (λ (p : PointId). one.0 < p.0) second (subst (λ (p : PointId). p.0 < (get_or points j one).0) first below)

pub at_place : (points : List PointId) (place : ℕ) (point : PointId) → slice_get points place ≡ Some point → Contains points point
at_place points place point here = (place, slice_get_within points place point here, get_or_from_slice_get points place point point here)

-- rising points are no more than there are numbers for them
short_from : (low high : ℕ) (points : List PointId) → AreRisingPoints points → All (λ (p : PointId). low ≤ p.0) points → All (λ (p : PointId). p.0 < high) points → length points ≤ high - low
short_from low high [] rise from below = omega arith
short_from low high (point ∷ points) rise from below =
    let first = All-head (λ (p : PointId). low ≤ p.0) point points from in
    let under = All-head (λ (p : PointId). p.0 < high) point points below in
    let rest = short_from (point.0 + 1) high points (rising_tail point points rise) (λ k d inside. let above = rise 0 (suc k) d (omega arith) (omega arith) in omega arith) (All-tail (λ (p : PointId). p.0 < high) point points below) in
    omega arith

pub rising_short : (high : ℕ) (points : List PointId) → AreRisingPoints points → All (λ (p : PointId). p.0 < high) points → length points ≤ high
rising_short high points rise below = let short = short_from 0 high points rise (λ k d inside. omega arith) below in omega arith

-- all points rise, and are points
pub all_rise : (shape : Shape) → AreRisingPoints (all_points shape)
all_rise shape i j d less inside =
    let point : ℕ → PointId = λ k. record { 0 = k } in
    let long : length (all_points shape) ≡ shape.points = length-map-range_with_len point 0 shape.points in
    let one : get_or (all_points shape) i d ≡ point i = get_or-map-range_with_len point 0 shape.points i i d (omega arith) (omega arith) in
    let other : get_or (all_points shape) j d ≡ point j = get_or-map-range_with_len point 0 shape.points j j d (omega arith) (omega arith) in
    subst (λ (p : PointId). p.0 < (get_or (all_points shape) j d).0) (sym one) (subst (λ (p : PointId). i < p.0) (sym other) less)

pub all_inside : (shape : Shape) → All (λ (p : PointId). p.0 < shape.points) (all_points shape)
all_inside shape k d inside =
    let point : ℕ → PointId = λ k. record { 0 = k } in
    let long : length (all_points shape) ≡ shape.points = length-map-range_with_len point 0 shape.points in
    let here : get_or (all_points shape) k d ≡ point k = get_or-map-range_with_len point 0 shape.points k k d (omega arith) (omega arith) in
    subst (λ (p : PointId). p.0 < shape.points) (sym here) (omega arith)
