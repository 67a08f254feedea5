-- Lists of points, and conditions beyond them.
use Rattle.std.proofs.Common.{◌≡◌, ℕ, ◌+◌, ◌<◌, ◌≤◌, List, [], ◌∷◌, ◌++◌, length, map, take, get_or, Option, None, ap, sym, subst, ◌∙◌, arith}
use Rattle.std.specs.List.{range_with_len}
use Rattle.std.proofs.lemmas.List.{get_or_past, map-append, take_more}
use Rattle.std.proofs.lemmas.List.FromFn.{map-range_with_len_more}
use Rattle.net_model.specs.declared.ids.PointId.{PointId}
use Rattle.dispatch_net.specs.Dispatchable.{conditions_at, no_conditions}
use Rattle.execution_model.specs.Execution.{Setting, points_of}
use Rattle.execution_model.proofs.MomentLemmas.{length-points}

-- one more point
pub points_more : (n : ℕ) → ◌≡◌ {A = List PointId} (map (λ k. record { 0 = k }) (range_with_len 0 (n + 1))) (map (λ k. record { 0 = k }) (range_with_len 0 n) ++ record { 0 = n } ∷ [])
points_more n = map-range_with_len_more (λ (k : ℕ). record { 0 = k }) 0 n n (omega arith)

-- as many points as conditions
pub inside : (setting : Setting) (points : List PointId) (n : ℕ) → points ≡ points_of setting → n < length points → n < length setting.dispatch
inside setting points n are less = subst (λ m. n < m) (ap length are ∙ length-points setting) less

pub past : (setting : Setting) (points : List PointId) (point : PointId) → points ≡ points_of setting → length points ≤ point.0 → conditions_at setting.dispatch point ≡ no_conditions
past setting points point are beyond = get_or_past setting.dispatch point.0 no_conditions (subst (λ m. m ≤ point.0) (ap length are ∙ length-points setting) beyond)

-- a point more has no moment either
pub none_more : (points : List PointId) (i : ℕ) (moments after : List (Option ℕ)) → i < length points → moments ≡ map (λ (point : PointId). None) (take i points) → after ≡ moments ++ None ∷ []
    → after ≡ map (λ (point : PointId). None) (take (i + 1) points)
none_more points i moments after less are pushed =
    let first : PointId = record { 0 = 0 } in
    let none : PointId → Option ℕ = λ point. None in
    pushed ∙ ap (λ (m : List (Option ℕ)). m ++ None ∷ []) are ∙ sym (map-append none (take i points) (get_or points i first ∷ [])) ∙ ap (map none) (sym (take_more points i first less))
