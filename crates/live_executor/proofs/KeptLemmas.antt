-- What is kept of an execution when a point comes, when an act is made, and when all is taken back.
use Rattle.std.proofs.Common.{◌≡◌, ℕ, ◌+◌, ◌<◌, ◌≤◌, List, [], ◌∷◌, ◌++◌, length, Some, None, ap, sym, subst, ◌∙◌, arith}
use Rattle.std.proofs.lemmas.List.{length-append}
use Rattle.std.specs.List.{All}
use Rattle.net_model.specs.declared.ids.PointId.{PointId}
use Rattle.net_model.specs.Moments.{Moments, moment_of}
use Rattle.execution_model.specs.Feeds.{completed_at}
use Rattle.execution_model.proofs.MomentLemmas.{length-completed_at}
use Rattle.live_executor.specs.ExecutionStates.{ExecutionSoFar, HasCapacityLeft, StandsAt, points_left}
use Rattle.live_executor.specs.Sound.{KeptNetwork}
use Rattle.live_executor.proofs.FirstDueLemmas.{left_completed}
use Rattle.live_executor.proofs.SettleLemmas.{left_cons}
use Rattle.live_executor.proofs.UndoLemmas.{inside_more}

-- ---- the state as it is kept
pub stands_inside : (network : KeptNetwork) (t : ℕ) (inside state : ExecutionSoFar) → inside ≡ state → StandsAt network t state → StandsAt network t inside
stands_inside network t inside state is stands = subst (StandsAt network t) (sym is) stands

-- ---- capacity
pub left_at_most : (moments : Moments) → points_left moments ≤ length moments
left_at_most [] = omega arith
left_at_most (None ∷ moments) = (let rest = left_at_most moments in rw (left_cons None moments) (omega (arith, rest)))
left_at_most (Some m ∷ moments) = (let rest = left_at_most moments in rw (left_cons (Some m) moments) (omega (arith, rest)))

pub capacity_for_all : {X : Type 0} (moments : Moments) (list : List X) (places : ℕ) → list ≡ [] → length moments ≤ places → HasCapacityLeft moments list places
capacity_for_all moments list places empty reserved = record {
  few = (let none = ap (λ xs. length xs) empty in omega (arith, none, left_at_most moments));
  reserved = reserved;
}

module _ (moments now : Moments) (t : ℕ) (point : PointId) (inside : point.0 < length moments) (new : moment_of moments point ≡ None) (moments_are : now ≡ completed_at moments t point) where
  pub as_long : length now ≡ length moments
  as_long = ap (λ (m : Moments). length m) moments_are ∙ length-completed_at moments t point

  one_less : points_left now + 1 ≡ points_left moments
  one_less = ap (λ (m : Moments). points_left m + 1) moments_are ∙ left_completed moments t point inside new

  -- with a place for the point in a list that had one for each point left, and then for the others
  pub capacity_before : {X : Type 0} (list : List X) (places : ℕ) → length list + points_left moments ≤ length moments → length now ≤ places → length list < places
  capacity_before list places few reserved = omega (arith, few, reserved, one_less, as_long)

  pub capacity_after : {X : Type 0} (list pushed : List X) (one : X) (places : ℕ) → length list + points_left moments ≤ length moments → length now ≤ places → pushed ≡ list ++ one ∷ []
      → HasCapacityLeft now pushed places
  capacity_after list pushed one places few reserved is =
      let long : length pushed ≡ length list + 1 = ap (λ xs. length xs) is ∙ length-append list (one ∷ []) in
      record { few = omega (arith, few, one_less, as_long, long); reserved = reserved }

  pub same_capacity : {X : Type 0} (list : List X) (places : ℕ) → HasCapacityLeft moments list places → HasCapacityLeft now list places
  same_capacity list places spare_capacity = record { few = (let few = spare_capacity.few in omega (arith, few, one_less, as_long)); reserved = (let reserved = spare_capacity.reserved in omega (arith, reserved, as_long)) }

  pub inside_now : (came came_now : List PointId) → came_now ≡ came ++ point ∷ [] → All (λ (other : PointId). other.0 < length moments) came → All (λ (other : PointId). other.0 < length now) came_now
  inside_now came came_now pushed before =
      subst (λ (n : ℕ). All (λ (other : PointId). other.0 < n) came_now) (sym as_long) (inside_more (length moments) came came_now point inside pushed before)
