-- The first of the least: of the items of a list that have a weight, the one of least weight, and of equal ones the first.
use Rattle.std.specs.Prelude.{◌≡◌, ℕ, suc, ℤ, ◌≤ℤ◌, ◌<ℤ◌, ◌<◌, int_le, List, [], ◌∷◌, slice_get, Option, Some, None, if◌then◌else◌}
use Rattle.std.specs.Option.{option_map, option_and_then}

-- the lesser of two weights with their places, the first if they are equal
abbrev pub lesser : Option (ℕ × ℤ) → Option (ℕ × ℤ) → Option (ℕ × ℤ)
lesser None second = second
lesser (Some first) None = Some first
lesser (Some first) (Some second) = if int_le first.1 second.1 then Some first else Some second

-- the place and the weight of the first item of least weight, of items whose places begin with a number
abbrev pub first_least_from : {A : Type 0} → (A → Option ℤ) → ℕ → List A → Option (ℕ × ℤ)
first_least_from weight place [] = None
first_least_from weight place (x ∷ xs) = lesser (option_map (λ w. (place, w)) (weight x)) (first_least_from weight (suc place) xs)

-- the place and the weight of the first item of least weight, if any has a weight
abbrev pub first_least : {A : Type 0} → (A → Option ℤ) → List A → Option (ℕ × ℤ)
first_least weight xs = first_least_from weight 0 xs

-- the weight of the item at a place
abbrev pub weight_at : {A : Type 0} → (A → Option ℤ) → List A → ℕ → Option ℤ
weight_at weight xs place = option_and_then weight (slice_get xs place)

-- a place and its weight: no item has a lesser one, and none before it the same
pub record IsFirstLeast {A : Type 0} (weight : A → Option ℤ) (xs : List A) (first_one : ℕ × ℤ) : Type 0 where
  pub here : weight_at weight xs first_one.0 ≡ Some first_one.1
  pub least : (place : ℕ) (w : ℤ) → weight_at weight xs place ≡ Some w → first_one.1 ≤ℤ w
  pub first : (place : ℕ) (w : ℤ) → weight_at weight xs place ≡ Some w → place < first_one.0 → first_one.1 <ℤ w

-- no item has a weight
abbrev pub HasNoWeight : {A : Type 0} → (A → Option ℤ) → List A → Type 0
HasNoWeight weight xs = (place : ℕ) → weight_at weight xs place ≡ None
