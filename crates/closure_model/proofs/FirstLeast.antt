-- The first of the least is the only one that is it, and there is one whenever an item has a weight.
use Rattle.std.proofs.Common.{◌≡◌, ◌+◌, ◌<◌, ℕ, suc, zero, ℤ, ◌≤ℤ◌, ◌<ℤ◌, Bool, true, false, cond, List, [], ◌∷◌, ◌++◌, length, ◌⊎◌, inl, inr, Option, Some, None, arith, refl, ap, sym, ◌∙◌}
use Rattle.std.specs.Prelude.{int_le, MatchOption, slice_get}
use Rattle.std.specs.Option.{option_map, option_and_then}
use Rattle.std.proofs.lemmas.Option.{slice_get_within}
use Rattle.closure_model.proofs.Nodes.{before_push, at_push, push_cases}
use Rattle.closure_model.specs.Least.{weight_at, lesser, first_least_from, first_least, IsFirstLeast, HasNoWeight}
use Rattle.closure_model.specs.ReferenceRow.{open_weight, FirstIsNext}
use Rattle.closure_model.proofs.Weights.{same_weight, le_of_same, le_is, le_is_not, le_then, lt_then, lt_is_le, between, not_below}

-- the first of the least of items whose places begin with a number
record IsFirstFrom {A : Type 0} (weight : A → Option ℤ) (start : ℕ) (xs : List A) (next : ℕ × ℤ) : Type 0 where
  place : ℕ
  at_place : next.0 ≡ place + start
  here : weight_at weight xs place ≡ Some next.1
  least : (other : ℕ) (w : ℤ) → weight_at weight xs other ≡ Some w → next.1 ≤ℤ w
  first : (other : ℕ) (w : ℤ) → weight_at weight xs other ≡ Some w → other < place → next.1 <ℤ w

abbrev FirstFromIs : {A : Type 0} → (A → Option ℤ) → ℕ → List A → Option (ℕ × ℤ) → Type 0
FirstFromIs weight start xs next = MatchOption next (HasNoWeight weight xs) (IsFirstFrom weight start xs)

-- which item is the first of the least, if any
abbrev pub FirstIs : {A : Type 0} → (A → Option ℤ) → List A → Option (ℕ × ℤ) → Type 0
FirstIs weight xs next = MatchOption next (HasNoWeight weight xs) (IsFirstLeast weight xs)

module _ {A : Type 0} (weight : A → Option ℤ) (start : ℕ) (x : A) (xs : List A) where
  -- the first item comes before the next of the others
  before : (mine : ℤ) (next : ℕ × ℤ) → weight x ≡ Some mine → mine ≤ℤ next.1 → IsFirstFrom weight (suc start) xs next → IsFirstFrom weight start (x ∷ xs) (start, mine)
  before mine next is not_greater rest = record { place = zero; at_place = omega arith; here = is; least = least; first = λ other w there earlier. absurd (omega arith) }
    where
      least : (other : ℕ) (w : ℤ) → weight_at weight (x ∷ xs) other ≡ Some w → mine ≤ℤ w
      least zero w there = le_of_same mine w (same_weight mine w (sym is ∙ there))
      least (suc other) w there = le_then mine next.1 w not_greater (rest.least other w there)

  -- the next of the others stays it if it is below what the first item has, if it has a weight
  later : (next : ℕ × ℤ) → ((w : ℤ) → weight x ≡ Some w → next.1 <ℤ w) → IsFirstFrom weight (suc start) xs next → IsFirstFrom weight start (x ∷ xs) next
  later next above rest = record {
    place = suc rest.place;
    at_place = let at = rest.at_place in omega arith;
    here = rest.here;
    least = least;
    first = first;
  }
    where
      least : (other : ℕ) (w : ℤ) → weight_at weight (x ∷ xs) other ≡ Some w → next.1 ≤ℤ w
      least zero w there = lt_is_le next.1 w (above w there)
      least (suc other) w there = rest.least other w there

      first : (other : ℕ) (w : ℤ) → weight_at weight (x ∷ xs) other ≡ Some w → other < suc rest.place → next.1 <ℤ w
      first zero w there earlier = above w there
      first (suc other) w there earlier = rest.first other w there (omega arith)

  -- only the first item has a weight
  alone : (mine : ℤ) → weight x ≡ Some mine → HasNoWeight weight xs → IsFirstFrom weight start (x ∷ xs) (start, mine)
  alone mine is none = record { place = zero; at_place = omega arith; here = is; least = least; first = λ other w there earlier. absurd (omega arith) }
    where
      least : (other : ℕ) (w : ℤ) → weight_at weight (x ∷ xs) other ≡ Some w → mine ≤ℤ w
      least zero w there = le_of_same mine w (same_weight mine w (sym is ∙ there))
      least (suc other) w there = let absent = none other in absurd cc

  none_at_all : weight x ≡ None → HasNoWeight weight xs → HasNoWeight weight (x ∷ xs)
  none_at_all is none zero = is
  none_at_all is none (suc place) = none place

  by_order : (mine : ℤ) (next : ℕ × ℤ) (b : Bool) → int_le mine next.1 ≡ b → weight x ≡ Some mine → IsFirstFrom weight (suc start) xs next → FirstFromIs weight start (x ∷ xs) (cond b (Some (start, mine)) (Some next))
  by_order mine next true test is rest = before mine next is (le_is mine next.1 test) rest
  by_order mine next false test is rest =
      later next (λ w there. lt_then next.1 mine w (le_is_not mine next.1 test) (le_of_same mine w (same_weight mine w (sym is ∙ there)))) rest

  one_more : (mine : Option ℤ) (next : Option (ℕ × ℤ)) → weight x ≡ mine → FirstFromIs weight (suc start) xs next → FirstFromIs weight start (x ∷ xs) (lesser (option_map (λ w. (start, w)) mine) next)
  one_more None None is rest = none_at_all is rest
  one_more None (Some next) is rest = later next (λ w there. absurd (cc)) rest
  one_more (Some mine) None is rest = alone mine is rest
  one_more (Some mine) (Some next) is rest = by_order mine next (int_le mine next.1) refl is rest

first_least_from-is : {A : Type 0} (weight : A → Option ℤ) (start : ℕ) (xs : List A) → FirstFromIs weight start xs (first_least_from weight start xs)
first_least_from-is weight start [] = λ place. refl
first_least_from-is weight start (x ∷ xs) = one_more weight start x xs (weight x) (first_least_from weight (suc start) xs) refl (first_least_from-is weight (suc start) xs)

from_zero : {A : Type 0} (weight : A → Option ℤ) (xs : List A) (next : Option (ℕ × ℤ)) → FirstFromIs weight 0 xs next → FirstIs weight xs next
from_zero weight xs None none = none
from_zero weight xs (Some next) is =
    let at : next.0 ≡ is.place = let at = is.at_place in omega arith in
    record {
      here = rw at is.here;
      least = is.least;
      first = λ other w there earlier. is.first other w there (let same = at in omega arith);
    }

pub first_least-is : {A : Type 0} (weight : A → Option ℤ) (xs : List A) → FirstIs weight xs (first_least weight xs)
first_least-is weight xs = from_zero weight xs (first_least weight xs) (first_least_from-is weight 0 xs)

-- two that are first are one
both_first : {A : Type 0} (weight : A → Option ℤ) (xs : List A) (one other : ℕ × ℤ) → IsFirstLeast weight xs one → IsFirstLeast weight xs other → one ≡ other
both_first weight xs one other is_one is_other = together one other same_place weights
  where
    weights : one.1 ≡ other.1
    weights = between one.1 other.1 (is_one.least other.0 other.1 is_other.here) (is_other.least one.0 one.1 is_one.here)

    not_before : one.0 < other.0 → ⊥
    not_before earlier = not_below other.1 one.1 (sym weights) (is_other.first one.0 one.1 is_one.here earlier)

    not_after : other.0 < one.0 → ⊥
    not_after earlier = not_below one.1 other.1 weights (is_one.first other.0 other.1 is_other.here earlier)

    same_place : one.0 ≡ other.0
    same_place = let no = not_before in let not = not_after in omega arith

    together : (a b : ℕ × ℤ) → a.0 ≡ b.0 → a.1 ≡ b.1 → a ≡ b
    together a b places same = λ i. (places i, same i)

only_first : {A : Type 0} (weight : A → Option ℤ) (xs : List A) (one other : Option (ℕ × ℤ)) → FirstIs weight xs one → FirstIs weight xs other → one ≡ other
only_first weight xs None None a b = refl
only_first weight xs None (Some other) a b = let none = a other.0 in let some = b.here in absurd cc
only_first weight xs (Some one) None a b = let none = b one.0 in let some = a.here in absurd cc
only_first weight xs (Some one) (Some other) a b = ap Some (both_first weight xs one other a b)

-- what is first is what the definition gives
pub first_least_of : {A : Type 0} (weight : A → Option ℤ) (xs : List A) (next : Option (ℕ × ℤ)) → FirstIs weight xs next → first_least weight xs ≡ next
first_least_of weight xs next is = only_first weight xs (first_least weight xs) next (first_least-is weight xs) is

pub law_first_is_next : FirstIsNext
law_first_is_next slots next is = first_least_of open_weight slots (Some next) is

-- ---- one item more
module _ {A : Type 0} (weight : A → Option ℤ) (xs : List A) (x : A) where
  at_old : (place : ℕ) (w : ℤ) → weight_at weight xs place ≡ Some w → weight_at weight (xs ++ x ∷ []) place ≡ Some w
  at_old place w has = by (slice_get xs place) refl has
    where
      by : (o : Option A) → slice_get xs place ≡ o → option_and_then weight o ≡ Some w → weight_at weight (xs ++ x ∷ []) place ≡ Some w
      by None here has = absurd cc
      by (Some y) here has = rw (before_push xs x place y here) has

  at_new : (w : ℤ) → weight x ≡ Some w → weight_at weight (xs ++ x ∷ []) (length xs) ≡ Some w
  at_new w has = rw (at_push xs x) has

  at_cases : (place : ℕ) (w : ℤ) → weight_at weight (xs ++ x ∷ []) place ≡ Some w → (weight_at weight xs place ≡ Some w) ⊎ ((place ≡ length xs) × (weight x ≡ Some w))
  at_cases place w has = by (slice_get (xs ++ x ∷ []) place) refl has
    where
      sort : (y : A) → weight y ≡ Some w → (slice_get xs place ≡ Some y) ⊎ ((place ≡ length xs) × (x ≡ y)) → (weight_at weight xs place ≡ Some w) ⊎ ((place ≡ length xs) × (weight x ≡ Some w))
      sort y has (inl here) = inl (rw here has)
      sort y has (inr (last, same)) = inr (last, ap weight same ∙ has)

      by : (o : Option A) → slice_get (xs ++ x ∷ []) place ≡ o → option_and_then weight o ≡ Some w → (weight_at weight xs place ≡ Some w) ⊎ ((place ≡ length xs) × (weight x ≡ Some w))
      by None here has = absurd cc
      by (Some y) here has = sort y has (push_cases xs x place y here)

  within : (place : ℕ) (w : ℤ) → weight_at weight xs place ≡ Some w → place < length xs
  within place w has = by (slice_get xs place) refl has
    where
      by : (o : Option A) → slice_get xs place ≡ o → option_and_then weight o ≡ Some w → place < length xs
      by None here has = absurd cc
      by (Some y) here has = slice_get_within xs place y here

  -- the last is first if it has less than the best before it, which else stays first
  last_first : (best : ℕ × ℤ) (w : ℤ) → weight x ≡ Some w → w <ℤ best.1 → IsFirstLeast weight xs best → IsFirstLeast weight (xs ++ x ∷ []) (length xs, w)
  last_first best w has less was = record { here = at_new w has; least = least; first = first }
    where
      least : (place : ℕ) (v : ℤ) → weight_at weight (xs ++ x ∷ []) place ≡ Some v → w ≤ℤ v
      least place v there = by (at_cases place v there)
        where
          by : (weight_at weight xs place ≡ Some v) ⊎ ((place ≡ length xs) × (weight x ≡ Some v)) → w ≤ℤ v
          by (inl old) = lt_is_le w v (lt_then w best.1 v less (was.least place v old))
          by (inr (last, same)) = le_of_same w v (same_weight w v (sym has ∙ same))

      first : (place : ℕ) (v : ℤ) → weight_at weight (xs ++ x ∷ []) place ≡ Some v → place < length xs → w <ℤ v
      first place v there earlier = by (at_cases place v there)
        where
          by : (weight_at weight xs place ≡ Some v) ⊎ ((place ≡ length xs) × (weight x ≡ Some v)) → w <ℤ v
          by (inl old) = lt_then w best.1 v less (was.least place v old)
          by (inr (last, same)) = absurd (omega arith)

  best_stays : (best : ℕ × ℤ) → ((w : ℤ) → weight x ≡ Some w → best.1 ≤ℤ w) → IsFirstLeast weight xs best → IsFirstLeast weight (xs ++ x ∷ []) best
  best_stays best above was = record { here = at_old best.0 best.1 was.here; least = least; first = first }
    where
      least : (place : ℕ) (v : ℤ) → weight_at weight (xs ++ x ∷ []) place ≡ Some v → best.1 ≤ℤ v
      least place v there = by (at_cases place v there)
        where
          by : (weight_at weight xs place ≡ Some v) ⊎ ((place ≡ length xs) × (weight x ≡ Some v)) → best.1 ≤ℤ v
          by (inl old) = was.least place v old
          by (inr (last, same)) = above v same

      first : (place : ℕ) (v : ℤ) → weight_at weight (xs ++ x ∷ []) place ≡ Some v → place < best.0 → best.1 <ℤ v
      first place v there earlier = by (at_cases place v there)
        where
          by : (weight_at weight xs place ≡ Some v) ⊎ ((place ≡ length xs) × (weight x ≡ Some v)) → best.1 <ℤ v
          by (inl old) = was.first place v old earlier
          by (inr (last, same)) = let inside = within best.0 best.1 was.here in absurd (omega arith)

  only_last : (w : ℤ) → weight x ≡ Some w → HasNoWeight weight xs → IsFirstLeast weight (xs ++ x ∷ []) (length xs, w)
  only_last w has none = record { here = at_new w has; least = least; first = first }
    where
      least : (place : ℕ) (v : ℤ) → weight_at weight (xs ++ x ∷ []) place ≡ Some v → w ≤ℤ v
      least place v there = by (at_cases place v there)
        where
          by : (weight_at weight xs place ≡ Some v) ⊎ ((place ≡ length xs) × (weight x ≡ Some v)) → w ≤ℤ v
          by (inl old) = let absent = none place in absurd cc
          by (inr (last, same)) = le_of_same w v (same_weight w v (sym has ∙ same))

      first : (place : ℕ) (v : ℤ) → weight_at weight (xs ++ x ∷ []) place ≡ Some v → place < length xs → w <ℤ v
      first place v there earlier = by (at_cases place v there)
        where
          by : (weight_at weight xs place ≡ Some v) ⊎ ((place ≡ length xs) × (weight x ≡ Some v)) → w <ℤ v
          by (inl old) = let absent = none place in absurd cc
          by (inr (last, same)) = absurd (omega arith)

  still_none : weight x ≡ None → HasNoWeight weight xs → HasNoWeight weight (xs ++ x ∷ [])
  still_none absent none place = by (weight_at weight (xs ++ x ∷ []) place) refl
    where
      either : (w : ℤ) → (weight_at weight xs place ≡ Some w) ⊎ ((place ≡ length xs) × (weight x ≡ Some w)) → weight_at weight (xs ++ x ∷ []) place ≡ None
      either w (inl old) = let no = none place in absurd cc
      either w (inr (last, same)) = absurd cc

      by : (o : Option ℤ) → weight_at weight (xs ++ x ∷ []) place ≡ o → weight_at weight (xs ++ x ∷ []) place ≡ None
      by None is = is
      by (Some w) is = either w (at_cases place w is)

  compared : (best : ℕ × ℤ) (w : ℤ) (b : Bool) → int_le best.1 w ≡ b → weight x ≡ Some w → IsFirstLeast weight xs best → FirstIs weight (xs ++ x ∷ []) (cond b (Some best) (Some (length xs, w)))
  compared best w true test has was = best_stays best (λ v same. le_then best.1 w v (le_is best.1 w test) (le_of_same w v (same_weight w v (sym has ∙ same)))) was
  compared best w false test has was = last_first best w has (le_is_not best.1 w test) was

  pub first_push : (best : Option (ℕ × ℤ)) → FirstIs weight xs best → FirstIs weight (xs ++ x ∷ []) (lesser best (option_map (λ w. (length xs, w)) (weight x)))
  first_push best was = by best (weight x) refl was
    where
      by : (best : Option (ℕ × ℤ)) (o : Option ℤ) → weight x ≡ o → FirstIs weight xs best → FirstIs weight (xs ++ x ∷ []) (lesser best (option_map (λ w. (length xs, w)) o))
      by None None absent none = still_none absent none
      by None (Some w) has none = only_last w has none
      by (Some best) None absent was = best_stays best (λ w has. absurd (cc)) was
      by (Some best) (Some w) has was = compared best w (int_le best.1 w) refl has was

pub first_none : {A : Type 0} (weight : A → Option ℤ) → FirstIs weight [] None
first_none weight place = refl
