-- The first of a list that passes a test, if no two pass.
use Rattle.std.proofs.Common.{◌≡◌, ℕ, ◌<◌, Bool, true, false, List, [], ◌∷◌, length, get_or, Some, position, refl, ap, ◌∙◌, subst, arith}
use Rattle.std.specs.Prelude.{slice_get}
use Rattle.std.specs.List.{AllPairs}
use Rattle.std.proofs.lemmas.List.Quantifiers.{position-Some}
use Rattle.std.proofs.lemmas.Option.{slice_get-get_or, slice_get_within, get_or_from_slice_get}
use Rattle.net_model.proofs.Positions.{position_first}

module _ {X : Type 0} (p : X → Bool) (xs : List X) where
  -- what was found passes
  pub found_passes : (k : ℕ) → position p xs ≡ Some k → (x : X) × (slice_get xs k ≡ Some x) × (p x ≡ true)
  found_passes k found = by xs found
    where
      by : (ys : List X) → position p ys ≡ Some k → (x : X) × (slice_get ys k ≡ Some x) × (p x ≡ true)
      by [] found' = absurd cc
      by (y ∷ ys) found' =
          let (inside, passes, before) = position-Some p (y ∷ ys) k y found' in
          (get_or (y ∷ ys) k y, slice_get-get_or (y ∷ ys) k y inside, passes)

  -- the one that passes is found
  pub one_is_found : (k : ℕ) (x : X) → ((i j : ℕ) (a b : X) → i < j → slice_get xs i ≡ Some a → slice_get xs j ≡ Some b → p a ≡ true → p b ≡ true → ⊥) → slice_get xs k ≡ Some x → p x ≡ true → position p xs ≡ Some k
  one_is_found k x apart here passes =
      let inside : k < length xs = slice_get_within xs k x here in
      let at : get_or xs k x ≡ x = get_or_from_slice_get xs k x x here in
      position_first p xs k x inside (ap p at ∙ passes) (λ j less. fails j less (p (get_or xs j x)) refl)
    where
      fails : (j : ℕ) → j < k → (b : Bool) → p (get_or xs j x) ≡ b → p (get_or xs j x) ≡ false
      fails j less false is = is
      fails j less true is =
          let inside : k < length xs = slice_get_within xs k x here in
          absurd (apart j k (get_or xs j x) x less (slice_get-get_or xs j x (omega arith)) here is passes)

-- items before others of a list whose items are in pairs so
pub pair_at : {X : Type 0} (R : X → X → Type 0) (xs : List X) → AllPairs R xs → (i j : ℕ) (a b : X) → i < j → slice_get xs i ≡ Some a → slice_get xs j ≡ Some b → R a b
pair_at {X = X} R xs pairs i j a b less first second =
    let inside : j < length xs = slice_get_within xs j b second in
    let one : get_or xs i a ≡ a = get_or_from_slice_get xs i a a first in
    let two : get_or xs j a ≡ b = get_or_from_slice_get xs j b a second in
    subst (λ (x : X). R x b) one (subst (λ (x : X). R (get_or xs i a) x) two (pairs i j a less inside))
