-- What relaxes in vain: an edge that the table has at a weight that is no greater changes no slot, so what is saturated can be left out.
use Rattle.std.proofs.Common.{◌≡◌, ℕ, zero, suc, ℤ, ◌≤ℤ◌, ◌<ℤ◌, true, false, List, [], ◌∷◌, map, fold, Option, Some, refl, ap, sym, subst, ◌∙◌, arith}
use Rattle.std.specs.Prelude.{slice_get, int_lt}
use Rattle.std.specs.Option.{option_map_or}
use Rattle.std.specs.List.{Contains}
use Rattle.net_model.specs.declared.ids.PointId.{PointId}
use Rattle.closure_model.specs.PrunedRows.{IsThinned, at_end, keeps, leaves}
use Rattle.closure_model.specs.ReferenceRow.{has_above, relaxed}
use Rattle.closure_model.specs.Tables.{Graph, weight_of, HasAtMost}
use Rattle.closure_model.specs.declared.rows.Made.{Made}
use Rattle.closure_model.specs.declared.rows.Slot.{Slot}
use Rattle.closure_model.proofs.Lists.{Contains-head, Contains-tail}
use Rattle.closure_model.proofs.Slots.{key_in, slot_of_key, Change, stays, takes, relaxed_one, relaxed_change, was_slot, change_key, above}
use Rattle.closure_model.proofs.TableLemmas.{at_most_gives}
use Rattle.closure_model.proofs.Weights.{le_then, lt_then, lt_is_le, lt_false}

same_map : {X : Type 0} (f : X → X) (xs : List X) → ((k : ℕ) (x : X) → slice_get xs k ≡ Some x → f x ≡ x) → map f xs ≡ xs
same_map f [] each = refl
same_map f (x ∷ xs) each = let here = each 0 x refl in let rest = same_map f xs (λ k y at. each (suc k) y at) in λ i. here i ∷ rest i

-- a slot that has a weight which is no greater than that of a relaxed edge stays as it is
pub not_taken : (made : Made) (slot : Slot) → has_above slot made.edge.weight ≡ false → relaxed_one made slot ≡ slot
not_taken made slot not = by (relaxed_one made slot) (relaxed_change made slot)
  where
    by : (after : Slot) → Change made slot after → after ≡ slot
    by after (stays is not') = sym is
    by after (takes of is_above is) = absurd cc

pub holds_it : (slot : Slot) (weight old : ℤ) → slot.weight ≡ Some old → old ≤ℤ weight → has_above slot weight ≡ false
holds_it slot weight old has less = ap (λ (o : Option ℤ). option_map_or (λ (w : ℤ). int_lt weight w) o true) has ∙ lt_false weight old less

module _ (table : Graph) (to : PointId) where
  -- each slot is at most what the table has of its key
  abbrev pub IsUnder : List Slot → Type 0
  IsUnder slots = (place : ℕ) (slot : Slot) (old : ℤ) → slice_get slots place ≡ Some slot → weight_of table (key_in to slot) ≡ Some old → (weight : ℤ) × (slot.weight ≡ Some weight) × (weight ≤ℤ old)

  pub under_relaxed : (slots : List Slot) (made : Made) → IsUnder slots → IsUnder (relaxed slots made)
  under_relaxed slots made under place after old there has = let was = was_slot slots made place after there in by was.slot was.here was.change
    where
      by : (slot : Slot) → slice_get slots place ≡ Some slot → Change made slot after → (weight : ℤ) × (after.weight ≡ Some weight) × (weight ≤ℤ old)
      by slot here (stays is not) = under place after old (here ∙ ap Some is) has
      by slot here (takes of is_above is) =
          let key : key_in to after ≡ key_in to slot = change_key to made slot after (takes of is_above is) in
          let (weight, had, less) = under place slot old here (ap (weight_of table) (sym key) ∙ has) in
          let below : made.edge.weight <ℤ weight = above slot made.edge.weight weight is_above had in
          (made.edge.weight, ap (λ (s : Slot). s.weight) (sym is), lt_is_le made.edge.weight old (lt_then made.edge.weight weight old below less))

  in_vain : (slots : List Slot) (made : Made) → IsUnder slots → made.edge.to ≡ to → HasAtMost table made.edge → relaxed slots made ≡ slots
  in_vain slots made under ends met = same_map (relaxed_one made) slots stay
    where
      stay : (k : ℕ) (slot : Slot) → slice_get slots k ≡ Some slot → relaxed_one made slot ≡ slot
      stay k slot here = by (relaxed_one made slot) (relaxed_change made slot)
        where
          by : (after : Slot) → Change made slot after → after ≡ slot
          by after (stays is not) = sym is
          by after (takes of is_above is) =
              let (old, has, less) = at_most_gives table made.edge met in
              let (weight, had, under') = under k slot old here (ap (weight_of table) (slot_of_key to made.edge slot ends of) ∙ has) in
              let not = holds_it slot made.edge.weight weight had (le_then weight old made.edge.weight under' less) in absurd cc

  -- so to relax a list is to relax a thinner one
  pub thinned_relaxations : (all few : List Made) (slots : List Slot) → IsUnder slots → ((made : Made) → Contains all made → made.edge.to ≡ to) → IsThinned table all few → fold relaxed slots all ≡ fold relaxed slots few
  thinned_relaxations _ _ slots under ends at_end = refl
  thinned_relaxations _ _ slots under ends (keeps made all few rest) =
      thinned_relaxations all few (relaxed slots made) (under_relaxed slots made under) (λ one inside. ends one (Contains-tail made all one inside)) rest
  thinned_relaxations _ _ slots under ends (leaves made all few met rest) =
      ap (λ (s : List Slot). fold relaxed s all) (in_vain slots made under (ends made (Contains-head made all)) met)
      ∙ thinned_relaxations all few slots under (λ one inside. ends one (Contains-tail made all one inside)) rest

  -- what stays of a thinned list
  pub thinned_from : (all few : List Made) → IsThinned table all few → (made : Made) → Contains few made → Contains all made
  thinned_from _ _ at_end made inside = inside
  thinned_from _ _ (keeps one all few rest) made (zero, within, at) = subst (Contains (one ∷ all)) at (Contains-head one all)
  thinned_from _ _ (keeps one all few rest) made (suc k, within, at) = Contains-tail one all made (thinned_from all few rest made (k, omega arith, at))
  thinned_from _ _ (leaves one all few met rest) made inside = Contains-tail one all made (thinned_from all few rest made inside)
