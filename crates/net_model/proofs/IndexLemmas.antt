-- The index of a list, and what a search by it finds.
use Rattle.std.proofs.Common.{◌≡◌, ◌∙◌, ℕ, ◌+◌, ◌<◌, Bool, true, false, List, [], ◌∷◌, ◌++◌, length, take, get_or, Option, Some, None, Err, position, slice_get, refl, ap, sym, subst, inl, inr, arith}
use mathlib.Core.Bool.{true≢false}
use Rattle.std.specs.Cmp.{IsTotalOrder, nat_cmp_total, on_total, then_total, tied_itself}
use Rattle.std.specs.Cmp.Lexicographic.{options_total}
use Rattle.std.specs.List.{All, IsDistinct, Contains}
use Rattle.std.specs.List.Sorted.{IsBinarySearchResult, IsPermutation}
use Rattle.std.specs.Option.{option_cmp}
use Rattle.std.specs.Ordering.{is_eq, nat_cmp, ordering_then}
use Rattle.std.specs.declared.cmp.Ordering.{Ordering}
use Rattle.std.specs.declared.cmp.Ordering.TheVariants.{Less, Equal, Greater}
use Rattle.std.specs.Str.{bytes_eq}
use Rattle.std.proofs.lemmas.Bool.{cases_lt}
use Rattle.std.proofs.lemmas.List.{length-map, length-take, get_or-map, get_or-take, map-append}
use Rattle.std.proofs.lemmas.List.Elements.{Contains-append_left, Contains-push}
use Rattle.std.proofs.lemmas.List.Sorted.{searchable_from_sorted, All-permutation, Contains-permutation, IsPermutation-map}
use Rattle.std.proofs.lemmas.Option.{slice_get_within, get_or_from_slice_get}
use Rattle.std.proofs.lemmas.Slice.Eq.{bytes_eq-Decides}
use Rattle.net_model.specs.NameIndex.{name_key, entry, entry_cmp, places_of, IsKeyed, HasEachPlace, IsNameIndex}
use Rattle.net_model.specs.NameOrder.{name_cmp_total, names_tie}
use Rattle.net_model.specs.Names.{name_cmp}
use Rattle.net_model.specs.declared.name_index.KeyedPlace.{KeyedPlace}
use Rattle.net_model.proofs.NetworkListLemmas.{next_name_new}
use Rattle.net_model.proofs.Positions.{None_from_fails, fails_from_None, position_first}

-- the places below one more
more_places : (places : List ℕ) (next : ℕ) → ((p : ℕ) → p < next → Contains places p) → (p : ℕ) → p < next + 1 → Contains (places ++ next ∷ []) p
more_places places next below p inside = elim (cases_lt p next) [
  | inl less ↦ Contains-append_left places (next ∷ []) p (below p less)
  | inr least ↦ let same : next ≡ p = omega (arith) in subst (Contains (places ++ next ∷ [])) same (Contains-push places next)
]

pub one_more : (keyed : List KeyedPlace) (next : KeyedPlace) → ((p : ℕ) → p < next.place → Contains (places_of keyed) p)
    → (p : ℕ) → p < next.place + 1 → Contains (places_of (keyed ++ next ∷ [])) p
one_more keyed next below p inside =
    subst (λ (ps : List ℕ). Contains ps p) (sym (map-append (λ (one : KeyedPlace). one.place) keyed (next ∷ [])))
    (more_places (places_of keyed) next.place below p inside)

-- the places in another order
pub reordered : (names : List (List ℕ)) (before after : List KeyedPlace) → IsPermutation before after → HasEachPlace names before → HasEachPlace names after
reordered names before after moved has = record {
  each = λ p inside. Contains-permutation _ _ p (IsPermutation-map (λ (one : KeyedPlace). one.place) before after moved) (has.each p inside);
  keys = All-permutation (IsKeyed names) before after moved has.keys;
}

-- the order of an index
pub entry_cmp_total : IsTotalOrder entry_cmp
entry_cmp_total = then_total (on_total (λ (one : ℕ × Option (List ℕ)). one.0) nat_cmp_total) (on_total (λ (one : ℕ × Option (List ℕ)). one.1) (options_total name_cmp_total))

-- what ties by two orders does by the second
both_equal : (first second : Ordering) → ordering_then first second ≡ Equal → second ≡ Equal
both_equal Less second is = absurd (true≢false (ap is_eq (sym is)))
both_equal Equal second is = is
both_equal Greater second is = absurd (true≢false (ap is_eq (sym is)))

-- a name stands as another only where it is that name
named_at : (o : Option (List ℕ)) (name : List ℕ) → option_cmp name_cmp o (Some name) ≡ Equal → o ≡ Some name
named_at None name is = absurd (true≢false (ap is_eq (sym is)))
named_at (Some one) name is = ap Some ((bytes_eq-Decides one name).0 (names_tie one name ∙ ap is_eq is))

module _ (names : List (List ℕ)) (name : List ℕ) where
  -- how a place stands to the name
  abbrev pub stands : KeyedPlace → Ordering
  stands keyed = entry_cmp (entry names keyed) (name_key name, Some name)

  -- the one place of the name
  pub found : IsDistinct bytes_eq names → (keyed : KeyedPlace) → stands keyed ≡ Equal → position (bytes_eq name) names ≡ Some keyed.place
  found apart keyed is =
      let p = keyed.place in
      let tied : option_cmp name_cmp (slice_get names p) (Some name) ≡ Equal = both_equal (nat_cmp keyed.key (name_key name)) (option_cmp name_cmp (slice_get names p) (Some name)) is in
      let at : slice_get names p ≡ Some name = named_at (slice_get names p) name tied in
      let inside = slice_get_within names p name at in
      let here : get_or names p name ≡ name = get_or_from_slice_get names p name name at in
      let none = fails_from_None (bytes_eq name) (take p names) (next_name_new names p name inside apart (sym here)) in
      let short : length (take p names) ≡ p = omega (arith, length-take p names) in
      position_first (bytes_eq name) names p name inside (subst (λ (one : List ℕ). bytes_eq name one ≡ true) (sym here) ((bytes_eq-Decides name name).1 refl))
      (λ j before. subst (λ (one : List ℕ). bytes_eq name one ≡ false) (get_or-take p names j name before) (none j name (omega (arith, short))))

  -- a place whose name stands before or after has another name
  other_name : (keyed : KeyedPlace) (one : List ℕ) → slice_get names keyed.place ≡ Some one → keyed.key ≡ name_key one → is_eq (stands keyed) ≡ false → bytes_eq name one ≡ false
  other_name keyed one at key apart = by (bytes_eq name one) refl
    where
      by : (b : Bool) → bytes_eq name one ≡ b → b ≡ false
      by true same =
          let equal : one ≡ name = sym ((bytes_eq-Decides name one).0 same) in
          let there : stands keyed ≡ entry_cmp (name_key one, Some one) (name_key name, Some name) = λ i. entry_cmp (key i, at i) (name_key name, Some name) in
          let tied : stands keyed ≡ Equal = there ∙ ap (λ (n : List ℕ). entry_cmp (name_key n, Some n) (name_key name, Some name)) equal ∙ tied_itself entry_cmp_total (name_key name, Some name) in
          absurd (true≢false (ap is_eq (sym tied) ∙ apart))
      by false other = refl

  stands_apart : (keyed : KeyedPlace) → IsKeyed names keyed → is_eq (stands keyed) ≡ false → (p : ℕ) (d : List ℕ) → keyed.place ≡ p → bytes_eq name (get_or names p d) ≡ false
  stands_apart keyed is apart p d there =
      let at : slice_get names p ≡ Some is.0 = subst (λ (q : ℕ). slice_get names q ≡ Some is.0) there is.1 in
      subst (λ (one : List ℕ). bytes_eq name one ≡ false) (sym (get_or_from_slice_get names p is.0 d at)) (other_name keyed is.0 is.1 is.2 apart)

  pub absent : (index : List KeyedPlace) (i : ℕ) → IsNameIndex names index → IsBinarySearchResult stands index (Err i) → position (bytes_eq name) names ≡ None
  absent index i is parted = None_from_fails (bytes_eq name) names fails
    where
      fails : All (λ (one : List ℕ). bytes_eq name one ≡ false) names
      fails p d inside =
          let sides = parted (searchable_from_sorted entry_cmp_total (entry names) index (name_key name, Some name) is.sorted) in
          let place : KeyedPlace → ℕ = λ (one : KeyedPlace). one.place in
          let e : KeyedPlace = record { key = 0; place = p } in
          let (j, within, at) = is.places.each p inside in
          let short : j < length index = omega (arith, within, length-map index place) in
          let there : (get_or index j e).place ≡ p = sym (get_or-map place index j e p short) ∙ at in
          let keyed = is.places.keys j e short in
          elim (cases_lt j i) [
            | inl before ↦ stands_apart (get_or index j e) keyed (ap is_eq (sides.0 j e (omega arith) before)) p d there
            | inr after ↦ stands_apart (get_or index j e) keyed (ap is_eq (sides.1 j e after short)) p d there
          ]
