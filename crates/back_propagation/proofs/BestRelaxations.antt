-- Slots of two rows side by side: one in which all is relaxed, and one in which the best candidates alone are relaxed.
use Rattle.std.proofs.Common.{◌≡◌, ℕ, ℤ, ◌≤ℤ◌, ◌<ℤ◌, ◌==◌, ◌&&◌, Bool, true, false, ◌⊎◌, List, [], ◌∷◌, fold, Option, Some, refl, ap, sym, subst, ◌∙◌, inl, inr}
use Rattle.std.specs.Prelude.{slice_get}
use Rattle.std.specs.List.{Contains}
use Rattle.std.proofs.lemmas.Option.{same_Some}
use Rattle.net_model.specs.declared.ids.LinkId.{LinkId}
use Rattle.net_model.specs.declared.ids.PointId.{PointId}
use Rattle.net_model.specs.declared.part.Edge.{Edge}
use Rattle.closure_model.specs.Keys.{Key, key_of}
use Rattle.closure_model.specs.ReferenceRow.{has_above, is_slot_of, same_label, relaxed}
use Rattle.closure_model.specs.Tables.{Graph, weight_of, HasAtMost}
use Rattle.closure_model.specs.PrunedRows.{IsThinned, at_end, keeps, leaves, is_live}
use Rattle.closure_model.specs.declared.rows.Made.{Made}
use Rattle.closure_model.specs.declared.rows.Slot.{Slot}
use Rattle.closure_model.proofs.Lists.{Contains-head, Contains-tail, Contains-cases}
use Rattle.closure_model.proofs.NextSlots.{IsLow}
use Rattle.closure_model.proofs.SettledSlots.{marked}
use Rattle.closure_model.proofs.Slots.{key_in, slot_of_key, Change, stays, takes, relaxed_one, relaxed_change, relaxed_at, was_slot, change_settled, key_of_slot, above, not_above}
use Rattle.closure_model.proofs.TableLemmas.{at_most_gives}
use Rattle.closure_model.proofs.VainRelaxations.{not_taken, holds_it, IsUnder}
use Rattle.closure_model.proofs.Weights.{le_then, lt_then, lt_is_le, not_below, same_weight}
use Rattle.back_propagation.specs.BestKeys.{LeadsTo}

-- ---- what relaxes in vain
module _ (table : Graph) (to : PointId) where
  -- what the table does not meet stays
  pub thinned_keeps : (all few : List Made) → IsThinned table all few → (made : Made) → (HasAtMost table made.edge → ⊥) → Contains all made → Contains few made
  thinned_keeps _ _ at_end made unsaturated inside = inside
  thinned_keeps _ _ (keeps one all few rest) made unsaturated inside = by (λ later. thinned_keeps all few rest made unsaturated later) (Contains-cases one all made inside)
    where
      by : (Contains all made → Contains few made) → (one ≡ made) ⊎ Contains all made → Contains (one ∷ few) made
      by again (inl is) = subst (Contains (one ∷ few)) is (Contains-head one few)
      by again (inr later) = Contains-tail one few made (again later)
  thinned_keeps _ _ (leaves one all few met rest) made unsaturated inside = by (λ later. thinned_keeps all few rest made unsaturated later) (Contains-cases one all made inside)
    where
      by : (Contains all made → Contains few made) → (one ≡ made) ⊎ Contains all made → Contains few made
      by again (inl is) = absurd (unsaturated (subst (λ (m : Made). HasAtMost table m.edge) is met))
      by again (inr later) = again later

  -- no slot is above a relaxation
  abbrev pub IsVain : List Slot → Made → Type 0
  IsVain slots made = (place : ℕ) (slot : Slot) → slice_get slots place ≡ Some slot → is_slot_of made.edge slot ≡ true → has_above slot made.edge.weight ≡ false

  vain_relaxed : (slots : List Slot) (made other : Made) → IsVain slots made → IsVain (relaxed slots other) made
  vain_relaxed slots made other vain place after there of = let was = was_slot slots other place after there in by was.slot was.here was.change
    where
      by : (slot : Slot) → slice_get slots place ≡ Some slot → Change other slot after → has_above after made.edge.weight ≡ false
      by slot here (stays is not) = vain place after (here ∙ ap Some is) of
      by slot here (takes of' is_above is) =
          let same : is_slot_of made.edge slot ≡ true = ap (is_slot_of made.edge) is ∙ of in
          let (old, has, less) = not_above slot made.edge.weight (vain place slot here same) in
          let below : other.edge.weight <ℤ old = above slot other.edge.weight old is_above has in
          holds_it after made.edge.weight other.edge.weight (ap (λ (s : Slot). s.weight) (sym is)) (lt_is_le other.edge.weight made.edge.weight (lt_then other.edge.weight old made.edge.weight below less))

  -- no slot is above what is saturated in the table
  pub met_vain : (slots : List Slot) (made : Made) → IsUnder table to slots → made.edge.to ≡ to → HasAtMost table made.edge → IsVain slots made
  met_vain slots made under ends met place slot here of =
      let (old, has, less) = at_most_gives table made.edge met in
      let (weight, had, under') = under place slot old here (ap (weight_of table) (slot_of_key to made.edge slot ends of) ∙ has) in
      holds_it slot made.edge.weight weight had (le_then weight old made.edge.weight under' less)

-- ---- what is settled is not relaxed
pub settled_stay : (low : ℤ) (made : Made) (slots : List Slot) → low ≤ℤ made.edge.weight → IsLow low slots → (place : ℕ) (slot : Slot) → slice_get slots place ≡ Some slot → slot.settled ≡ true → has_above slot made.edge.weight ≡ false
settled_stay low made slots more is_low place slot here settled =
    let (weight, has, less) = is_low place slot here settled in
    holds_it slot made.edge.weight weight has (le_then weight low made.edge.weight less more)

low_relaxed : (low : ℤ) (made : Made) (slots : List Slot) → low ≤ℤ made.edge.weight → IsLow low slots → IsLow low (relaxed slots made)
low_relaxed low made slots more is_low place after there settled = let was = was_slot slots made place after there in by was.slot was.here was.change
  where
    by : (slot : Slot) → slice_get slots place ≡ Some slot → Change made slot after → (weight : ℤ) × (after.weight ≡ Some weight) × (weight ≤ℤ low)
    by slot here (stays is not) = is_low place after (here ∙ ap Some is) settled
    by slot here (takes of is_above is) =
        let was_settled : slot.settled ≡ true = ap (λ (s : Slot). s.settled) is ∙ settled in
        let not = settled_stay low made slots more is_low place slot here was_settled in absurd cc

-- ---- two rows side by side
module _ (table : Graph) (to : PointId) (delta : List (List Edge)) (begins : ℕ → Bool) where
  -- a slot that is not settled, with which the row is seeded, leads to a key below a weight
  pub record HasPendingWeight (ones : List Slot) (from : PointId) (label : Option LinkId) (weight : ℤ) : Type 0 where
    pub place : ℕ
    pub slot : Slot
    pub here : slice_get ones place ≡ Some slot
    pub is_open : slot.settled ≡ false
    pub begins_there : begins place ≡ true
    pub recorded : ℤ
    pub reached : ℤ
    pub leads : LeadsTo table to delta place recorded from label reached
    pub less : reached <ℤ weight

  -- a relaxation of a key is to come, below a weight
  pub record IsDue (list : List Made) (from : PointId) (label : Option LinkId) (weight : ℤ) : Type 0 where
    pub made : Made
    pub inside : Contains list made
    pub from_is : made.edge.from ≡ from
    pub label_is : made.edge.label ≡ label
    pub less : made.edge.weight <ℤ weight

  -- a slot of the first row took what was not relaxed in the second, and both will take less
  pub record IsPendingKey (ones : List Slot) (list : List Made) (one other : Slot) : Type 0 where
    pub open_one : one.settled ≡ false
    pub open_other : other.settled ≡ false
    pub from_is : one.from ≡ other.from
    pub label_is : one.label ≡ other.label
    pub weight : ℤ
    pub has : one.weight ≡ Some weight
    pub not_less : (held : ℤ) → other.weight ≡ Some held → weight ≤ℤ held
    pub coming : HasPendingWeight ones one.from one.label weight ⊎ IsDue list one.from one.label weight

  -- a slot of the first row and that of the second, before a list of relaxations of both: the same, or one that was passed over, or one for which less is pending
  pub data IsAlike (ones : List Slot) (list : List Made) (place : ℕ) (one other : Slot) : Type 0 where
    same : one ≡ other → IsAlike ones list place one other
    passed : one ≡ marked other → other.settled ≡ false → is_live begins place other ≡ false → (weight : ℤ) → other.weight ≡ Some weight → IsAlike ones list place one other
    awaits : IsPendingKey ones list one other → IsAlike ones list place one other

  pub record AreAlike (ones : List Slot) (list : List Made) (others : List Slot) : Type 0 where
    pub there : (place : ℕ) (one : Slot) → slice_get ones place ≡ Some one → (other : Slot) × (slice_get others place ≡ Some other) × IsAlike ones list place one other
    pub back : (place : ℕ) (other : Slot) → slice_get others place ≡ Some other → (one : Slot) × (slice_get ones place ≡ Some one) × IsAlike ones list place one other

  pub alike_itself : (slots : List Slot) → AreAlike slots [] slots
  alike_itself slots = record { there = λ place one here. (one, here, same refl); back = λ place other here. (other, here, same refl) }

  promise_relaxed : (ones : List Slot) (made : Made) (from : PointId) (label : Option LinkId) (weight : ℤ) → HasPendingWeight ones from label weight → HasPendingWeight (relaxed ones made) from label weight
  promise_relaxed ones made from label weight one = record {
    place = one.place;
    slot = relaxed_one made one.slot;
    here = relaxed_at ones made one.place one.slot one.here;
    is_open = change_settled made one.slot (relaxed_one made one.slot) (relaxed_change made one.slot) ∙ one.is_open;
    begins_there = one.begins_there;
    recorded = one.recorded;
    reached = one.reached;
    leads = one.leads;
    less = one.less;
  }

  slot_of_same : (edge : Edge) (one other : Slot) → one.from ≡ other.from → one.label ≡ other.label → is_slot_of edge one ≡ is_slot_of edge other
  slot_of_same edge one other from label = λ i. edge.from.0 == (from i).0 && same_label edge.label (label i)

  -- ---- what is relaxed in both
  module _ (made : Made) (list : List Made) (ones : List Slot) (place : ℕ) where
    -- what is to come for a slot that did not take a relaxation
    coming_after : (one after other : Slot) (await : IsPendingKey ones (made ∷ list) one other) → one ≡ after → (is_slot_of made.edge one ≡ true → has_above one made.edge.weight ≡ false)
        → HasPendingWeight (relaxed ones made) after.from after.label await.weight ⊎ IsDue list after.from after.label await.weight
    coming_after one after other await is not = subst (λ (s : Slot). HasPendingWeight (relaxed ones made) s.from s.label await.weight ⊎ IsDue list s.from s.label await.weight) is (by await.coming)
      where
        here_not : made.edge.from ≡ one.from → made.edge.label ≡ one.label → made.edge.weight <ℤ await.weight → ⊥
        here_not from label below =
            let of : is_slot_of made.edge one ≡ true = key_of_slot to_any (edge_to made.edge) one (λ i. record { to = to_any; from = sym from i; label = sym label i }) in
            let (old, has, less) = not_above one made.edge.weight (not of) in
            not_below made.edge.weight made.edge.weight refl (lt_then made.edge.weight await.weight made.edge.weight below (subst (λ (w : ℤ). w ≤ℤ made.edge.weight) (same_weight old await.weight (sym has ∙ await.has)) less))
          where
            to_any : PointId
            to_any = made.edge.to

            edge_to : Edge → Edge
            edge_to edge = edge

        due : (d : IsDue (made ∷ list) one.from one.label await.weight) → (made ≡ d.made) ⊎ Contains list d.made → HasPendingWeight (relaxed ones made) one.from one.label await.weight ⊎ IsDue list one.from one.label await.weight
        due d (inl head) =
            absurd (here_not (ap (λ (m : Made). m.edge.from) head ∙ d.from_is) (ap (λ (m : Made). m.edge.label) head ∙ d.label_is) (subst (λ (m : Made). m.edge.weight <ℤ await.weight) (sym head) d.less))
        due d (inr later) = inr (record { made = d.made; inside = later; from_is = d.from_is; label_is = d.label_is; less = d.less })

        by : HasPendingWeight ones one.from one.label await.weight ⊎ IsDue (made ∷ list) one.from one.label await.weight → HasPendingWeight (relaxed ones made) one.from one.label await.weight ⊎ IsDue list one.from one.label await.weight
        by (inl pending) = inl (promise_relaxed ones made one.from one.label await.weight pending)
        by (inr d) = due d (Contains-cases made list d.made d.inside)

    await_both : (one other after later : Slot) → IsPendingKey ones (made ∷ list) one other → Change made one after → Change made other later → IsAlike (relaxed ones made) list place after later
    await_both one other after later await (takes of is_above is) (takes of' is_above' is') = same (sym is ∙ (both ∙ is'))
      where
        both : record one { weight = Some made.edge.weight; why = Some made.why } ≡ record other { weight = Some made.edge.weight; why = Some made.why }
        both = λ i. record { from = await.from_is i; label = await.label_is i; weight = Some made.edge.weight; why = Some made.why; settled = (await.open_one ∙ sym await.open_other) i }
    await_both one other after later await (takes of is_above is) (stays is' not) =
        let (old, has, less) = not_above other made.edge.weight (not (sym (slot_of_same made.edge one other await.from_is await.label_is) ∙ of)) in
        let below : made.edge.weight <ℤ await.weight = above one made.edge.weight await.weight is_above await.has in
        absurd (not_below made.edge.weight made.edge.weight refl (lt_then made.edge.weight await.weight made.edge.weight below (le_then await.weight old made.edge.weight (await.not_less old has) less)))
    await_both one other after later await (stays is not) (takes of is_above is') =
        let of_one : is_slot_of made.edge one ≡ true = slot_of_same made.edge one other await.from_is await.label_is ∙ of in
        let (old, has, less) = not_above one made.edge.weight (not of_one) in
        let held : await.weight ≤ℤ made.edge.weight = subst (λ (w : ℤ). w ≤ℤ made.edge.weight) (same_weight old await.weight (sym has ∙ await.has)) less in
        awaits (record {
          open_one = ap (λ (s : Slot). s.settled) (sym is) ∙ await.open_one;
          open_other = ap (λ (s : Slot). s.settled) (sym is') ∙ await.open_other;
          from_is = ap (λ (s : Slot). s.from) (sym is) ∙ (await.from_is ∙ ap (λ (s : Slot). s.from) is');
          label_is = ap (λ (s : Slot). s.label) (sym is) ∙ (await.label_is ∙ ap (λ (s : Slot). s.label) is');
          weight = await.weight;
          has = ap (λ (s : Slot). s.weight) (sym is) ∙ await.has;
          not_less = λ w had. subst (λ (v : ℤ). await.weight ≤ℤ v) (same_weight made.edge.weight w (ap (λ (s : Slot). s.weight) is' ∙ had)) held;
          coming = coming_after one after other await is not;
        })
    await_both one other after later await (stays is not) (stays is' not') = awaits (record {
      open_one = ap (λ (s : Slot). s.settled) (sym is) ∙ await.open_one;
      open_other = ap (λ (s : Slot). s.settled) (sym is') ∙ await.open_other;
      from_is = ap (λ (s : Slot). s.from) (sym is) ∙ (await.from_is ∙ ap (λ (s : Slot). s.from) is');
      label_is = ap (λ (s : Slot). s.label) (sym is) ∙ (await.label_is ∙ ap (λ (s : Slot). s.label) is');
      weight = await.weight;
      has = ap (λ (s : Slot). s.weight) (sym is) ∙ await.has;
      not_less = λ w had. await.not_less w (ap (λ (s : Slot). s.weight) is' ∙ had);
      coming = coming_after one after other await is not;
    })

    both_alike : (one other : Slot) → (one.settled ≡ true → has_above one made.edge.weight ≡ false) → IsAlike ones (made ∷ list) place one other → IsAlike (relaxed ones made) list place (relaxed_one made one) (relaxed_one made other)
    both_alike one other not (same is) = same (ap (relaxed_one made) is)
    both_alike one other not (passed is open_slot dead weight has) =
        let above_one : has_above one made.edge.weight ≡ false = not (ap (λ (s : Slot). s.settled) is) in
        let above_other : has_above other made.edge.weight ≡ false = sym (ap (λ (s : Slot). has_above s made.edge.weight) is) ∙ above_one in
        let kept_one = not_taken made one above_one in
        let kept_other = not_taken made other above_other in
        subst (λ (s : Slot). IsAlike (relaxed ones made) list place s (relaxed_one made other)) (sym kept_one) (subst (λ (s : Slot). IsAlike (relaxed ones made) list place one s) (sym kept_other) (passed is open_slot dead weight has))
    both_alike one other not (awaits await) = await_both one other (relaxed_one made one) (relaxed_one made other) await (relaxed_change made one) (relaxed_change made other)

  relaxed_alike : (low : ℤ) (made : Made) (list : List Made) (ones others : List Slot) → low ≤ℤ made.edge.weight → IsLow low ones → AreAlike ones (made ∷ list) others → AreAlike (relaxed ones made) list (relaxed others made)
  relaxed_alike low made list ones others more is_low alike = record { there = there; back = back }
    where
      there : (place : ℕ) (after : Slot) → slice_get (relaxed ones made) place ≡ Some after → (other : Slot) × (slice_get (relaxed others made) place ≡ Some other) × IsAlike (relaxed ones made) list place after other
      there place after at =
          let was = was_slot ones made place after at in
          let (other, here, is) = alike.there place was.slot was.here in
          let new : relaxed_one made was.slot ≡ after = same_Some (relaxed_one made was.slot) after (sym (relaxed_at ones made place was.slot was.here) ∙ at) in (
            relaxed_one made other,
            relaxed_at others made place other here,
            subst (λ (s : Slot). IsAlike (relaxed ones made) list place s (relaxed_one made other)) new (both_alike made list ones place was.slot other (settled_stay low made ones more is_low place was.slot was.here) is),
          )

      back : (place : ℕ) (after : Slot) → slice_get (relaxed others made) place ≡ Some after → (one : Slot) × (slice_get (relaxed ones made) place ≡ Some one) × IsAlike (relaxed ones made) list place one after
      back place after at =
          let was = was_slot others made place after at in
          let (one, here, is) = alike.back place was.slot was.here in
          let new : relaxed_one made was.slot ≡ after = same_Some (relaxed_one made was.slot) after (sym (relaxed_at others made place was.slot was.here) ∙ at) in (
            relaxed_one made one,
            relaxed_at ones made place one here,
            subst (λ (s : Slot). IsAlike (relaxed ones made) list place (relaxed_one made one) s) new (both_alike made list ones place one was.slot (settled_stay low made ones more is_low place one here) is),
          )

  pub relaxes_alike : (low : ℤ) (list : List Made) (ones others : List Slot) → ((made : Made) → Contains list made → low ≤ℤ made.edge.weight) → IsLow low ones → AreAlike ones list others
      → AreAlike (fold relaxed ones list) [] (fold relaxed others list)
  relaxes_alike low [] ones others each is_low alike = alike
  relaxes_alike low (made ∷ list) ones others each is_low alike =
      relaxes_alike low list (relaxed ones made) (relaxed others made) (λ one inside. each one (Contains-tail made list one inside)) (low_relaxed low made ones (each made (Contains-head made list)) is_low)
      (relaxed_alike low made list ones others (each made (Contains-head made list)) is_low alike)

  -- ---- what is relaxed in the first alone: it is in vain, or less is pending
  abbrev pub IsSpared : List Slot → Made → Type 0
  IsSpared ones made = IsVain table to ones made ⊎ HasPendingWeight ones made.edge.from made.edge.label made.edge.weight

  spared_relaxed : (ones : List Slot) (made other : Made) → IsSpared ones made → IsSpared (relaxed ones other) made
  spared_relaxed ones made other (inl vain) = inl (vain_relaxed table to ones made other vain)
  spared_relaxed ones made other (inr pending) = inr (promise_relaxed ones other made.edge.from made.edge.label made.edge.weight pending)

  module _ (low : ℤ) (made : Made) (ones : List Slot) (more : low ≤ℤ made.edge.weight) (is_low : IsLow low ones) (ends : made.edge.to ≡ to) where
    -- a slot that stays
    stays_alike : (place : ℕ) (one other : Slot) → IsAlike ones [] place one other → IsAlike (relaxed ones made) [] place one other
    stays_alike place one other (same is) = same is
    stays_alike place one other (passed is open_slot dead weight has) = passed is open_slot dead weight has
    stays_alike place one other (awaits await) = awaits (record {
      open_one = await.open_one;
      open_other = await.open_other;
      from_is = await.from_is;
      label_is = await.label_is;
      weight = await.weight;
      has = await.has;
      not_less = await.not_less;
      coming = moved await.coming;
    })
      where
        moved : HasPendingWeight ones one.from one.label await.weight ⊎ IsDue [] one.from one.label await.weight → HasPendingWeight (relaxed ones made) one.from one.label await.weight ⊎ IsDue [] one.from one.label await.weight
        moved (inl pending) = inl (promise_relaxed ones made one.from one.label await.weight pending)
        moved (inr d) = inr d

    -- a slot that takes it
    takes_alike : (place : ℕ) (one other after : Slot) → slice_get ones place ≡ Some one → is_slot_of made.edge one ≡ true → has_above one made.edge.weight ≡ true → record one { weight = Some made.edge.weight; why = Some made.why } ≡ after
        → HasPendingWeight ones made.edge.from made.edge.label made.edge.weight → IsAlike ones [] place one other → IsAlike (relaxed ones made) [] place after other
    takes_alike place one other after here of is_above is pending alike = by one.settled refl alike
      where
        key : key_in to one ≡ key_of made.edge
        key = slot_of_key to made.edge one ends of

        pending_key : one.settled ≡ false → other.settled ≡ false → one.from ≡ other.from → one.label ≡ other.label → ((held : ℤ) → other.weight ≡ Some held → made.edge.weight ≤ℤ held) → IsAlike (relaxed ones made) [] place after other
        pending_key open_one open_other from label not_less = awaits (record {
          open_one = ap (λ (s : Slot). s.settled) (sym is) ∙ open_one;
          open_other = open_other;
          from_is = ap (λ (s : Slot). s.from) (sym is) ∙ from;
          label_is = ap (λ (s : Slot). s.label) (sym is) ∙ label;
          weight = made.edge.weight;
          has = ap (λ (s : Slot). s.weight) (sym is);
          not_less = not_less;
          coming =
              inl (promise_relaxed ones made after.from after.label made.edge.weight
              (subst (λ (k : Key). HasPendingWeight ones k.from k.label made.edge.weight) (sym key ∙ ap (key_in to) is) pending));
        })

        by : (b : Bool) → one.settled ≡ b → IsAlike ones [] place one other → IsAlike (relaxed ones made) [] place after other
        by true settled was = let not = settled_stay low made ones more is_low place one here settled in absurd cc
        by false open_one (same is') =
            pending_key open_one (ap (λ (s : Slot). s.settled) (sym is') ∙ open_one) (ap (λ (s : Slot). s.from) is') (ap (λ (s : Slot). s.label) is')
            (λ held has. lt_is_le made.edge.weight held (above one made.edge.weight held is_above (ap (λ (s : Slot). s.weight) is' ∙ has)))
        by false open_one (passed is' open_slot dead weight has) = let settled : one.settled ≡ true = ap (λ (s : Slot). s.settled) is' in absurd cc
        by false open_one (awaits await) =
            pending_key open_one await.open_other await.from_is await.label_is
            (λ held has. lt_is_le made.edge.weight held (lt_then made.edge.weight await.weight held (above one made.edge.weight await.weight is_above await.has) (await.not_less held has)))

    one_alone : IsSpared ones made → (place : ℕ) (one other : Slot) → slice_get ones place ≡ Some one → IsAlike ones [] place one other → IsAlike (relaxed ones made) [] place (relaxed_one made one) other
    one_alone spared place one other here alike = by (relaxed_one made one) (relaxed_change made one) spared
      where
        by : (after : Slot) → Change made one after → IsSpared ones made → IsAlike (relaxed ones made) [] place after other
        by after (stays is not) spared' = subst (λ (s : Slot). IsAlike (relaxed ones made) [] place s other) is (stays_alike place one other alike)
        by after (takes of is_above is) (inl vain) = let not = vain place one here of in absurd cc
        by after (takes of is_above is) (inr pending) = takes_alike place one other after here of is_above is pending alike

    alone_alike : (others : List Slot) → IsSpared ones made → AreAlike ones [] others → AreAlike (relaxed ones made) [] others
    alone_alike others spared alike = record { there = there; back = back }
      where
        there : (place : ℕ) (after : Slot) → slice_get (relaxed ones made) place ≡ Some after → (other : Slot) × (slice_get others place ≡ Some other) × IsAlike (relaxed ones made) [] place after other
        there place after at =
            let was = was_slot ones made place after at in
            let (other, here, is) = alike.there place was.slot was.here in
            let new : relaxed_one made was.slot ≡ after = same_Some (relaxed_one made was.slot) after (sym (relaxed_at ones made place was.slot was.here) ∙ at) in
            (other, here, subst (λ (s : Slot). IsAlike (relaxed ones made) [] place s other) new (one_alone spared place was.slot other was.here is))

        back : (place : ℕ) (other : Slot) → slice_get others place ≡ Some other → (one : Slot) × (slice_get (relaxed ones made) place ≡ Some one) × IsAlike (relaxed ones made) [] place one other
        back place other at =
            let (one, here, is) = alike.back place other at in
            (relaxed_one made one, relaxed_at ones made place one here, one_alone spared place one other here is)

  pub alone_all : (low : ℤ) (list : List Made) (ones others : List Slot) → ((made : Made) → Contains list made → (low ≤ℤ made.edge.weight) × (made.edge.to ≡ to) × IsSpared ones made) → IsLow low ones → AreAlike ones [] others
      → AreAlike (fold relaxed ones list) [] others
  alone_all low [] ones others each is_low alike = alike
  alone_all low (made ∷ list) ones others each is_low alike =
      let (more, ends, spared) = each made (Contains-head made list) in
      alone_all low list (relaxed ones made) others
      (λ one inside. let (more', ends', spared') = each one (Contains-tail made list one inside) in (more', ends', spared_relaxed ones one made spared'))
      (low_relaxed low made ones more is_low) (alone_alike low made ones more is_low ends others spared alike)
