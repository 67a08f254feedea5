-- What holds of the slots of a row at every time, and that relaxing keeps it: what is settled stays, what is relaxed is saturated.
use Rattle.std.proofs.Common.{◌≡◌, ℕ, ℤ, ◌≤ℤ◌, ◌<ℤ◌, true, false, ◌⊎◌, List, [], ◌∷◌, map, fold, Option, Some, None, refl, ap, sym, subst, ◌∙◌, inl, inr}
use Rattle.std.specs.Prelude.{slice_get}
use Rattle.std.specs.List.{Contains}
use Rattle.std.proofs.lemmas.Option.{same_Some}
use Rattle.net_model.specs.Network.{Plan, IsPlan}
use Rattle.net_model.specs.declared.ids.PointId.{PointId}
use Rattle.net_model.specs.declared.part.Edge.{Edge}
use Rattle.closure_model.specs.Keys.{Key, key_of, edge_of, row_keys}
use Rattle.closure_model.specs.Tables.{Graph, HasEdge, weight_of, IsGraph, IsFor}
use Rattle.closure_model.specs.ReferenceRow.{has_above, relaxed, edge_in, IsInRow}
use Rattle.closure_model.specs.declared.rows.Made.{Made}
use Rattle.closure_model.specs.declared.rows.Slot.{Slot}
use Rattle.closure_model.specs.declared.rows.Why.{Why}
use Rattle.closure_model.proofs.Weights.{same_weight, le_then, lt_then, le_then_lt, lt_is_le, le_of_same, not_below}
use Rattle.closure_model.proofs.Slots.{key_in, slot_of_key, Change, stays, takes, was_slot, slot_after, change_settled, above, IsMet, met_after, met_after_all, relax_saturates, relaxed_keys}
use Rattle.closure_model.proofs.Lists.{Contains-head, Contains-tail, Contains-cases, Contains-none}
use Rattle.closure_model.proofs.RowDerivable.{in_row_there}

module _ (net : Plan) (table : Graph) (to : PointId) (plan : IsPlan net) (fits : IsFor net table) (sound : IsGraph table) where
  -- ---- what holds of the slots at every time
  abbrev pub IsAbove : Key → ℤ → Type 0
  IsAbove key weight = (old : ℤ) → weight_of table key ≡ Some old → weight <ℤ old

  pub record IsRow (slots : List Slot) : Type 0 where
    pub keys : map (key_in to) slots ≡ row_keys table.shape to
    pub derivable : (place : ℕ) (slot : Slot) (weight : ℤ) → slice_get slots place ≡ Some slot → slot.weight ≡ Some weight → IsInRow net table to (edge_in to slot weight)
    pub table_met : (edge : Edge) → HasEdge table edge → edge.to ≡ to → IsMet to slots edge
    pub unimproved : (place : ℕ) (slot : Slot) → slice_get slots place ≡ Some slot → slot.why ≡ None → slot.weight ≡ weight_of table (key_in to slot)
    pub improvements : (place : ℕ) (slot : Slot) (why : Why) → slice_get slots place ≡ Some slot → slot.why ≡ Some why → (weight : ℤ) × (slot.weight ≡ Some weight) × IsAbove (key_in to slot) weight

  -- ---- a relaxation
  module _ (made : Made) (derived : IsInRow net table to made.edge) where
    relax_derivable : (slots : List Slot) → IsRow slots → (place : ℕ) (after : Slot) (weight : ℤ) → slice_get (relaxed slots made) place ≡ Some after → after.weight ≡ Some weight → IsInRow net table to (edge_in to after weight)
    relax_derivable slots row place after weight there has = let was = was_slot slots made place after there in by was.slot was.here was.change
      where
        by : (slot : Slot) → slice_get slots place ≡ Some slot → Change made slot after → IsInRow net table to (edge_in to after weight)
        by slot here (stays is not) = row.derivable place after weight (here ∙ ap Some is) has
        by slot here (takes of is_above is) =
            let key : key_in to after ≡ key_of made.edge = ap (key_in to) (sym is) ∙ slot_of_key to made.edge slot (in_row_there net table to plan fits sound made.edge derived).ends of in
            let same : made.edge.weight ≡ weight = same_weight made.edge.weight weight (ap (λ (s : Slot). s.weight) is ∙ has) in
            let edge : edge_in to after weight ≡ made.edge = ap (λ (k : Key). edge_of k weight) key ∙ ap (edge_of (key_of made.edge)) (sym same) in
            rw edge derived

    relax_unimproved : (slots : List Slot) → IsRow slots → (place : ℕ) (after : Slot) → slice_get (relaxed slots made) place ≡ Some after → after.why ≡ None → after.weight ≡ weight_of table (key_in to after)
    relax_unimproved slots row place after there none = let was = was_slot slots made place after there in by was.slot was.here was.change
      where
        by : (slot : Slot) → slice_get slots place ≡ Some slot → Change made slot after → after.weight ≡ weight_of table (key_in to after)
        by slot here (stays is not) = row.unimproved place after (here ∙ ap Some is) none
        by slot here (takes of is_above is) = let why : Some made.why ≡ after.why = ap (λ (s : Slot). s.why) is in absurd cc

    taken_above : (slots : List Slot) → IsRow slots → (place : ℕ) (slot : Slot) → slice_get slots place ≡ Some slot → has_above slot made.edge.weight ≡ true → IsAbove (key_in to slot) made.edge.weight
    taken_above slots row place slot here is_above old has = by slot.why refl
      where
        by : (o : Option Why) → slot.why ≡ o → made.edge.weight <ℤ old
        by None none = above slot made.edge.weight old is_above (row.unimproved place slot here none ∙ has)
        by (Some why) some =
            let (weight, is, below) = row.improvements place slot why here some in
            lt_then made.edge.weight weight old (above slot made.edge.weight weight is_above is) (lt_is_le weight old (below old has))

    relax_improved : (slots : List Slot) → IsRow slots → (place : ℕ) (after : Slot) (why : Why) → slice_get (relaxed slots made) place ≡ Some after → after.why ≡ Some why
        → (weight : ℤ) × (after.weight ≡ Some weight) × IsAbove (key_in to after) weight
    relax_improved slots row place after why there some = let was = was_slot slots made place after there in by was.slot was.here was.change
      where
        by : (slot : Slot) → slice_get slots place ≡ Some slot → Change made slot after → (weight : ℤ) × (after.weight ≡ Some weight) × IsAbove (key_in to after) weight
        by slot here (stays is not) = row.improvements place after why (here ∙ ap Some is) some
        by slot here (takes of is_above is) = (
          made.edge.weight,
          ap (λ (s : Slot). s.weight) (sym is),
          subst (λ (k : Key). IsAbove k made.edge.weight) (ap (key_in to) is) (taken_above slots row place slot here is_above),
        )

    relax_row : (slots : List Slot) → IsRow slots → IsRow (relaxed slots made)
    relax_row slots row = record {
      keys = relaxed_keys to slots made ∙ row.keys;
      derivable = relax_derivable slots row;
      table_met = λ edge has ends. met_after to slots made edge (row.table_met edge has ends);
      unimproved = relax_unimproved slots row;
      improvements = relax_improved slots row;
    }

  -- ---- what is settled, and what is open, about a weight
  pub record IsAround (low : ℤ) (slots : List Slot) : Type 0 where
    pub has : (place : ℕ) (slot : Slot) → slice_get slots place ≡ Some slot → slot.settled ≡ true → (weight : ℤ) × (slot.weight ≡ Some weight)
    pub below : (place : ℕ) (slot : Slot) (weight : ℤ) → slice_get slots place ≡ Some slot → slot.settled ≡ true → slot.weight ≡ Some weight → weight ≤ℤ low
    pub from_there : (place : ℕ) (slot : Slot) (weight : ℤ) → slice_get slots place ≡ Some slot → slot.settled ≡ false → slot.weight ≡ Some weight → low ≤ℤ weight

  module _ (low : ℤ) (made : Made) (not_less : low ≤ℤ made.edge.weight) where
    -- what is settled stays as it is
    settled_stays : (slots : List Slot) → IsAround low slots → (place : ℕ) (slot after : Slot) → slice_get slots place ≡ Some slot → slot.settled ≡ true → Change made slot after → slot ≡ after
    settled_stays slots around place slot after here is_settled (stays is not) = is
    settled_stays slots around place slot after here is_settled (takes of is_above is) =
        let (weight, has) = around.has place slot here is_settled in
        let less : weight ≤ℤ made.edge.weight = le_then weight low made.edge.weight (around.below place slot weight here is_settled has) not_less in
        absurd (not_below weight weight refl (le_then_lt weight made.edge.weight weight less (above slot made.edge.weight weight is_above has)))

    settled_back : (slots : List Slot) → IsAround low slots → (place : ℕ) (after : Slot) → slice_get (relaxed slots made) place ≡ Some after → after.settled ≡ true → slice_get slots place ≡ Some after
    settled_back slots around place after there is_settled =
        let was = was_slot slots made place after there in
        let before : was.slot.settled ≡ true = sym (change_settled made was.slot after was.change) ∙ is_settled in
        was.here ∙ ap Some (settled_stays slots around place was.slot after was.here before was.change)

    settled_kept : (slots : List Slot) → IsAround low slots → (place : ℕ) (slot : Slot) → slice_get slots place ≡ Some slot → slot.settled ≡ true → slice_get (relaxed slots made) place ≡ Some slot
    settled_kept slots around place slot here is_settled =
        let next = slot_after slots made place slot here in
        next.there ∙ ap Some (sym (settled_stays slots around place slot next.after here is_settled next.change))

    relax_around : (slots : List Slot) → IsAround low slots → IsAround low (relaxed slots made)
    relax_around slots around = record {
      has = λ place after there is_settled. around.has place after (settled_back slots around place after there is_settled) is_settled;
      below = λ place after weight there is_settled has. around.below place after weight (settled_back slots around place after there is_settled) is_settled has;
      from_there = from_there;
    }
      where
        by : (place : ℕ) (slot after : Slot) (weight : ℤ) → slice_get slots place ≡ Some slot → after.settled ≡ false → after.weight ≡ Some weight → Change made slot after → low ≤ℤ weight
        by place slot after weight here is_open has (stays is not) = around.from_there place after weight (here ∙ ap Some is) is_open has
        by place slot after weight here is_open has (takes of is_above is) =
            le_then low made.edge.weight weight not_less (le_of_same made.edge.weight weight (same_weight made.edge.weight weight (ap (λ (s : Slot). s.weight) is ∙ has)))

        from_there : (place : ℕ) (after : Slot) (weight : ℤ) → slice_get (relaxed slots made) place ≡ Some after → after.settled ≡ false → after.weight ≡ Some weight → low ≤ℤ weight
        from_there place after weight there is_open has = let was = was_slot slots made place after there in by place was.slot after weight was.here is_open has was.change

  -- ---- the relaxations of a list
  -- the row after some relaxations: what is settled has not changed
  pub record IsAfter (low : ℤ) (slots after : List Slot) : Type 0 where
    pub row : IsRow after
    pub around : IsAround low after
    pub kept : (place : ℕ) (slot : Slot) → slice_get slots place ≡ Some slot → slot.settled ≡ true → slice_get after place ≡ Some slot
    pub back : (place : ℕ) (slot : Slot) → slice_get after place ≡ Some slot → slot.settled ≡ true → slice_get slots place ≡ Some slot

  abbrev pub CanBeRelaxed : ℤ → Made → Type 0
  CanBeRelaxed low made = IsInRow net table to made.edge × (low ≤ℤ made.edge.weight)

  pub relaxes_after : (low : ℤ) (list : List Made) (slots : List Slot) → ((made : Made) → Contains list made → CanBeRelaxed low made) → IsRow slots → IsAround low slots → IsAfter low slots (fold relaxed slots list)
  relaxes_after low [] slots each row around = record { row = row; around = around; kept = λ place slot here is. here; back = λ place slot here is. here }
  relaxes_after low (made ∷ list) slots each row around =
      let (derived, not_less) = each made (Contains-head made list) in
      let rest = relaxes_after low list (relaxed slots made) (λ one inside. each one (Contains-tail made list one inside)) (relax_row made derived slots row) (relax_around low made not_less slots around) in
      record {
        row = rest.row;
        around = rest.around;
        kept = λ place slot here is. rest.kept place slot (settled_kept low made not_less slots around place slot here is) is;
        back = λ place slot there is. settled_back low made not_less slots around place slot (rest.back place slot there is) is;
      }

  pub relaxes_saturate : (low : ℤ) (list : List Made) (slots : List Slot) → ((made : Made) → Contains list made → CanBeRelaxed low made) → IsRow slots → (made : Made) → Contains list made → IsMet to (fold relaxed slots list) made.edge
  relaxes_saturate low [] slots each row made inside = absurd (Contains-none made inside)
  relaxes_saturate low (one ∷ list) slots each row made inside =
      by (λ there. relaxes_saturate low list (relaxed slots one) (λ other at. each other (Contains-tail one list other at)) (relax_row one (each one (Contains-head one list)).0 slots row) made there) (Contains-cases one list made inside)
    where
      by : (Contains list made → IsMet to (fold relaxed (relaxed slots one) list) made.edge) → (one ≡ made) ⊎ Contains list made → IsMet to (fold relaxed (relaxed slots one) list) made.edge
      by rest (inl here) =
          let is = in_row_there net table to plan fits sound one.edge (each one (Contains-head one list)).0 in
          let met = met_after_all to (relaxed slots one) list one.edge (relax_saturates to table.shape slots one row.keys is.key is.ends) in
          subst (λ (m : Made). IsMet to (fold relaxed (relaxed slots one) list) m.edge) here met
      by rest (inr there) = rest there

  -- ---- what made the slots that are open
  -- whatever is relaxed, and whatever made a slot that is open, has a property
  abbrev pub AllOpen : (Made → Type 0) → List Slot → Type 0
  AllOpen P slots = (place : ℕ) (slot : Slot) (why : Why) (weight : ℤ) → slice_get slots place ≡ Some slot → slot.settled ≡ false → slot.why ≡ Some why → slot.weight ≡ Some weight → P (record { edge = edge_in to slot weight; why = why })

  relax_open : (P : Made → Type 0) (made : Made) (slots : List Slot) → made.edge.to ≡ to → P made → AllOpen P slots → AllOpen P (relaxed slots made)
  relax_open P made slots ends is all place after why weight there is_open some has = let was = was_slot slots made place after there in by was.slot was.here was.change
    where
      by : (slot : Slot) → slice_get slots place ≡ Some slot → Change made slot after → P (record { edge = edge_in to after weight; why = why })
      by slot here (stays same not) = all place after why weight (here ∙ ap Some same) is_open some has
      by slot here (takes of is_above same) =
          let key : key_in to after ≡ key_of made.edge = ap (key_in to) (sym same) ∙ slot_of_key to made.edge slot ends of in
          let weights : made.edge.weight ≡ weight = same_weight made.edge.weight weight (ap (λ (s : Slot). s.weight) same ∙ has) in
          let edge : made.edge ≡ edge_in to after weight = sym (ap (λ (k : Key). edge_of k weight) key ∙ ap (edge_of (key_of made.edge)) (sym weights)) in
          let whys : made.why ≡ why = same_Some made.why why (ap (λ (s : Slot). s.why) same ∙ some) in
          subst P (λ i. record { edge = edge i; why = whys i }) is

  pub relaxes_open : (P : Made → Type 0) (list : List Made) (slots : List Slot) → ((made : Made) → Contains list made → (made.edge.to ≡ to) × P made) → AllOpen P slots → AllOpen P (fold relaxed slots list)
  relaxes_open P [] slots each all = all
  relaxes_open P (made ∷ list) slots each all =
      let (ends, is) = each made (Contains-head made list) in
      relaxes_open P list (relaxed slots made) (λ one inside. each one (Contains-tail made list one inside)) (relax_open P made slots ends is all)
