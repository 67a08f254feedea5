-- The next slot of a row under way, and what the slots are when it is settled.
use Rattle.std.proofs.Common.{◌≡◌, ◌≢◌, ℕ, zero, suc, ◌<◌, ℤ, ◌≤ℤ◌, ◌⊎◌, true, false, List, [], ◌∷◌, map, fold, Option, Some, None, refl, ap, sym, subst, ◌∙◌, inl, inr}
use Rattle.std.specs.Prelude.{slice_get, slice_set}
use Rattle.std.specs.List.{Contains}
use Rattle.std.proofs.lemmas.Option.{same_Some}
use Rattle.net_model.specs.Network.{Plan, IsPlan}
use Rattle.net_model.specs.declared.ids.PointId.{PointId}
use Rattle.closure_model.specs.Keys.{Key}
use Rattle.closure_model.specs.PrunedRows.{IsThinned}
use Rattle.closure_model.specs.ReferenceRow.{relaxed, edge_in, next_slot, consequences, first_slot, Making}
use Rattle.closure_model.specs.Tables.{Graph, weight_of, IsFor, IsGraph}
use Rattle.closure_model.specs.declared.rows.Made.{Made}
use Rattle.closure_model.specs.declared.rows.Slot.{Slot}
use Rattle.closure_model.specs.declared.rows.Why.{Why}
use Rattle.closure_model.proofs.Consequences.{consequence_is}
use Rattle.closure_model.proofs.RoundLaw.{consequence_ends}
use Rattle.closure_model.proofs.RowDerivable.{consequence_not_less}
use Rattle.closure_model.proofs.RowEdges.{IsMaking}
use Rattle.closure_model.proofs.RowRun.{IsUnderWay, under_way_next, next_there, fewer_after}
use Rattle.closure_model.proofs.RowSteps.{unsettled, after_slot}
use Rattle.closure_model.proofs.SettledSlots.{marked, was_marked}
use Rattle.closure_model.proofs.Slots.{key_in}
use Rattle.closure_model.proofs.VainRelaxations.{IsUnder, thinned_relaxations, thinned_from}
use Rattle.closure_model.proofs.Weights.{lt_is_le, le_of_same}

-- no slot of the table has improved
pub unimproved_at_first : (table : Graph) (keys : List Key) (place : ℕ) (slot : Slot) → slice_get (map (first_slot table) keys) place ≡ Some slot → slot.why ≡ None
unimproved_at_first table [] place slot at = absurd cc
unimproved_at_first table (key ∷ keys) zero slot at = ap (λ (s : Slot). s.why) (sym (same_Some (first_slot table key) slot at))
unimproved_at_first table (key ∷ keys) (suc place) slot at = unimproved_at_first table keys place slot at

-- what is settled has at most a weight
abbrev pub IsLow : ℤ → List Slot → Type 0
IsLow low slots = (place : ℕ) (slot : Slot) → slice_get slots place ≡ Some slot → slot.settled ≡ true → (weight : ℤ) × (slot.weight ≡ Some weight) × (weight ≤ℤ low)

module _ (net : Plan) (table : Graph) (to : PointId) (plan : IsPlan net) (fits : IsFor net table) (sound : IsGraph table) where
  -- what the settled slots of the reference row are
  pub making_of : (making : Making) → IsUnderWay net table to making → IsMaking net table to plan fits sound making
  making_of making progress = progress.is plan fits sound

  pub under_way : (making : Making) → IsUnderWay net table to making → IsUnder table to making.slots
  under_way making progress place slot old here has = by slot.why refl
    where
      by : (o : Option Why) → slot.why ≡ o → (weight : ℤ) × (slot.weight ≡ Some weight) × (weight ≤ℤ old)
      by None absent = (old, (making_of making progress).partly.row.unimproved place slot here absent ∙ has, le_of_same old old refl)
      by (Some why) some =
          let (weight, is, below) = (making_of making progress).partly.row.improvements place slot why here some in
          (weight, is, lt_is_le weight old (below old has))

  pub under_marked : (slots : List Slot) (place : ℕ) (slot : Slot) → slice_get slots place ≡ Some slot → IsUnder table to slots → IsUnder table to (slice_set slots place (marked slot))
  under_marked slots place slot here under other after old there has = by (was_marked slots place slot here other after there)
    where
      by : ((other ≡ place) × (marked slot ≡ after)) ⊎ ((other ≢ place) × (slice_get slots other ≡ Some after)) → (weight : ℤ) × (after.weight ≡ Some weight) × (weight ≤ℤ old)
      by (inl (equal, is)) =
          let (weight, had, less) = under place slot old here (ap (λ (s : Slot). weight_of table (key_in to s)) is ∙ has) in
          (weight, ap (λ (s : Slot). s.weight) (sym is) ∙ had, less)
      by (inr (apart, at)) = under other after old at has

  pub consequences_end : (slot : Slot) (weight : ℤ) (made : Made) → Contains (consequences net table (edge_in to slot weight)) made → (weight ≤ℤ made.edge.weight) × (made.edge.to ≡ to)
  consequences_end slot weight made inside =
      let follows = consequence_is net table (edge_in to slot weight) made inside in
      (consequence_not_less net table to plan fits sound (edge_in to slot weight) made follows, consequence_ends net table (edge_in to slot weight) made follows)

  -- ---- it is settled
  module _ (making : Making) (progress : IsUnderWay net table to making) (place : ℕ) (weight : ℤ) (some : next_slot making.slots ≡ Some (place, weight)) (slot : Slot) (here : slice_get making.slots place ≡ Some slot) where
    there_is : slot ≡ (next_there net table to making (place, weight) some).slot
    there_is = same_Some slot (next_there net table to making (place, weight) some).slot (sym here ∙ (next_there net table to making (place, weight) some).here)

    pub next_open : slot.settled ≡ false
    next_open = ap (λ (s : Slot). s.settled) there_is ∙ (next_there net table to making (place, weight) some).is_open

    pub next_weight : slot.weight ≡ Some weight
    next_weight = ap (λ (s : Slot). s.weight) there_is ∙ (next_there net table to making (place, weight) some).has

    after_is : after_slot net table to making (place, weight) (next_there net table to making (place, weight) some).slot ≡ after_slot net table to making (place, weight) slot
    after_is = ap (after_slot net table to making (place, weight)) (sym there_is)

    pub progress_after : IsUnderWay net table to (after_slot net table to making (place, weight) slot)
    progress_after = subst (IsUnderWay net table to) after_is (under_way_next net table to making (place, weight) some progress)

    pub fewer : unsettled (after_slot net table to making (place, weight) slot).slots < unsettled making.slots
    fewer = subst (λ (m : Making). unsettled m.slots < unsettled making.slots) after_is (fewer_after net table to making (place, weight) some)

    -- what is settled is no heavier
    pub low_marked : IsLow weight (slice_set making.slots place (marked slot))
    low_marked other after there settled = by (was_marked making.slots place slot here other after there)
      where
        by : ((other ≡ place) × (marked slot ≡ after)) ⊎ ((other ≢ place) × (slice_get making.slots other ≡ Some after)) → (w : ℤ) × (after.weight ≡ Some w) × (w ≤ℤ weight)
        by (inl (equal, is)) = (weight, ap (λ (s : Slot). s.weight) (sym is) ∙ next_weight, le_of_same weight weight refl)
        by (inr (apart, at)) =
            let partly = (making_of making progress).partly in
            let (w, had) = partly.has other after at settled in
            (w, had, partly.ordered other place after slot w weight at here settled had next_open next_weight)

    pub few_not_less : (few : List Made) → IsThinned table (consequences net table (edge_in to slot weight)) few → (made : Made) → Contains few made → weight ≤ℤ made.edge.weight
    few_not_less few thin made inside = (consequences_end slot weight made (thinned_from table to (consequences net table (edge_in to slot weight)) few thin made inside)).0

    pub relaxes_are : (few : List Made) → IsThinned table (consequences net table (edge_in to slot weight)) few
        → (after_slot net table to making (place, weight) slot).slots ≡ fold relaxed (slice_set making.slots place (marked slot)) few
    relaxes_are few thin =
        thinned_relaxations table to (consequences net table (edge_in to slot weight)) few (slice_set making.slots place (marked slot))
        (under_marked making.slots place slot here (under_way making progress)) (λ made inside. (consequences_end slot weight made inside).1) thin
