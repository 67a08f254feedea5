-- The edges that improve as slots are settled: each that of a settled slot, once, in order, grounded, and what made the open slots ready.
use Rattle.std.proofs.Common.{◌≡◌, ◌≢◌, ℕ, zero, suc, ℤ, ◌≤ℤ◌, ◌<ℤ◌, true, false, ◌⊎◌, List, [], ◌∷◌, ◌++◌, get_or, Option, Some, None, refl, ap, sym, subst, ◌∙◌, inl, inr, arith}
use Rattle.std.specs.Prelude.{slice_get}
use Rattle.std.specs.Option.{option_map, option_map_or}
use Rattle.std.specs.List.{Contains, AllPairs}
use Rattle.std.proofs.lemmas.List.{append-nil}
use Rattle.std.proofs.lemmas.List.Quantifiers.{all_pairs_push}
use Rattle.std.proofs.lemmas.Option.{slice_get-map, same_Some}
use Rattle.std.proofs.lemmas.List.Elements.{Contains-get_or, Contains-append_cases, Contains-append_left, Contains-append_right}
use Rattle.net_model.specs.Network.{Plan, IsPlan}
use Rattle.net_model.specs.declared.ids.PointId.{PointId}
use Rattle.net_model.specs.declared.part.Edge.{Edge}
use Rattle.closure_model.specs.Keys.{Key, key_of, row_keys}
use Rattle.closure_model.specs.Tables.{Graph, HasEdge, weight_of, IsGraph, IsFor}
use Rattle.closure_model.specs.ReferenceRow.{edge_in, consequences, slots_after, Making, improved, with_made, IsBelow, IsNextSlot}
use Rattle.closure_model.specs.declared.rows.Made.{Made}
use Rattle.closure_model.specs.declared.rows.Slot.{Slot}
use Rattle.closure_model.specs.declared.rows.Why.{Why}
use Rattle.closure_model.proofs.Weights.{same_weight}
use Rattle.closure_model.proofs.Consequences.{IsConsequence, consequence_is}
use Rattle.closure_model.proofs.Slots.{set_same, set_other, key_in}
use Rattle.closure_model.proofs.GroundedEdges.{AreGrounded, lowered_has, lowered_other, with_made_push, with_made_other, grounded_push}
use Rattle.closure_model.proofs.KeyLists.{row_keys_rise}
use Rattle.closure_model.proofs.Lists.{Contains-none}
use Rattle.closure_model.proofs.SettledSlots.{IsPartly, can_be_relaxed, mark, marked, settling_after, settling_partly, was_marked}
use Rattle.closure_model.proofs.RowDerivable.{in_row_there}
use Rattle.closure_model.proofs.RowRelaxation.{AllOpen, IsAfter, relaxes_open}
use Rattle.closure_model.proofs.KeyPlaces.{only_place}

module _ (net : Plan) (table : Graph) (to : PointId) (plan : IsPlan net) (fits : IsFor net table) (sound : IsGraph table) where
  -- ---- the improvements
  -- an edge that improved is that of a settled slot
  pub record IsFromSlot (slots : List Slot) (one : Made) : Type 0 where
    pub place : ℕ
    pub slot : Slot
    pub weight : ℤ
    pub here : slice_get slots place ≡ Some slot
    pub settled : slot.settled ≡ true
    pub why : slot.why ≡ Some one.why
    pub has : slot.weight ≡ Some weight
    pub is : edge_in to slot weight ≡ one.edge

  -- two edges that improved are of different keys; and the first is no heavier than the second
  abbrev pub IsApart : Made → Made → Type 0
  IsApart one other = key_of one.edge ≢ key_of other.edge

  abbrev pub IsNotAbove : Made → Made → Type 0
  IsNotAbove one other = one.edge.weight ≤ℤ other.edge.weight

  -- an edge follows from that of a settled slot
  pub record IsReady (slots : List Slot) (one : Made) : Type 0 where
    pub place : ℕ
    pub slot : Slot
    pub weight : ℤ
    pub here : slice_get slots place ≡ Some slot
    pub settled : slot.settled ≡ true
    pub has : slot.weight ≡ Some weight
    pub follows : IsConsequence net table (edge_in to slot weight) one

  pub record IsMaking (making : Making) : Type 0 where
    pub partly : IsPartly net table to plan fits sound making.slots
    pub listed : (place : ℕ) (slot : Slot) (why : Why) (weight : ℤ) → slice_get making.slots place ≡ Some slot → slot.settled ≡ true → slot.why ≡ Some why → slot.weight ≡ Some weight
        → Contains making.made (record { edge = edge_in to slot weight; why = why })
    pub each : (one : Made) → Contains making.made one → IsFromSlot making.slots one
    pub once : AllPairs IsApart making.made
    pub in_order : AllPairs IsNotAbove making.made
    pub grounded : AreGrounded net table table making.made
    pub stand : (place : ℕ) (slot : Slot) (weight : ℤ) → slice_get making.slots place ≡ Some slot → slot.settled ≡ true → slot.weight ≡ Some weight → HasEdge (with_made table making.made) (edge_in to slot weight)
    pub ready : AllOpen net table to plan fits sound (IsReady making.slots) making.slots

  improved_from : (slot : Slot) (low : ℤ) (one : Made) → Contains (improved to slot low) one → (slot.why ≡ Some one.why) × (edge_in to slot low ≡ one.edge)
  improved_from slot low one inside = by slot.why refl inside
    where
      by : (o : Option Why) → slot.why ≡ o → Contains (option_map_or (λ why. record { edge = edge_in to slot low; why = why } ∷ []) o []) one → (slot.why ≡ Some one.why) × (edge_in to slot low ≡ one.edge)
      by None none inside = absurd (Contains-none one inside)
      by (Some why) some (zero, within, at) = (some ∙ ap (λ (m : Made). Some m.why) at, ap (λ (m : Made). m.edge) at)
      by (Some why) some (suc k, within, at) = absurd (omega arith)

  improved_listed : (slot : Slot) (low : ℤ) (why : Why) → slot.why ≡ Some why → Contains (improved to slot low) (record { edge = edge_in to slot low; why = why })
  improved_listed slot low why some = rw some (0, omega arith, refl)

  module _ (making : Making) (is : IsMaking making) (place : ℕ) (slot : Slot) (low : ℤ) (here : slice_get making.slots place ≡ Some slot) (is_open : slot.settled ≡ false) (has : slot.weight ≡ Some low)
      (next : IsNextSlot making.slots (place, low)) where
    abbrev later : Making
    later = record { slots = slots_after net table to making.slots place slot low; made = making.made ++ improved to slot low }

    later_after : IsAfter net table to plan fits sound low (mark net table to plan fits sound making.slots place slot low here is_open has) later.slots
    later_after = settling_after net table to plan fits sound making.slots place slot low here is_open has is.partly next

    later_listed : (other : ℕ) (after : Slot) (why : Why) (weight : ℤ) → slice_get later.slots other ≡ Some after → after.settled ≡ true → after.why ≡ Some why → after.weight ≡ Some weight
        → Contains later.made (record { edge = edge_in to after weight; why = why })
    later_listed other after why weight there settled some has_it = by (was_marked making.slots place slot here other after (later_after.back other after there settled))
      where
        by : ((other ≡ place) × (marked slot ≡ after)) ⊎ ((other ≢ place) × (slice_get making.slots other ≡ Some after)) → Contains later.made (record { edge = edge_in to after weight; why = why })
        by (inl (same, one)) =
            let weights : low ≡ weight = same_weight low weight (sym has ∙ (ap (λ (s : Slot). s.weight) one ∙ has_it)) in
            let edges : edge_in to slot low ≡ edge_in to after weight = ap (edge_in to slot) weights ∙ ap (λ (s : Slot). edge_in to s weight) one in
            let improved' : Contains (improved to slot low) (record { edge = edge_in to slot low; why = why }) = improved_listed slot low why (ap (λ (s : Slot). s.why) one ∙ some) in
            Contains-append_right making.made (improved to slot low) (record { edge = edge_in to after weight; why = why }) (subst (λ (e : Edge). Contains {X = Made} (improved to slot low) (record { edge = e; why = why })) edges improved')
        by (inr (apart, at)) = Contains-append_left making.made (improved to slot low) (record { edge = edge_in to after weight; why = why }) (is.listed other after why weight at settled some has_it)

    later_each : (one : Made) → Contains later.made one → IsFromSlot later.slots one
    later_each one inside = by (Contains-append_cases making.made (improved to slot low) one inside)
      where
        by : Contains making.made one ⊎ Contains (improved to slot low) one → IsFromSlot later.slots one
        by (inl old) =
            let from = is.each one old in
            let apart : from.place ≢ place = λ same. (let at : slice_get making.slots place ≡ Some from.slot = subst (λ (k : ℕ). slice_get making.slots k ≡ Some from.slot) same from.here in
            let one_slot : slot ≡ from.slot = same_Some slot from.slot (sym here ∙ at) in
            let open' : from.slot.settled ≡ false = ap (λ (s : Slot). s.settled) (sym one_slot) ∙ is_open in let settled = from.settled in absurd cc) in
            record {
              place = from.place;
              slot = from.slot;
              weight = from.weight;
              here = later_after.kept from.place from.slot (set_other making.slots place from.place (marked slot) apart ∙ from.here) from.settled;
              settled = from.settled;
              why = from.why;
              has = from.has;
              is = from.is;
            }
        by (inr new) =
            let (why, same) = improved_from slot low one new in
            record {
              place = place;
              slot = marked slot;
              weight = low;
              here = later_after.kept place (marked slot) (set_same making.slots place slot (marked slot) here) refl;
              settled = refl;
              why = why;
              has = has;
              is = same;
            }

    -- an edge that improved before is of another key, and no heavier
    old_apart : (one : Made) → Contains making.made one → key_of one.edge ≢ key_of (edge_in to slot low)
    old_apart one inside same =
        let from = is.each one inside in
        let keys = is.partly.row.keys in
        let old_key : slice_get (row_keys table.shape to) from.place ≡ Some (key_in to from.slot) = ap (λ (ks : List Key). slice_get ks from.place) (sym keys)
        ∙ (slice_get-map (key_in to) making.slots from.place ∙ ap (option_map (key_in to)) from.here) in
        let new_key : slice_get (row_keys table.shape to) place ≡ Some (key_in to slot) = ap (λ (ks : List Key). slice_get ks place) (sym keys) ∙ (slice_get-map (key_in to) making.slots place ∙ ap (option_map (key_in to)) here) in
        let equal : key_in to from.slot ≡ key_in to slot = ap key_of from.is ∙ same in
        let places : from.place ≡ place = only_place (row_keys table.shape to) (row_keys_rise table.shape to) from.place place (key_in to from.slot) old_key (new_key ∙ ap Some (sym equal)) in
        let at : slice_get making.slots place ≡ Some from.slot = subst (λ (k : ℕ). slice_get making.slots k ≡ Some from.slot) places from.here in
        let one_slot : slot ≡ from.slot = same_Some slot from.slot (sym here ∙ at) in
        let open' : from.slot.settled ≡ false = ap (λ (s : Slot). s.settled) (sym one_slot) ∙ is_open in
        let settled = from.settled in
        absurd cc

    old_not_above : (one : Made) → Contains making.made one → one.edge.weight ≤ℤ low
    old_not_above one inside =
        let from = is.each one inside in
        subst (λ (w : ℤ). w ≤ℤ low) (ap (λ (e : Edge). e.weight) from.is) (is.partly.ordered from.place place from.slot slot from.weight low from.here here from.settled from.has is_open has)

    later_pairs : (R : Made → Made → Type 0) → AllPairs R making.made → ((one : Made) (why : Why) → Contains making.made one → R one (record { edge = edge_in to slot low; why = why })) → AllPairs R later.made
    later_pairs R pairs each = by slot.why
      where
        by : (o : Option Why) → AllPairs R (making.made ++ option_map_or (λ why. record { edge = edge_in to slot low; why = why } ∷ []) o [])
        by None = subst (AllPairs R) (sym (append-nil making.made)) pairs
        by (Some why) = all_pairs_push R making.made (record { edge = edge_in to slot low; why = why }) pairs (λ k d inside. each (get_or making.made k d) why (Contains-get_or making.made k d inside))

    -- the table before and after the edge of the slot has come into it
    abbrev before : Graph
    before = with_made table making.made

    abbrev now : Graph
    now = with_made table later.made

    slot_below : (why : Why) → slot.why ≡ Some why → IsBelow before (edge_in to slot low)
    slot_below why some old has_old =
        let (weight, is_weight, below) = is.partly.row.improvements place slot why here some in
        let weights : weight ≡ low = same_weight weight low (sym is_weight ∙ has) in
        let same = with_made_other table making.made (key_in to slot) old_apart in
        subst (λ (w : ℤ). w <ℤ old) weights (below old (sym same ∙ has_old))

    -- an edge of another key stands as before
    kept_other : (edge : Edge) → key_of (edge_in to slot low) ≢ key_of edge → HasEdge before edge → HasEdge now edge
    kept_other edge apart stands = by slot.why
      where
        by : (o : Option Why) → HasEdge (with_made table (making.made ++ option_map_or (λ why. record { edge = edge_in to slot low; why = why } ∷ []) o [])) edge
        by None = subst (λ (list : List Made). HasEdge (with_made table list) edge) (sym (append-nil making.made)) stands
        by (Some why) = subst (λ (t : Graph). HasEdge t edge) (sym (with_made_push table making.made (record { edge = edge_in to slot low; why = why }))) (lowered_other before (edge_in to slot low) (key_of edge) apart ∙ stands)

    -- the edge of the slot stands afterwards
    slot_stands : HasEdge now (edge_in to slot low)
    slot_stands = by slot.why refl
      where
        by : (o : Option Why) → slot.why ≡ o → HasEdge (with_made table (making.made ++ option_map_or (λ why. record { edge = edge_in to slot low; why = why } ∷ []) o [])) (edge_in to slot low)
        by None none =
            let old : weight_of table (key_in to slot) ≡ Some low = sym (is.partly.row.unimproved place slot here none) ∙ has in
            subst (λ (list : List Made). HasEdge (with_made table list) (edge_in to slot low)) (sym (append-nil making.made)) (with_made_other table making.made (key_in to slot) old_apart ∙ old)
        by (Some why) some =
            subst (λ (t : Graph). HasEdge t (edge_in to slot low)) (sym (with_made_push table making.made (record { edge = edge_in to slot low; why = why }))) (lowered_has before (edge_in to slot low) (slot_below why some))

    -- a premise that stood is of another key: that of the slot did not stand at this weight, or its slot is another
    kept_settled : (other : ℕ) (old : Slot) (weight : ℤ) → other ≢ place → slice_get making.slots other ≡ Some old → HasEdge before (edge_in to old weight) → HasEdge now (edge_in to old weight)
    kept_settled other old weight apart at stands = kept_other (edge_in to old weight) (λ same. apart (only_slot other old at (sym same))) stands
      where
        only_slot : (other : ℕ) (old : Slot) → slice_get making.slots other ≡ Some old → key_in to old ≡ key_in to slot → other ≡ place
        only_slot other old at equal =
            let keys = is.partly.row.keys in
            let old_key : slice_get (row_keys table.shape to) other ≡ Some (key_in to old) = ap (λ (ks : List Key). slice_get ks other) (sym keys) ∙ (slice_get-map (key_in to) making.slots other ∙ ap (option_map (key_in to)) at) in
            let new_key : slice_get (row_keys table.shape to) place ≡ Some (key_in to slot) = ap (λ (ks : List Key). slice_get ks place) (sym keys) ∙ (slice_get-map (key_in to) making.slots place ∙ ap (option_map (key_in to)) here) in
            only_place (row_keys table.shape to) (row_keys_rise table.shape to) other place (key_in to old) old_key (new_key ∙ ap Some (sym equal))

    later_stand : (other : ℕ) (after : Slot) (weight : ℤ) → slice_get later.slots other ≡ Some after → after.settled ≡ true → after.weight ≡ Some weight → HasEdge now (edge_in to after weight)
    later_stand other after weight there settled has_it = by (was_marked making.slots place slot here other after (later_after.back other after there settled))
      where
        by : ((other ≡ place) × (marked slot ≡ after)) ⊎ ((other ≢ place) × (slice_get making.slots other ≡ Some after)) → HasEdge now (edge_in to after weight)
        by (inl (same, one)) =
            let weights : low ≡ weight = same_weight low weight (sym has ∙ (ap (λ (s : Slot). s.weight) one ∙ has_it)) in
            let edges : edge_in to slot low ≡ edge_in to after weight = ap (edge_in to slot) weights ∙ ap (λ (s : Slot). edge_in to s weight) one in
            subst (HasEdge now) edges slot_stands
        by (inr (apart, at)) = kept_settled other after weight apart at (is.stand other after weight at settled has_it)

    -- what was ready is, and what is relaxed now
    ready_kept : (one : Made) → IsReady making.slots one → IsReady later.slots one
    ready_kept one from =
        let apart : from.place ≢ place = λ same. (let at : slice_get making.slots place ≡ Some from.slot = subst (λ (k : ℕ). slice_get making.slots k ≡ Some from.slot) same from.here in
        let one_slot : slot ≡ from.slot = same_Some slot from.slot (sym here ∙ at) in
        let open' : from.slot.settled ≡ false = ap (λ (s : Slot). s.settled) (sym one_slot) ∙ is_open in let settled = from.settled in absurd cc) in
        record {
          place = from.place;
          slot = from.slot;
          weight = from.weight;
          here = later_after.kept from.place from.slot (set_other making.slots place from.place (marked slot) apart ∙ from.here) from.settled;
          settled = from.settled;
          has = from.has;
          follows = from.follows;
        }

    ready_new : (one : Made) → Contains (consequences net table (edge_in to slot low)) one → (one.edge.to ≡ to) × IsReady later.slots one
    ready_new one inside =
        let (derived, not_less) = can_be_relaxed net table to plan fits sound making.slots place slot low here is_open has is.partly.row one inside in (
          (in_row_there net table to plan fits sound one.edge derived).ends,
          record {
            place = place;
            slot = marked slot;
            weight = low;
            here = later_after.kept place (marked slot) (set_same making.slots place slot (marked slot) here) refl;
            settled = refl;
            has = has;
            follows = consequence_is net table (edge_in to slot low) one inside;
          },
        )

    mark_ready : AllOpen net table to plan fits sound (IsReady later.slots) (mark net table to plan fits sound making.slots place slot low here is_open has)
    mark_ready other after why weight there is_open_there some has_it = by (was_marked making.slots place slot here other after there)
      where
        by : ((other ≡ place) × (marked slot ≡ after)) ⊎ ((other ≢ place) × (slice_get making.slots other ≡ Some after)) → IsReady later.slots (record { edge = edge_in to after weight; why = why })
        by (inl (same, one)) = let settled : true ≡ after.settled = ap (λ (s : Slot). s.settled) one in absurd cc
        by (inr (apart, at)) = ready_kept (record { edge = edge_in to after weight; why = why }) (is.ready other after why weight at is_open_there some has_it)

    later_ready : AllOpen net table to plan fits sound (IsReady later.slots) later.slots
    later_ready = relaxes_open net table to plan fits sound (IsReady later.slots) (consequences net table (edge_in to slot low)) (mark net table to plan fits sound making.slots place slot low here is_open has) ready_new mark_ready

    later_grounded : AreGrounded net table table later.made
    later_grounded = by slot.why refl
      where
        by : (o : Option Why) → slot.why ≡ o → AreGrounded net table table (making.made ++ option_map_or (λ why. record { edge = edge_in to slot low; why = why } ∷ []) o [])
        by None none = subst (AreGrounded net table table) (sym (append-nil making.made)) is.grounded
        by (Some why) some =
            let from = is.ready place slot why low here is_open some has in
            let stands : HasEdge before (edge_in to from.slot from.weight) = is.stand from.place from.slot from.weight from.here from.settled from.has in
            grounded_push net table table making.made (record { edge = edge_in to slot low; why = why }) is.grounded
            (record { premise = edge_in to from.slot from.weight; follows = from.follows; has = stands }) (slot_below why some)

    pub later_making : IsMaking later
    later_making = record {
      partly = settling_partly net table to plan fits sound making.slots place slot low here is_open has is.partly next;
      listed = later_listed;
      each = later_each;
      once = later_pairs IsApart is.once (λ one why inside. old_apart one inside);
      in_order = later_pairs IsNotAbove is.in_order (λ one why inside. old_not_above one inside);
      grounded = later_grounded;
      stand = later_stand;
      ready = later_ready;
    }
