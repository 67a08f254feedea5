-- After a round each row is closed against the table before it: of what follows from an edge of the table only what comes with a delta edge
-- as first premise may be unsaturated.
use Rattle.std.proofs.Common.{◌≡◌, ◌≢◌, ℕ, zero, suc, ◌<◌, ◌≤◌, ℤ, pos, ◌+ℤ◌, ◌≤ℤ◌, ◌<ℤ◌, ◌||◌, Bool, true, false, ◌⊎◌, List, [], ◌∷◌, ◌++◌, map, Option, Some, None, refl, ap, sym, subst, ◌∙◌, inl, inr, arith}
use Rattle.std.specs.Prelude.{filter, slice_get, slice_set, int_lt}
use Rattle.std.specs.Int.{int_max}
use Rattle.std.specs.Option.{option_map_or}
use Rattle.std.specs.List.{Contains, flat_map, list_any}
use Rattle.std.proofs.lemmas.Int.{ints}
use Rattle.std.proofs.lemmas.List.Elements.{Contains-append_cases}
use Rattle.net_model.specs.Network.{Plan, IsPlan, activation}
use Rattle.net_model.specs.Rules.{no_case, upper_case, lower_case, cross_case, removal, joined_weight}
use Rattle.net_model.specs.declared.ids.LinkId.{LinkId}
use Rattle.net_model.specs.declared.ids.PointId.{PointId}
use Rattle.net_model.specs.declared.part.Edge.{Edge}
use Rattle.net_model.proofs.AppliedRuleLemmas.{no_case_applies, upper_case_applies}
use Rattle.net_model.proofs.RuleLemmas.{NoCaseGives, UpperCaseGives, no_case_gives, upper_case_gives}
use Rattle.closure_model.specs.DeltaEdges.{delta_at, AreOfTable, IsSaturatedBut, WasThere, has_improved, UnimprovedWereThere, RowsAreSaturatedAfterARound, UnstaleRowsMakeNothing}
use Rattle.closure_model.specs.Keys.{key_of, row_keys}
use Rattle.closure_model.specs.PrunedRows.{IsThinned}
use Rattle.closure_model.specs.ReferenceRow.{given, ordinary_into, from_removal, over_link, from_link, from_first, consequences, edge_in, improved, next_slot, first_slots, reference_row, with_made, Making, IsInRow, by_no_case, by_upper_case, by_lower_case, by_cross_case}
use Rattle.closure_model.specs.ReferenceRow.{by_removal}
use Rattle.closure_model.specs.ReferenceRound.{is_same_key, round_made}
use Rattle.closure_model.specs.Tables.{Graph, weight_of, HasEdge, HasAtMost, IsFor, IsGraph}
use Rattle.closure_model.specs.declared.rows.Made.{Made}
use Rattle.closure_model.specs.declared.rows.Slot.{Slot}
use Rattle.closure_model.specs.declared.rows.Why.{Why}
use Rattle.closure_model.specs.declared.rows.Why.TheVariants.{No, Up, Low, Cross, Drop}
use Rattle.closure_model.proofs.Consequences.{ordinary_from}
use Rattle.closure_model.proofs.Lists.{Contains-cases, Contains-none, Contains-map_from, Contains-filter_from}
use Rattle.closure_model.proofs.NextSlots.{unimproved_at_first, making_of, next_weight, progress_after, fewer, relaxes_are}
use Rattle.closure_model.proofs.RoundLaw.{is_same_key_of}
use Rattle.closure_model.proofs.RowRun.{IsUnderWay, under_way_first, under_way_done, next_there}
use Rattle.closure_model.proofs.RowSteps.{unsettled, after_slot}
use Rattle.closure_model.proofs.RowsAfter.{now_in_row, row_met}
use Rattle.closure_model.proofs.SettledSlots.{marked, was_marked}
use Rattle.closure_model.proofs.TableLemmas.{all_lowered-cases, at_most_from, at_most_gives}
use Rattle.closure_model.proofs.ThinnedLemmas.{thinned_all, thinned_append, thinned_flat, given_is, heavy_all}
use Rattle.closure_model.proofs.Weights.{le_refl, le_then}

joined_less : (v w u : ℤ) → int_max v (pos 0) ≤ℤ int_max w (pos 0) → (int_max v (pos 0) +ℤ u) ≤ℤ (int_max w (pos 0) +ℤ u)
joined_less v w u less = grind (arith, ints)

module _ (net : Plan) (before : Graph) (plan : IsPlan net) (fits : IsFor net before) (sound : IsGraph before) where
  abbrev now : Graph
  now = with_made before (round_made net before)

  abbrev in_row : (edge : Edge) → HasEdge now edge → IsInRow net before edge.to edge
  in_row = now_in_row net before plan fits sound

  abbrev saturates : (to : PointId) (edge : Edge) → IsInRow net before to edge → HasAtMost now edge
  saturates = row_met net before plan fits sound

  module _ (edge : Edge) (has : HasEdge now edge) where
    removal_met : (made : Made) → Contains (from_removal net edge) made → HasAtMost now made.edge
    removal_met made inside = saturates edge.to made.edge (by_removal edge made.edge (in_row edge has) (given_is (Drop edge) (removal net edge) made inside))

    over_link_met : (name : LinkId) (made : Made) → Contains (over_link net edge name) made → HasAtMost now made.edge
    over_link_met name made inside = by (Contains-append_cases (given (Low name edge) (lower_case net name edge)) (given (Cross name edge) (cross_case net name edge)) made inside)
      where
        by : Contains (given (Low name edge) (lower_case net name edge)) made ⊎ Contains (given (Cross name edge) (cross_case net name edge)) made → HasAtMost now made.edge
        by (inl here) = saturates edge.to made.edge (by_lower_case name edge made.edge (in_row edge has) (given_is (Low name edge) (lower_case net name edge) made here))
        by (inr here) = saturates edge.to made.edge (by_cross_case name edge made.edge (in_row edge has) (given_is (Cross name edge) (cross_case net name edge) made here))

    link_met : (made : Made) → Contains (from_link net edge) made → HasAtMost now made.edge
    link_met made inside = by (activation net edge.from) inside
      where
        by : (o : Option LinkId) → Contains (option_map_or (over_link net edge) o []) made → HasAtMost now made.edge
        by None inside = absurd (Contains-none made inside)
        by (Some name) inside = over_link_met name made inside

    -- a first premise that goes as far as one of the table before
    first_met : (first : Edge) (made : Made) → WasThere before first → Contains (from_first edge first) made → HasAtMost now made.edge
    first_met first made was inside = by (Contains-append_cases (given (No first edge) (no_case first edge)) (given (Up first edge) (upper_case first edge)) made inside)
      where
        old : Edge
        old = record first { weight = was.weight }

        no_met : NoCaseGives first edge made.edge → HasAtMost now made.edge
        no_met gives =
            let less : joined_weight old edge ≤ℤ joined_weight first edge = joined_less was.weight first.weight edge.weight was.same in
            let joined : Edge = record { from = first.from; to = edge.to; label = None; weight = joined_weight old edge } in
            let (weight, is, under) = at_most_gives now joined (saturates edge.to joined (by_no_case old edge joined was.has (in_row edge has)
            (no_case_applies old edge gives.first_ordinary gives.second_ordinary gives.meeting gives.negative))) in
            let key : key_of joined ≡ key_of made.edge = ap key_of gives.is in
            let weights : joined_weight first edge ≡ made.edge.weight = ap (λ (e : Edge). e.weight) gives.is in
            at_most_from now made.edge weight (sym (ap (weight_of now) key) ∙ is) (le_then weight (joined_weight old edge) made.edge.weight under (subst (λ (w : ℤ). joined_weight old edge ≤ℤ w) weights less))

        up_met : UpperCaseGives first edge made.edge → HasAtMost now made.edge
        up_met gives =
            let less : joined_weight old edge ≤ℤ joined_weight first edge = joined_less was.weight first.weight edge.weight was.same in
            let joined : Edge = record { from = first.from; to = edge.to; label = edge.label; weight = joined_weight old edge } in
            let (weight, is, under) = at_most_gives now joined (saturates edge.to joined (by_upper_case old edge joined was.has (in_row edge has)
            (upper_case_applies old edge gives.label gives.first_ordinary gives.second_labelled gives.meeting gives.negative))) in
            let key : key_of joined ≡ key_of made.edge = ap key_of gives.is in
            let weights : joined_weight first edge ≡ made.edge.weight = ap (λ (e : Edge). e.weight) gives.is in
            at_most_from now made.edge weight (sym (ap (weight_of now) key) ∙ is) (le_then weight (joined_weight old edge) made.edge.weight under (subst (λ (w : ℤ). joined_weight old edge ≤ℤ w) weights less))

        by : Contains (given (No first edge) (no_case first edge)) made ⊎ Contains (given (Up first edge) (upper_case first edge)) made → HasAtMost now made.edge
        by (inl here) = no_met (no_case_gives first edge made.edge (given_is (No first edge) (no_case first edge) made here))
        by (inr here) = up_met (upper_case_gives first edge made.edge (given_is (Up first edge) (upper_case first edge) made here))

    needs_delta : (is_delta : Edge → Bool) → ((first : Edge) → HasEdge now first → is_delta first ≡ false → WasThere before first)
        → IsThinned now (consequences net now edge) (flat_map (from_first edge) (filter is_delta (ordinary_into now edge.from)))
    needs_delta is_delta was =
        thinned_append now (from_removal net edge) [] (from_link net edge ++ flat_map (from_first edge) (ordinary_into now edge.from)) (flat_map (from_first edge) (filter is_delta (ordinary_into now edge.from)))
        (thinned_all now (from_removal net edge) removal_met)
        (thinned_append now (from_link net edge) [] (flat_map (from_first edge) (ordinary_into now edge.from)) (flat_map (from_first edge) (filter is_delta (ordinary_into now edge.from)))
        (thinned_all now (from_link net edge) link_met)
        (thinned_flat now (from_first edge) is_delta (ordinary_into now edge.from) (λ first inside old made follows. first_met first made (was first (ordinary_from now edge.from first inside).0 old) follows)))

-- ---- the improvements
improved_if_listed : (made : List Made) (one : Made) (edge : Edge) → Contains made one → one.edge ≡ edge → has_improved made edge ≡ true
improved_if_listed [] one edge inside is = absurd (Contains-none one inside)
improved_if_listed (first ∷ made) one edge inside is = by (λ there. improved_if_listed made one edge there is) (Contains-cases first made one inside)
  where
    or_left : (a b : Bool) → a ≡ true → (a || b) ≡ true
    or_left a b is' = rw is' refl

    or_right : (a b : Bool) → b ≡ true → (a || b) ≡ true
    or_right true b is' = refl
    or_right false b is' = is'

    by : (Contains made one → has_improved made edge ≡ true) → (first ≡ one) ⊎ Contains made one → has_improved (first ∷ made) edge ≡ true
    by rest (inl same) =
        let key : key_of edge ≡ key_of first.edge = ap key_of (sym is ∙ ap (λ (m : Made). m.edge) (sym same)) in
        or_left (is_same_key first.edge edge) (list_any (λ (m : Made). is_same_key m.edge edge) made) (is_same_key_of first.edge edge key)
    by rest (inr there) = or_right (is_same_key first.edge edge) (list_any (λ (m : Made). is_same_key m.edge edge) made) (rest there)

pub law_unimproved_were_there : UnimprovedWereThere
law_unimproved_were_there net before first has not_improved = by (all_lowered-cases before (map (λ (one : Made). one.edge) (round_made net before)) first has)
  where
    by : Contains (map (λ (one : Made). one.edge) (round_made net before)) first ⊎ HasEdge before first → WasThere before first
    by (inr old) = record { weight = first.weight; has = old; same = le_refl (int_max first.weight (pos 0)) }
    by (inl improvements) =
        let (one, inside, is) = Contains-map_from (λ (one : Made). one.edge) (round_made net before) first improvements in
        let recorded = improved_if_listed (round_made net before) one first inside is in absurd cc

pub law_rows_are_saturated_after_a_round : RowsAreSaturatedAfterARound
law_rows_are_saturated_after_a_round net before delta plan fits sound are = (of_table, met)
  where
    after : Graph
    after = with_made before (round_made net before)

    of_table : AreOfTable after delta
    of_table point first inside = (ordinary_from after point first (Contains-filter_from are.is_delta (ordinary_into after point) first (subst (λ (l : List Edge). Contains l first) (are.lists point) inside))).0

    met : (to : PointId) → IsSaturatedBut net after to delta
    met to edge has ends =
        subst (λ (l : List Edge). IsThinned after (consequences net after edge) (flat_map (from_first edge) l)) (sym (are.lists edge.from)) (needs_delta net before plan fits sound edge has are.is_delta are.was_there)

-- ---- a row that is not stale
module _ (net : Plan) (table : Graph) (to : PointId) (plan : IsPlan net) (fits : IsFor net table) (sound : IsGraph table)
    (dull : (slot : Slot) (weight : ℤ) → HasEdge table (edge_in to slot weight) → IsThinned table (consequences net table (edge_in to slot weight)) []) where
  -- a row under way that made nothing so far
  record IsIdle (making : Making) : Type 0 where
    progress : IsUnderWay net table to making
    unimproved : (place : ℕ) (slot : Slot) → slice_get making.slots place ≡ Some slot → slot.why ≡ None
    nothing : making.made ≡ []

  idle_first : IsIdle (record { slots = first_slots table to; made = [] })
  idle_first = record { progress = under_way_first net table to; unimproved = unimproved_at_first table (row_keys table.shape to); nothing = refl }

  idle_next : (making : Making) → IsIdle making → (place : ℕ) (weight : ℤ) (slot : Slot) → next_slot making.slots ≡ Some (place, weight) → slice_get making.slots place ≡ Some slot
      → IsIdle (after_slot net table to making (place, weight) slot)
  idle_next making idle place weight slot some here = record {
    progress = progress_after net table to plan fits sound making idle.progress place weight some slot here;
    unimproved = λ other after there. by other after (was_marked making.slots place slot here other after (subst (λ (l : List Slot). slice_get l other ≡ Some after) slots_are there));
    nothing = (λ i. idle.nothing i ++ improves_nothing i);
  }
    where
      absent : slot.why ≡ None
      absent = idle.unimproved place slot here

      held : HasEdge table (edge_in to slot weight)
      held = sym ((making_of net table to plan fits sound making idle.progress).partly.row.unimproved place slot here absent) ∙ next_weight net table to plan fits sound making idle.progress place weight some slot here

      slots_are : (after_slot net table to making (place, weight) slot).slots ≡ slice_set making.slots place (marked slot)
      slots_are = relaxes_are net table to plan fits sound making idle.progress place weight some slot here [] (dull slot weight held)

      improves_nothing : improved to slot weight ≡ []
      improves_nothing = ap (λ (o : Option Why). option_map_or (λ why. record { edge = edge_in to slot weight; why = why } ∷ []) o []) absent

      by : (other : ℕ) (after : Slot) → ((other ≡ place) × (marked slot ≡ after)) ⊎ ((other ≢ place) × (slice_get making.slots other ≡ Some after)) → after.why ≡ None
      by other after (inl (equal, is)) = ap (λ (s : Slot). s.why) (sym is) ∙ absent
      by other after (inr (apart, at)) = idle.unimproved other after at

  idle_step : (making : Making) → IsIdle making → ((later : Making) → IsIdle later → unsettled later.slots < unsettled making.slots → reference_row net table to ≡ []) → (o : Option (ℕ × ℤ)) → next_slot making.slots ≡ o
      → reference_row net table to ≡ []
  idle_step making idle again None end = sym (under_way_done net table to making end idle.progress) ∙ idle.nothing
  idle_step making idle again (Some (place, weight)) some =
      let there = next_there net table to making (place, weight) some in
      again (after_slot net table to making (place, weight) there.slot) (idle_next making idle place weight there.slot some there.here)
      (fewer net table to plan fits sound making idle.progress place weight some there.slot there.here)

  idle_row : (count : ℕ) (making : Making) → IsIdle making → unsettled making.slots ≤ count → reference_row net table to ≡ []
  idle_row zero making idle enough = idle_step making idle (λ later _ less. absurd (omega arith)) (next_slot making.slots) refl
  idle_row (suc count) making idle enough = idle_step making idle (λ later idle' less. idle_row count later idle' (omega arith)) (next_slot making.slots) refl

pub law_unstale_rows_make_nothing : UnstaleRowsMakeNothing
law_unstale_rows_make_nothing net table to delta plan fits sound met_but unstale =
    idle_row net table to plan fits sound dull (unsettled (first_slots table to)) (record { slots = first_slots table to; made = [] }) (idle_first net table to plan fits sound dull) (omega arith)
  where
    light : (w : ℤ) → int_lt w (pos 0) ≡ true → w <ℤ pos 0
    light w t = grind (arith, ints)

    heavy : (w : ℤ) → int_lt w (pos 0) ≡ false → pos 0 ≤ℤ w
    heavy w t = grind (arith, ints)

    dull : (slot : Slot) (weight : ℤ) → HasEdge table (edge_in to slot weight) → IsThinned table (consequences net table (edge_in to slot weight)) []
    dull slot weight held = subst (IsThinned table (consequences net table (edge_in to slot weight))) (by (int_lt weight (pos 0)) refl) (met_but (edge_in to slot weight) held refl)
      where
        by : (b : Bool) → int_lt weight (pos 0) ≡ b → flat_map (from_first (edge_in to slot weight)) (delta_at delta slot.from) ≡ []
        by true test = ap (flat_map (from_first (edge_in to slot weight))) (unstale (edge_in to slot weight) held refl (light weight test))
        by false test = heavy_all (edge_in to slot weight) (delta_at delta slot.from) (heavy weight test)
