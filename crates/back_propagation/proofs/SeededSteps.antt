-- A row that is seeded with what can still change it.
use Rattle.std.proofs.Common.{◌≡◌, ℕ, ◌<◌, ℤ, ◌==◌, ◌||◌, ◌&&◌, ◌%◌, Bool, true, false, cond, ◌⊎◌, List, [], ◌∷◌, ◌++◌, length, fold, get_or, Option, Some, None, refl, ap, sym, subst, ◌∙◌, inl, inr, arith, is_some}
use Rattle.std.specs.Prelude.{slice_get, slice_set, filter, is_none}
use Rattle.std.specs.Option.{option_map}
use Rattle.std.specs.List.{Contains, list_any}
use Rattle.std.proofs.lemmas.Option.{same_Some, slice_get-map, get_or_from_slice_get}
use Rattle.std.proofs.lemmas.List.Elements.{Contains-get_or}
use Rattle.closure_model.proofs.Lists.{Contains-head, Contains-tail, Contains-cases, Contains-none}
use Rattle.std.proofs.lemmas.Bool.Decides.{nat_tests}
use Rattle.net_model.specs.Network.{Plan, IsPlan}
use Rattle.net_model.specs.declared.ids.PointId.{PointId}
use Rattle.net_model.specs.declared.part.Edge.{Edge}
use Rattle.closure_model.specs.Keys.{Key, row_keys}
use Rattle.closure_model.specs.ReferenceRow.{consequences, relaxed, edge_in, improved, first_slots, reference_row}
use Rattle.closure_model.specs.Tables.{Graph, HasEdge, IsFor, IsGraph, edges_of, row_of}
use Rattle.closure_model.specs.declared.rows.Made.{Made}
use Rattle.closure_model.specs.declared.rows.Slot.{Slot}
use Rattle.closure_model.specs.declared.rows.Why.{Why}
use Rattle.closure_model.proofs.RowRun.{in_row_key, law_rows_stay_within}
use Rattle.closure_model.proofs.RowSteps.{unsettled, unsettled-set, unsettled-relaxes}
use Rattle.closure_model.proofs.Slots.{key_in, map_set_kept}
use Rattle.closure_model.proofs.TableLemmas.{edge_listed}
use Rattle.closure_model.specs.PrunedRows.{IsThinned, IsNextLive, IsAllDone, pruned_after, is_live}
use Rattle.closure_model.proofs.ThinnedLemmas.{thinned_itself}
use Rattle.closure_model.specs.DeltaEdges.{delta_at, AreOfTable, IsSaturatedBut}
use Rattle.back_propagation.specs.DeltaRows.{goes_before, what_follows}
use Rattle.back_propagation.specs.SlotPlaces.{IsRowAgainst, IsOfRow, slot_key, HasColumn}
use Rattle.back_propagation.specs.BestKeys.{AreBest, IsSeededWithBest}
use Rattle.back_propagation.specs.QueuedPlaces.{IsQueued, IsQueueItem, IsNextSlotFound}
use Rattle.closure_model.proofs.Weights.{same_weight, le_of_same}
use Rattle.closure_model.proofs.NextSlots.{unimproved_at_first}
use Rattle.std.proofs.lemmas.Bool.{eqb-true}
use Rattle.std.proofs.lemmas.List.{get_or_default}
use Rattle.back_propagation.proofs.BestRuns.{IsPruned, pruned_first, pruned_step, pruned_done, pruned_derivable, pruned_unimproved}
use Rattle.back_propagation.proofs.RowPlaces.{column_of_place}

-- a row under way that was seeded with the best candidates, on whatever it stands
pub record IsPrunedProgress (net : Plan) (table : Graph) (to : PointId) (delta : List (List Edge)) (begins : ℕ → Bool) (slots : List Slot) (made : List Made) : Type 0 where
  pub is : (plan : IsPlan net) (fits : IsFor net table) (sound : IsGraph table) (of_table : AreOfTable table delta) (met : IsSaturatedBut net table to delta) (best : IsSeededWithBest table to delta begins)
      → IsPruned net table to delta begins plan fits sound of_table met best slots made

pub progress_first : (net : Plan) (table : Graph) (to : PointId) (delta : List (List Edge)) (begins : ℕ → Bool) → IsPrunedProgress net table to delta begins (first_slots table to) []
progress_first net table to delta begins = record { is = λ plan fits sound of_table met best. pruned_first net table to delta begins plan fits sound of_table met best }

-- ---- edges of a row
kept_by : {X : Type 0} (keep : X → Bool) (xs : List X) (x : X) → keep x ≡ true → Contains xs x → Contains (filter keep xs) x
kept_by keep [] x is inside = absurd (Contains-none x inside)
kept_by keep (y ∷ ys) x is inside = by (λ later. kept_by keep ys x is later) (Contains-cases y ys x inside) (keep y) refl
  where
    by : (Contains ys x → Contains (filter keep ys) x) → (y ≡ x) ⊎ Contains ys x → (b : Bool) → keep y ≡ b → Contains (cond b (y ∷ filter keep ys) (filter keep ys)) x
    by rest (inl same) true test = subst (Contains (y ∷ filter keep ys)) same (Contains-head y (filter keep ys))
    by rest (inl same) false test = let clash : keep y ≡ true = ap keep same ∙ is in absurd cc
    by rest (inr later) true test = Contains-tail y (filter keep ys) x (rest later)
    by rest (inr later) false test = rest later

-- an edge of a table is one of its row
pub in_row : (table : Graph) (to : PointId) (edge : Edge) → HasEdge table edge → edge.to ≡ to → Contains (row_of table to) edge
in_row table to edge has ends =
    let test : edge.to.0 == to.0 ≡ true = let same : edge.to.0 ≡ to.0 = ap (λ (p : PointId). p.0) ends in grind (arith, nat_tests) in
    kept_by (λ (one : Edge). one.to.0 == to.0) (edges_of table) edge test (edge_listed table edge has)

-- an ordinary edge goes before one that begins where it ends
pub before_is : (first edge : Edge) → first.label ≡ None → first.to ≡ edge.from → goes_before first edge ≡ true
before_is first edge ordinary meeting =
    let one : is_none first.label ≡ true = ap is_none ordinary in
    let same : first.to.0 ≡ edge.from.0 = ap (λ (p : PointId). p.0) meeting in
    let two : first.to.0 == edge.from.0 ≡ true = grind (arith, nat_tests) in λ i. one i && two i

-- ---- fewer are left
-- ---- a live slot is settled
module _ (net : Plan) (table : Graph) (to : PointId) (begins : ℕ → Bool) (slots : List Slot) (made : List Made) (items : List (ℤ × ℕ)) (one : ℤ × ℕ) (found : IsNextSlotFound begins slots items one) (d slot : Slot)
    (read : slot ≡ get_or slots one.1 d) where
  slot_is : slot ≡ found.slot
  slot_is = read ∙ get_or_from_slice_get slots one.1 found.slot d found.next.here

  next_is : IsNextLive begins slots one.1 slot one.0
  next_is = subst (λ (s : Slot). IsNextLive begins slots one.1 s one.0) (sym slot_is) found.next

  pub pruned_has : slot.weight ≡ Some one.0
  pruned_has = next_is.has

  pub pruned_marked : (width : ℕ) → IsRowAgainst net table to slots width → IsRowAgainst net table to (slice_set slots one.1 (record slot { settled = true })) width
  pruned_marked width row = record {
    plan = row.plan;
    fits = row.fits;
    sound = row.sound;
    within = row.within;
    wide = row.wide;
    keys = map_set_kept (slot_key to) slots one.1 slot (record slot { settled = true }) next_is.here refl ∙ row.keys;
  }

  pub pruned_edge : (delta : List (List Edge)) (width : ℕ) → IsRowAgainst net table to slots width → AreOfTable table delta → IsSaturatedBut net table to delta → IsSeededWithBest table to delta begins
      → IsPrunedProgress net table to delta begins slots made → IsOfRow net table to (edge_in to slot one.0) (one.1 % width)
  pruned_edge delta width row of_table met best candidate =
      let pruned = candidate.is row.plan row.fits row.sound of_table met best in
      let derived = pruned_derivable net table to delta begins row.plan row.fits row.sound of_table met best slots made pruned one.1 slot one.0 next_is in
      let at : slice_get (row_keys table.shape to) one.1 ≡ Some (key_in to slot) = ap (λ (ks : List Key). slice_get ks one.1) (sym row.keys) ∙ (slice_get-map (key_in to) slots one.1 ∙ ap (option_map (key_in to)) next_is.here) in
      record {
        ends = refl;
        key = in_row_key net table to row.plan row.fits row.sound (edge_in to slot one.0) derived;
        within = law_rows_stay_within net table to row.plan row.within (edge_in to slot one.0) derived;
        in_column = subst (λ (w : ℕ). HasColumn table.shape to slot.label (one.1 % w)) (sym row.wide) (column_of_place table.shape to one.1 (key_in to slot) at);
      }

  pub pruned_rest : IsQueued begins (slice_set slots one.1 (record slot { settled = true })) items
  pruned_rest = subst (λ (s : Slot). IsQueued begins (slice_set slots one.1 (record s { settled = true })) items) (sym slot_is) found.rest

  module _ (delta : List (List Edge)) (after : List Slot) (is_after : after ≡ fold relaxed (slice_set slots one.1 (record slot { settled = true })) (what_follows net table delta (is_some slot.why) (edge_in to slot one.0))) where
    pub pruned_fewer : unsettled after < unsettled slots
    pruned_fewer =
        let relaxes = unsettled-relaxes (what_follows net table delta (is_some slot.why) (edge_in to slot one.0)) (slice_set slots one.1 (record slot { settled = true })) in
        let marked = unsettled-set slots one.1 slot (record slot { settled = true }) next_is.here next_is.open_slot refl in
        let same : unsettled after ≡ unsettled (fold relaxed (slice_set slots one.1 (record slot { settled = true })) (what_follows net table delta (is_some slot.why) (edge_in to slot one.0))) = ap unsettled is_after in
        omega arith

    -- what is relaxed is enough
    thin : (plan : IsPlan net) (fits : IsFor net table) (sound : IsGraph table) (of_table : AreOfTable table delta) (met : IsSaturatedBut net table to delta) (best : IsSeededWithBest table to delta begins)
        → IsPruned net table to delta begins plan fits sound of_table met best slots made
        → IsThinned table (consequences net table (edge_in to slot one.0)) (what_follows net table delta (is_some slot.why) (edge_in to slot one.0))
    thin plan fits sound of_table met best pruned = by slot.why refl
      where
        by : (o : Option Why) → slot.why ≡ o → IsThinned table (consequences net table (edge_in to slot one.0)) (what_follows net table delta (is_some o) (edge_in to slot one.0))
        by (Some why) some = thinned_itself table (consequences net table (edge_in to slot one.0))
        by None absent = met (edge_in to slot one.0) (sym (pruned_unimproved net table to delta begins plan fits sound of_table met best slots made pruned one.1 slot one.0 next_is absent) ∙ next_is.has) refl

    pub pruned_next : (now : List Made) → now ≡ made ++ improved to slot one.0 → IsPrunedProgress net table to delta begins slots made → IsPrunedProgress net table to delta begins after now
    pruned_next now is_now candidate = record {
      is = λ plan fits sound of_table met best.
          let pruned = candidate.is plan fits sound of_table met best in
          let few = what_follows net table delta (is_some slot.why) (edge_in to slot one.0) in
          let step = pruned_step net table to delta begins plan fits sound of_table met best slots made one.1 slot one.0 few pruned next_is (thin plan fits sound of_table met best pruned) in
          subst (λ (list : List Slot). IsPruned net table to delta begins plan fits sound of_table met best list now) (sym is_after)
          (subst (IsPruned net table to delta begins plan fits sound of_table met best (pruned_after slots one.1 slot few)) (sym is_now) step);
    }

pub pruned_end : (net : Plan) (table : Graph) (to : PointId) (delta : List (List Edge)) (begins : ℕ → Bool) (slots : List Slot) (made : List Made) → IsPlan net → IsFor net table → IsGraph table → AreOfTable table delta
    → IsSaturatedBut net table to delta → IsSeededWithBest table to delta begins
    → IsPrunedProgress net table to delta begins slots made → IsAllDone begins slots → made ≡ reference_row net table to
pruned_end net table to delta begins slots made plan fits sound of_table met best candidate all =
    pruned_done net table to delta begins plan fits sound of_table met best slots made (candidate.is plan fits sound of_table met best) all

-- ---- the places of the best candidates
contained_place : (items : List (ℤ × ℕ)) (item : ℤ × ℕ) → Contains items item → list_any (λ (one : ℤ × ℕ). one.1 == item.1) items ≡ true
contained_place [] item inside = absurd (Contains-none item inside)
contained_place (x ∷ xs) item inside = by (λ later. contained_place xs item later) (Contains-cases x xs item inside)
  where
    by : (Contains xs item → list_any (λ (one : ℤ × ℕ). one.1 == item.1) xs ≡ true) → (x ≡ item) ⊎ Contains xs item → (x.1 == item.1 || list_any (λ (one : ℤ × ℕ). one.1 == item.1) xs) ≡ true
    by rest (inl is) =
        let at : x.1 ≡ item.1 = ap (λ (one : ℤ × ℕ). one.1) is in
        let test : x.1 == item.1 ≡ true = grind (arith, nat_tests) in
        ap (λ (b : Bool). b || list_any (λ (one : ℤ × ℕ). one.1 == item.1) xs) test
    by rest (inr later) = or_right (x.1 == item.1) (list_any (λ (one : ℤ × ℕ). one.1 == item.1) xs) (rest later)
      where
        or_right : (a b : Bool) → b ≡ true → (a || b) ≡ true
        or_right true b is = refl
        or_right false b is = is

place_contained : (items : List (ℤ × ℕ)) (place : ℕ) → list_any (λ (one : ℤ × ℕ). one.1 == place) items ≡ true → (item : ℤ × ℕ) × Contains items item × (item.1 ≡ place)
place_contained [] place any = absurd cc
place_contained (x ∷ xs) place any = by (λ later. place_contained xs place later) (x.1 == place) refl any
  where
    by : (list_any (λ (one : ℤ × ℕ). one.1 == place) xs ≡ true → (item : ℤ × ℕ) × Contains xs item × (item.1 ≡ place)) → (b : Bool) → (x.1 == place) ≡ b → (b || list_any (λ (one : ℤ × ℕ). one.1 == place) xs) ≡ true
        → (item : ℤ × ℕ) × Contains (x ∷ xs) item × (item.1 ≡ place)
    by rest true is any' = (x, Contains-head x xs, eqb-true x.1 place is)
    by rest false is any' = let (item, inside, at) = rest any' in (item, Contains-tail x xs item inside, at)

-- a row is seeded with a place that is among some
abbrev pub contains_place : List (ℤ × ℕ) → ℕ → Bool
contains_place items place = list_any (λ (one : ℤ × ℕ). one.1 == place) items

pub best_begin : (table : Graph) (to : PointId) (delta : List (List Edge)) (items : List (ℤ × ℕ)) → AreBest table to delta items → IsSeededWithBest table to delta (contains_place items)
best_begin table to delta items are place weight from label total leads below =
    let matched = are.best place weight from label total leads below in record {
      other = matched.one.1;
      begins_there = contained_place items matched.one matched.inside;
      recorded = matched.one.0;
      reached = matched.reached;
      leads = matched.leads;
      no_worse = matched.no_worse;
    }

pub best_queued : (table : Graph) (to : PointId) (delta : List (List Edge)) (items : List (ℤ × ℕ)) (slots : List Slot) → slots ≡ first_slots table to → AreBest table to delta items → IsQueued (contains_place items) slots items
best_queued table to delta items slots first are = subst (λ (list : List Slot). IsQueued (contains_place items) list items) (sym first) (record { covers = covers; sound = waits })
  where
    covers : (place : ℕ) (slot : Slot) (weight : ℤ) → slice_get (first_slots table to) place ≡ Some slot → is_live (contains_place items) place slot ≡ true → slot.settled ≡ false → slot.weight ≡ Some weight → Contains items (weight, place)
    covers place slot weight here live is_open has =
        let absent : slot.why ≡ None = unimproved_at_first table (row_keys table.shape to) place slot here in
        let among : contains_place items place ≡ true = sym (ap (λ (o : Option Why). is_some o || contains_place items place) absent) ∙ live in
        let (item, inside, at) = place_contained items place among in
        let (other, there, had) = are.sound item inside in
        let same : other ≡ slot = same_Some other slot (sym there ∙ (ap (slice_get (first_slots table to)) at ∙ here)) in
        let weights : item.0 ≡ weight = same_weight item.0 weight (sym had ∙ (ap (λ (s : Slot). s.weight) same ∙ has)) in
        subst (λ (one : ℤ × ℕ). Contains items one) (λ i. (weights i, at i)) inside

    waits : (item : ℤ × ℕ) → Contains items item → IsQueueItem (contains_place items) (first_slots table to) item
    waits item inside = let (slot, here, has) = are.sound item inside in record {
      slot = slot;
      here = here;
      live = or_right (is_some slot.why) (contains_place items item.1) (contained_place items item inside);
      weight = item.0;
      has = has;
      less = le_of_same item.0 item.0 refl;
    }
      where
        or_right : (a b : Bool) → b ≡ true → (a || b) ≡ true
        or_right true b is = refl
        or_right false b is = is

-- ---- delta edges
pub delta_is : (delta : List (List Edge)) (point : PointId) (list read : List Edge) → point.0 < length delta → read ≡ get_or delta point.0 read → list ≡ read → list ≡ delta_at delta point
delta_is delta point list read inside is same = same ∙ (is ∙ get_or_default delta point.0 read [] inside)

pub delta_of_table : (table : Graph) (delta : List (List Edge)) (point : PointId) (list : List Edge) (i : ℕ) (d : Edge) → AreOfTable table delta → list ≡ delta_at delta point → i < length list → HasEdge table (get_or list i d)
delta_of_table table delta point list i d of_table same inside = of_table point (get_or list i d) (subst (λ (l : List Edge). Contains l (get_or list i d)) same (Contains-get_or list i d inside))
