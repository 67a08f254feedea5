-- A row that is seeded with the best candidates alone is the reference row: what is not relaxed is below no slot when that is settled.
use Rattle.std.proofs.Common.{◌≡◌, ◌≢◌, ℕ, zero, suc, ◌<◌, ◌≤◌, ℤ, pos, ◌≤ℤ◌, ◌<ℤ◌, ◌+ℤ◌, ◌==◌, ◌&&◌, ◌||◌, Bool, true, false, cond, ◌⊎◌, List, [], ◌∷◌, ◌++◌, map, Option, Some, None, refl, ap, sym, subst, ◌∙◌, inl, inr, arith}
use Rattle.std.proofs.Common.{is_some, is_none}
use Rattle.std.specs.Prelude.{slice_get, slice_set}
use Rattle.std.specs.Int.{int_max}
use Rattle.std.specs.Option.{option_map, option_map_or}
use Rattle.std.specs.List.{Contains, flat_map}
use Rattle.std.proofs.lemmas.Bool.{eqb-true, and_parts}
use Rattle.std.proofs.lemmas.Bool.Decides.{nat_tests}
use Rattle.std.proofs.lemmas.Int.{ints, clamps}
use Rattle.std.proofs.lemmas.List.{append-nil}
use Rattle.std.proofs.lemmas.List.Elements.{Contains-append_cases}
use Rattle.std.proofs.lemmas.Option.{slice_get-map, same_Some}
use Rattle.net_model.specs.Network.{Plan, IsPlan}
use Rattle.net_model.specs.Rules.{is_ordinary, is_labelled, meet, is_negative, joined_weight, no_case, upper_case}
use Rattle.net_model.specs.declared.ids.LinkId.{LinkId}
use Rattle.net_model.specs.declared.ids.PointId.{PointId}
use Rattle.net_model.specs.declared.part.Edge.{Edge}
use Rattle.net_model.proofs.RuleLemmas.{no_case_gives, upper_case_gives}
use Rattle.net_model.proofs.AppliedRuleLemmas.{negative_holds}
use Rattle.reduction_rules.specs.Applies.{joined}
use Rattle.closure_model.specs.Keys.{Key, key_of, edge_of, row_keys}
use Rattle.closure_model.specs.DeltaEdges.{delta_at, AreOfTable, IsSaturatedBut}
use Rattle.closure_model.specs.Least.{weight_at}
use Rattle.closure_model.specs.PrunedRows.{IsThinned, is_live, IsNextLive, IsAllDone, pruned_after}
use Rattle.closure_model.specs.ReferenceRow.{has_above, is_slot_of, given, from_first, edge_in, improved, open_weight, next_slot, consequences, first_slots, reference_row, Making, IsInRow}
use Rattle.closure_model.specs.Tables.{Graph, HasEdge, weight_of, HasAtMost, has_at_most, IsFor, IsGraph}
use Rattle.closure_model.specs.declared.rows.Made.{Made}
use Rattle.closure_model.specs.declared.rows.Slot.{Slot}
use Rattle.closure_model.specs.declared.rows.Why.{Why}
use Rattle.closure_model.specs.declared.rows.Why.TheVariants.{No, Up}
use Rattle.closure_model.proofs.Consequences.{no_case_stands, upper_case_stands}
use Rattle.closure_model.proofs.FirstLeast.{FirstIs, first_least-is}
use Rattle.closure_model.proofs.KeyLists.{row_keys_rise}
use Rattle.closure_model.proofs.KeyPlaces.{only_place}
use Rattle.closure_model.proofs.Lists.{Contains-none, Contains-flat_map_from}
use Rattle.closure_model.proofs.NextSlots.{unimproved_at_first, making_of, under_way, under_marked, next_open, next_weight, progress_after, fewer, low_marked, few_not_less, relaxes_are}
use Rattle.closure_model.proofs.RowRun.{IsUnderWay, under_way_first, under_way_done, next_there}
use Rattle.closure_model.proofs.RowSteps.{unsettled, after_slot}
use Rattle.closure_model.proofs.SettledSlots.{marked, was_marked, open_weight_at}
use Rattle.closure_model.proofs.Slots.{some_of_map, set_same, set_other, key_in, slot_of_key, IsMet}
use Rattle.closure_model.proofs.TableLemmas.{at_most_gives, at_most_tested}
use Rattle.closure_model.proofs.ThinnedLemmas.{given_is}
use Rattle.closure_model.proofs.VainRelaxations.{holds_it}
use Rattle.closure_model.proofs.Weights.{le_then, lt_then, le_then_lt, lt_is_le, le_of_same, between as meeting_weights, not_below, same_weight}
use Rattle.closure_model.proofs.RuleSteps.{joined_not_less}
use Rattle.back_propagation.specs.DeltaRows.{goes_before}
use Rattle.back_propagation.specs.BestKeys.{LeadsTo, IsOutdone, IsSeededWithBest}
use Rattle.back_propagation.proofs.BestRelaxations.{thinned_keeps, IsVain, met_vain, HasPendingWeight, IsDue, IsPendingKey, IsAlike, same, passed, awaits, AreAlike}
use Rattle.back_propagation.proofs.BestRelaxations.{alike_itself, relaxes_alike, IsSpared, alone_all}

-- ---- what follows over an ordinary edge and a negative one
all_true : (a b c d : Bool) → a ≡ true → b ≡ true → c ≡ true → d ≡ true → (a && b && c && d) ≡ true
all_true a b c d one two three four = λ i. one i && two i && three i && four i

no_case_is : (first second : Edge) → is_ordinary first ≡ true → is_ordinary second ≡ true → meet first second ≡ true → is_negative second ≡ true → second.label ≡ None → no_case first second ≡ Some (joined first second)
unfolding no_case
no_case_is first second one two three four none =
    ap (λ (b : Bool). cond b (Some (record { from = first.from; to = second.to; label = None; weight = joined_weight first second })) None)
    (all_true (is_ordinary first) (is_ordinary second) (meet first second) (is_negative second) one two three four)
    ∙ ap (λ (label : Option LinkId). Some (record { from = first.from; to = second.to; label = label; weight = joined_weight first second })) (sym none)

upper_case_is : (first second : Edge) → is_ordinary first ≡ true → is_labelled second ≡ true → meet first second ≡ true → is_negative second ≡ true → upper_case first second ≡ Some (joined first second)
unfolding upper_case
upper_case_is first second one two three four =
    ap (λ (b : Bool). cond b (Some (record { from = first.from; to = second.to; label = second.label; weight = joined_weight first second })) None)
    (all_true (is_ordinary first) (is_labelled second) (meet first second) (is_negative second) one two three four)

candidate_follows : (net : Plan) (table : Graph) → IsGraph table → (first premise : Edge) → HasEdge table first → goes_before first premise ≡ true → premise.weight <ℤ pos 0
    → (made : Made) × Contains (consequences net table premise) made × (made.edge ≡ joined first premise)
candidate_follows net table sound first premise held before below = by premise.label refl
  where
    parts : (is_ordinary first ≡ true) × (meet first premise ≡ true)
    parts = and_parts (is_ordinary first) (meet first premise) before

    by : (label : Option LinkId) → premise.label ≡ label → (made : Made) × Contains (consequences net table premise) made × (made.edge ≡ joined first premise)
    by None none = no_case_stands net table premise sound first (joined first premise) held (no_case_is first premise parts.0 (ap is_none none) parts.1 (negative_holds premise below) none)
    by (Some label) some = upper_case_stands net table premise sound first (joined first premise) held (upper_case_is first premise parts.0 (ap is_some some) parts.1 (negative_holds premise below))

-- what a rule gives with a first premise is the candidate over both
from_first_is : (first premise : Edge) (made : Made) → Contains (from_first premise first) made → (made.edge ≡ joined first premise) × (goes_before first premise ≡ true) × (premise.weight <ℤ pos 0)
from_first_is first premise made inside = by (Contains-append_cases (given (No first premise) (no_case first premise)) (given (Up first premise) (upper_case first premise)) made inside)
  where
    before : first.label ≡ None → first.to ≡ premise.from → goes_before first premise ≡ true
    before none meets =
        let one : is_none first.label ≡ true = ap is_none none in
        let at : first.to.0 ≡ premise.from.0 = ap (λ (p : PointId). p.0) meets in
        let two : first.to.0 == premise.from.0 ≡ true = grind (arith, nat_tests) in λ i. one i && two i

    by : Contains (given (No first premise) (no_case first premise)) made ⊎ Contains (given (Up first premise) (upper_case first premise)) made
        → (made.edge ≡ joined first premise) × (goes_before first premise ≡ true) × (premise.weight <ℤ pos 0)
    by (inl here) =
        let gives = no_case_gives first premise made.edge (given_is (No first premise) (no_case first premise) made here) in
        (sym (ap (λ (label : Option LinkId). record { from = first.from; to = premise.to; label = label; weight = joined_weight first premise }) gives.second_ordinary ∙ gives.is), before gives.first_ordinary gives.meeting, gives.negative)
    by (inr here) =
        let gives = upper_case_gives first premise made.edge (given_is (Up first premise) (upper_case first premise) made here) in
        (sym gives.is, before gives.first_ordinary gives.meeting, gives.negative)

over_less : (first weight recorded : ℤ) → weight ≤ℤ recorded → (int_max first (pos 0) +ℤ weight) ≤ℤ (int_max first (pos 0) +ℤ recorded)
over_less first weight recorded less = grind (arith, ints, clamps)

same_then_lt : (a b c d : ℤ) → a ≡ b → b ≤ℤ c → c ≤ℤ d → d <ℤ a → a <ℤ a
same_then_lt a b c d equal one two below = grind (arith, ints)

same_then : (a b c : ℤ) → a ≡ b → b ≤ℤ c → a ≤ℤ c
same_then a b c equal less = grind (arith, ints)

-- ---- the two rows side by side
module _ (net : Plan) (table : Graph) (to : PointId) (delta : List (List Edge)) (begins : ℕ → Bool) (plan : IsPlan net) (fits : IsFor net table) (sound : IsGraph table) (of_table : AreOfTable table delta)
    (met : IsSaturatedBut net table to delta) (best : IsSeededWithBest table to delta begins) where
  -- ---- a slot that is not live
  not_live : (place : ℕ) (slot : Slot) → is_live begins place slot ≡ false → (slot.why ≡ None) × (begins place ≡ false)
  not_live place slot is = by slot.why refl is
    where
      by : (o : Option Why) → slot.why ≡ o → is_some o || begins place ≡ false → (slot.why ≡ None) × (begins place ≡ false)
      by None absent is' = (absent, is')
      by (Some why) some is' = absurd cc

  -- the row has these slots and this list of what improved: a reference row that is under way has the same but for slots passed over, and others for which less is pending
  pub record IsPruned (slots : List Slot) (made : List Made) : Type 0 where
    pub making : Making
    pub progress : IsUnderWay net table to making
    pub alike : AreAlike table to delta begins making.slots [] slots
    pub improved_same : making.made ≡ made

  pub pruned_first : IsPruned (first_slots table to) []
  pruned_first = record { making = record { slots = first_slots table to; made = [] }; progress = under_way_first net table to; alike = alike_itself table to delta begins (first_slots table to); improved_same = refl }

  -- ---- the places of a row under way are those of the table
  record IsAtStart (place : ℕ) (slot start : Slot) : Type 0 where
    key : key_in to slot ≡ key_in to start
    recorded : start.weight ≡ weight_of table (key_in to slot)

  at_start : (making : Making) → IsUnderWay net table to making → (place : ℕ) (slot start : Slot) → slice_get making.slots place ≡ Some slot → slice_get (first_slots table to) place ≡ Some start → IsAtStart place slot start
  at_start making progress place slot start here found =
      let row = (making_of net table to plan fits sound making progress).partly.row in
      let start_row = (making_of net table to plan fits sound (record { slots = first_slots table to; made = [] }) (under_way_first net table to)).partly.row in
      let one : slice_get (row_keys table.shape to) place ≡ Some (key_in to slot) = ap (λ (ks : List Key). slice_get ks place) (sym row.keys) ∙ (slice_get-map (key_in to) making.slots place ∙ ap (option_map (key_in to)) here) in
      let two : slice_get (row_keys table.shape to) place ≡ Some (key_in to start) = ap (λ (ks : List Key). slice_get ks place) (sym start_row.keys)
      ∙ (slice_get-map (key_in to) (first_slots table to) place ∙ ap (option_map (key_in to)) found) in
      let key : key_in to slot ≡ key_in to start = same_Some (key_in to slot) (key_in to start) (sym one ∙ two) in
      let none : start.why ≡ None = unimproved_at_first table (row_keys table.shape to) place start found in
      record { key = key; recorded = start_row.unimproved place start found none ∙ ap (weight_of table) (sym key) }

  -- the slot under way at a place of the table
  slot_under_way : (making : Making) → IsUnderWay net table to making → (place : ℕ) (start : Slot) → slice_get (first_slots table to) place ≡ Some start → (slot : Slot) × (slice_get making.slots place ≡ Some slot)
  slot_under_way making progress place start found =
      let row = (making_of net table to plan fits sound making progress).partly.row in
      let start_row = (making_of net table to plan fits sound (record { slots = first_slots table to; made = [] }) (under_way_first net table to)).partly.row in
      let same : map (key_in to) making.slots ≡ map (key_in to) (first_slots table to) = row.keys ∙ sym start_row.keys in
      let at : slice_get (map (key_in to) making.slots) place ≡ Some (key_in to start) = ap (λ (ks : List Key). slice_get ks place) same ∙ (slice_get-map (key_in to) (first_slots table to) place ∙ ap (option_map (key_in to)) found) in
      let (slot, there, key) = some_of_map (key_in to) (slice_get making.slots place) (key_in to start) (sym (slice_get-map (key_in to) making.slots place) ∙ at) in
      (slot, there)

  -- a slot under way weighs no more than the table has
  recorded_under : (making : Making) → IsUnderWay net table to making → (place : ℕ) (slot start : Slot) (recorded : ℤ) → slice_get making.slots place ≡ Some slot → slice_get (first_slots table to) place ≡ Some start
      → start.weight ≡ Some recorded → (weight : ℤ) × (slot.weight ≡ Some weight) × (weight ≤ℤ recorded)
  recorded_under making progress place slot start recorded here found has = under_way net table to plan fits sound making progress place slot recorded here (sym (at_start making progress place slot start here found).recorded ∙ has)

  -- the candidate of a slot at its weight
  module _ (making : Making) (progress : IsUnderWay net table to making) (place : ℕ) (slot : Slot) (weight recorded : ℤ) (from : PointId) (label : Option LinkId) (reached : ℤ) (here : slice_get making.slots place ≡ Some slot)
      (has : slot.weight ≡ Some weight) (leads : LeadsTo table to delta place recorded from label reached) where
    start_key : key_in to slot ≡ key_in to leads.slot
    start_key = (at_start making progress place slot leads.slot here leads.here).key

    start_less : weight ≤ℤ recorded
    start_less =
        let (held, had, less) = recorded_under making progress place slot leads.slot recorded here leads.here leads.has in
        subst (λ (w : ℤ). w ≤ℤ recorded) (same_weight held weight (sym had ∙ has)) less

    candidate_below : weight <ℤ pos 0
    candidate_below = le_then_lt weight recorded (pos 0) start_less leads.negative

    candidate_before : goes_before leads.first (edge_in to slot weight) ≡ true
    candidate_before = ap (λ (k : Key). is_ordinary leads.first && (leads.first.to.0 == k.from.0)) start_key ∙ leads.before

    record IsThere-candidate : Type 0 where
      made : Made
      inside : Contains (consequences net table (edge_in to slot weight)) made
      from_is : made.edge.from ≡ from
      label_is : made.edge.label ≡ label
      ends : made.edge.to ≡ to
      not_more : made.edge.weight ≤ℤ reached

    candidate_there : IsThere-candidate
    candidate_there =
        let held : HasEdge table leads.first = of_table leads.slot.from leads.first leads.is_delta in
        let (made, inside, is) = candidate_follows net table sound leads.first (edge_in to slot weight) held candidate_before candidate_below in
        record {
          made = made;
          inside = inside;
          from_is = ap (λ (e : Edge). e.from) is ∙ leads.from_is;
          label_is = ap (λ (e : Edge). e.label) is ∙ (ap (λ (k : Key). k.label) start_key ∙ leads.label_is);
          ends = ap (λ (e : Edge). e.to) is;
          not_more =
              same_then made.edge.weight (joined_weight leads.first (edge_in to slot weight)) reached (ap (λ (e : Edge). e.weight) is)
              (subst (λ (w : ℤ). (int_max leads.first.weight (pos 0) +ℤ weight) ≤ℤ w) (sym leads.total_is) (over_less leads.first.weight weight recorded start_less));
        }

    -- it leads to no less than it weighs
    candidate_not_less : weight ≤ℤ reached
    candidate_not_less =
        le_then weight recorded reached start_less (subst (λ (w : ℤ). recorded ≤ℤ w) (sym leads.total_is) (joined_not_less leads.first.weight recorded))

  -- ---- one slot of the reference row is settled
  module _ (making : Making) (progress : IsUnderWay net table to making) (slots : List Slot) (alike : AreAlike table to delta begins making.slots [] slots) (place : ℕ) (weight : ℤ) (some : next_slot making.slots ≡ Some (place, weight))
      (slot : Slot) (here : slice_get making.slots place ≡ Some slot) where
    is_open : slot.settled ≡ false
    is_open = next_open net table to plan fits sound making progress place weight some slot here

    has_weight : slot.weight ≡ Some weight
    has_weight = next_weight net table to plan fits sound making progress place weight some slot here

    next_first : FirstIs open_weight making.slots (Some (place, weight))
    next_first = subst (FirstIs open_weight making.slots) some (first_least-is open_weight making.slots)

    -- an open slot is not settled before it
    no_lesser : (other : ℕ) (one : Slot) (w : ℤ) → slice_get making.slots other ≡ Some one → one.settled ≡ false → one.weight ≡ Some w → weight ≤ℤ w
    no_lesser other one w at open_one has = next_first.least other w (open_weight_at making.slots other one w at open_one has)

    -- a slot for which less is pending is not next
    no_pending_key : (other : Slot) → IsPendingKey table to delta begins making.slots [] slot other → ⊥
    no_pending_key other await = by await.coming
      where
        by : HasPendingWeight table to delta begins making.slots slot.from slot.label await.weight ⊎ IsDue table to delta begins [] slot.from slot.label await.weight → ⊥
        by (inr due) = Contains-none due.made due.inside
        by (inl pending) =
            let (held, had, less) = recorded_under making progress pending.place pending.slot pending.leads.slot pending.recorded pending.here pending.leads.here pending.leads.has in
            let first : weight ≤ℤ held = no_lesser pending.place pending.slot held pending.here pending.is_open had in
            let over : held ≤ℤ pending.reached = candidate_not_less making progress pending.place pending.slot held pending.recorded slot.from slot.label pending.reached pending.here had pending.leads in
            let mine : await.weight ≡ weight = same_weight await.weight weight (sym await.has ∙ has_weight) in
            not_below pending.reached pending.reached refl (lt_then pending.reached await.weight pending.reached pending.less (same_then await.weight weight pending.reached mine (le_then weight held pending.reached first over)))

    -- it is the same in the pruned row
    next_same : (other : Slot) → slice_get slots place ≡ Some other → slot ≡ other
    next_same other at = let (pruned, found, is) = alike.there place slot here in by pruned is ∙ same_Some pruned other (sym found ∙ at)
      where
        by : (pruned : Slot) → IsAlike table to delta begins making.slots [] place slot pruned → slot ≡ pruned
        by pruned (same is) = is
        by pruned (passed is open_slot dead w has) = let settled : slot.settled ≡ true = ap (λ (s : Slot). s.settled) is in let not = is_open in absurd cc
        by pruned (awaits await) = absurd (no_pending_key pruned await)

    next_there_too : slice_get slots place ≡ Some slot
    next_there_too = let (pruned, found, is) = alike.there place slot here in found ∙ ap Some (sym (next_same pruned found))

    -- ---- promises, when it is marked
    pending_marked : (from : PointId) (label : Option LinkId) (w : ℤ) (pending : HasPendingWeight table to delta begins making.slots from label w) → pending.place ≢ place
        → HasPendingWeight table to delta begins (slice_set making.slots place (marked slot)) from label w
    pending_marked from label w pending apart = record {
      place = pending.place;
      slot = pending.slot;
      here = set_other making.slots place pending.place (marked slot) apart ∙ pending.here;
      is_open = pending.is_open;
      begins_there = pending.begins_there;
      recorded = pending.recorded;
      reached = pending.reached;
      leads = pending.leads;
      less = pending.less;
    }

    -- ---- it is not live: it is passed over
    module _ (dead : is_live begins place slot ≡ false) where
      absent : (slot.why ≡ None) × (begins place ≡ false)
      absent = not_live place slot dead

      begins_elsewhere : (other : ℕ) → begins other ≡ true → other ≢ place
      begins_elsewhere other seeded equal = let both : begins place ≡ true = ap begins (sym equal) ∙ seeded in let not = absent.1 in absurd cc

      had : HasEdge table (edge_in to slot weight)
      had = sym ((making_of net table to plan fits sound making progress).partly.row.unimproved place slot here absent.0) ∙ has_weight

      -- what follows with delta edges before it
      abbrev follows : List Made
      follows = flat_map (from_first (edge_in to slot weight)) (delta_at delta slot.from)

      thin : IsThinned table (consequences net table (edge_in to slot weight)) follows
      thin = met (edge_in to slot weight) had refl

      -- a candidate of it that is below what the table has
      module _ (made : Made) (first : Edge) (is_delta : Contains (delta_at delta slot.from) first) (is : made.edge ≡ joined first (edge_in to slot weight)) (before : goes_before first (edge_in to slot weight) ≡ true)
          (below : weight <ℤ pos 0) where
        leads : LeadsTo table to delta place weight made.edge.from made.edge.label made.edge.weight
        leads =
            let key = row_key in record {
              slot = (start_there).0;
              here = (start_there).1;
              has = (at_start making progress place slot (start_there).0 here (start_there).1).recorded ∙ had;
              negative = below;
              first = first;
              is_delta = subst (λ (k : Key). Contains (delta_at delta k.from) first) key is_delta;
              before = subst (λ (k : Key). goes_before first (edge_of k weight) ≡ true) key before;
              from_is = ap (λ (e : Edge). e.from) (sym is);
              label_is = ap (λ (k : Key). k.label) (sym key) ∙ ap (λ (e : Edge). e.label) (sym is);
              total_is = ap (λ (e : Edge). e.weight) is;
            }
          where
            start_there : (start : Slot) × (slice_get (first_slots table to) place ≡ Some start)
            start_there =
                let row = (making_of net table to plan fits sound making progress).partly.row in
                let start_row = (making_of net table to plan fits sound (record { slots = first_slots table to; made = [] }) (under_way_first net table to)).partly.row in
                let same' : map (key_in to) making.slots ≡ map (key_in to) (first_slots table to) = row.keys ∙ sym start_row.keys in
                let at : slice_get (map (key_in to) (first_slots table to)) place ≡ Some (key_in to slot) = ap (λ (ks : List Key). slice_get ks place) (sym same')
                ∙ (slice_get-map (key_in to) making.slots place ∙ ap (option_map (key_in to)) here) in
                let (start, found, key) = some_of_map (key_in to) (slice_get (first_slots table to) place) (key_in to slot) (sym (slice_get-map (key_in to) (first_slots table to) place) ∙ at) in
                (start, found)

            row_key : key_in to slot ≡ key_in to (start_there).0
            row_key = (at_start making progress place slot (start_there).0 here (start_there).1).key

        -- another candidate that is not worse is to come, or was relaxed
        outdone : IsOutdone table to delta begins place weight made.edge.from made.edge.label made.edge.weight → IsSpared table to delta begins (slice_set making.slots place (marked slot)) made
        outdone other = let (one, at) = slot_under_way making progress other.other other.leads.slot other.leads.here in by one at one.settled refl
          where
            apart : other.other ≢ place
            apart = begins_elsewhere other.other other.begins_there

            -- it was settled: the slot of the key took it, or had less
            relaxed_before : (one : Slot) → slice_get making.slots other.other ≡ Some one → one.settled ≡ true → IsVain table to (slice_set making.slots place (marked slot)) made
            relaxed_before one at settled =
                let (held, has) = (making_of net table to plan fits sound making progress).partly.has other.other one at settled in
                let candidate' = candidate_there making progress other.other one held other.recorded made.edge.from made.edge.label other.reached at has other.leads in
                let closed : IsMet to making.slots candidate'.made.edge = (making_of net table to plan fits sound making progress).partly.closed other.other one held at settled has candidate'.made candidate'.inside in
                λ k after there of. vain candidate'.made closed candidate'.from_is candidate'.label_is candidate'.ends (le_then candidate'.made.edge.weight other.reached made.edge.weight candidate'.not_more no_more) k after there of
              where
                no_more : other.reached ≤ℤ made.edge.weight
                no_more = less other.no_worse
                  where
                    less : (other.reached <ℤ made.edge.weight) ⊎ ((other.reached ≡ made.edge.weight) × ((other.recorded <ℤ weight) ⊎ ((other.recorded ≡ weight) × (other.other ≤ place)))) → other.reached ≤ℤ made.edge.weight
                    less (inl lower) = lt_is_le other.reached made.edge.weight lower
                    less (inr (equal, earlier)) = le_of_same other.reached made.edge.weight equal

                vain : (candidate'' : Made) → IsMet to making.slots candidate''.edge → candidate''.edge.from ≡ made.edge.from → candidate''.edge.label ≡ made.edge.label → candidate''.edge.to ≡ to
                    → candidate''.edge.weight ≤ℤ made.edge.weight → (k : ℕ) (after : Slot) → slice_get (slice_set making.slots place (marked slot)) k ≡ Some after → is_slot_of made.edge after ≡ true
                    → has_above after made.edge.weight ≡ false
                vain candidate'' closed' from label ends lower k after there of = by (was_marked making.slots place slot here k after there)
                  where
                    key : key_in to after ≡ key_of candidate''.edge
                    key = slot_of_key to made.edge after (ap (λ (e : Edge). e.to) is) of ∙ (λ i. record { to = (ap (λ (e : Edge). e.to) is ∙ sym ends) i; from = sym from i; label = sym label i })

                    -- the slot of the key in the row under way
                    held : (one : Slot) → slice_get making.slots k ≡ Some one → key_in to one ≡ key_in to after → one.weight ≡ after.weight → has_above after made.edge.weight ≡ false
                    held one at key' weights =
                        let keys = (making_of net table to plan fits sound making progress).partly.row.keys in
                        let first_at : slice_get (row_keys table.shape to) k ≡ Some (key_of candidate''.edge) = ap (λ (ks : List Key). slice_get ks k) (sym keys)
                        ∙ (slice_get-map (key_in to) making.slots k ∙ (ap (option_map (key_in to)) at ∙ ap Some (key' ∙ key))) in
                        let second_at : slice_get (row_keys table.shape to) closed'.place ≡ Some (key_of candidate''.edge) = ap (λ (ks : List Key). slice_get ks closed'.place) (sym keys)
                        ∙ (slice_get-map (key_in to) making.slots closed'.place ∙ (ap (option_map (key_in to)) closed'.here ∙ ap Some closed'.of_key)) in
                        let equal : k ≡ closed'.place = only_place (row_keys table.shape to) (row_keys_rise table.shape to) k closed'.place (key_of candidate''.edge) first_at second_at in
                        let one_is : closed'.slot ≡ one = same_Some closed'.slot one (sym closed'.here ∙ (ap (slice_get making.slots) (sym equal) ∙ at)) in
                        holds_it after made.edge.weight closed'.weight (sym weights ∙ (ap (λ (s : Slot). s.weight) (sym one_is) ∙ closed'.has)) (le_then closed'.weight candidate''.edge.weight made.edge.weight closed'.less lower)

                    by : ((k ≡ place) × (marked slot ≡ after)) ⊎ ((k ≢ place) × (slice_get making.slots k ≡ Some after)) → has_above after made.edge.weight ≡ false
                    by (inl (equal, is')) = held slot (ap (slice_get making.slots) equal ∙ here) (ap (key_in to) is') (ap (λ (s : Slot). s.weight) is')
                    by (inr (apart', old)) = held after old refl refl

            -- it is open: it is settled later, so that it leads to less
            is_less : (one : Slot) → slice_get making.slots other.other ≡ Some one → one.settled ≡ false → other.reached <ℤ made.edge.weight
            is_less one at open_one = less other.no_worse
              where
                recorded_is : (held : ℤ) × (one.weight ≡ Some held) × (held ≤ℤ other.recorded)
                recorded_is = recorded_under making progress other.other one other.leads.slot other.recorded at other.leads.here other.leads.has

                first_there : weight ≤ℤ (recorded_is).0
                first_there = no_lesser other.other one (recorded_is).0 at open_one (recorded_is).1

                less : (other.reached <ℤ made.edge.weight) ⊎ ((other.reached ≡ made.edge.weight) × ((other.recorded <ℤ weight) ⊎ ((other.recorded ≡ weight) × (other.other ≤ place)))) → other.reached <ℤ made.edge.weight
                less (inl lower) = lower
                less (inr (equal, inl earlier)) = absurd (not_below other.recorded other.recorded refl (lt_then other.recorded weight other.recorded earlier (le_then weight (recorded_is).0 other.recorded first_there (recorded_is).2)))
                less (inr (equal, inr (same_recorded, before'))) =
                    let place_before : other.other < place = (let not = apart in omega arith) in
                    let lower : weight <ℤ (recorded_is).0 = next_first.first other.other (recorded_is).0 (open_weight_at making.slots other.other one (recorded_is).0 at open_one (recorded_is).1) place_before in
                    absurd (not_below weight weight refl (lt_then weight (recorded_is).0 weight lower (subst (λ (w : ℤ). (recorded_is).0 ≤ℤ w) same_recorded (recorded_is).2)))

            by : (one : Slot) → slice_get making.slots other.other ≡ Some one → (b : Bool) → one.settled ≡ b → IsSpared table to delta begins (slice_set making.slots place (marked slot)) made
            by one at true settled = inl (relaxed_before one at settled)
            by one at false open_one = inr (pending_marked made.edge.from made.edge.label made.edge.weight (record {
              place = other.other;
              slot = one;
              here = at;
              is_open = open_one;
              begins_there = other.begins_there;
              recorded = other.recorded;
              reached = other.reached;
              leads = other.leads;
              less = is_less one at open_one;
            }) apart)

        spared : IsSpared table to delta begins (slice_set making.slots place (marked slot)) made
        spared = by (has_at_most table (record { from = made.edge.from; to = to; label = made.edge.label; weight = made.edge.weight })) refl
          where
            edge_is : record { from = made.edge.from; to = to; label = made.edge.label; weight = made.edge.weight } ≡ made.edge
            edge_is = λ i. record { from = made.edge.from; to = ap (λ (e : Edge). e.to) (sym is) i; label = made.edge.label; weight = made.edge.weight }

            by : (b : Bool) → has_at_most table (record { from = made.edge.from; to = to; label = made.edge.label; weight = made.edge.weight }) ≡ b → IsSpared table to delta begins (slice_set making.slots place (marked slot)) made
            by true held =
                inl (met_vain table to (slice_set making.slots place (marked slot)) made (under_marked net table to plan fits sound making.slots place slot here (under_way net table to plan fits sound making progress)) (ap (λ (e : Edge). e.to) is)
                (subst (HasAtMost table) edge_is (at_most_tested table (record { from = made.edge.from; to = to; label = made.edge.label; weight = made.edge.weight }) held)))
            by false below_it = outdone (best place weight made.edge.from made.edge.label made.edge.weight leads below_it)

      all_spared : (made : Made) → Contains follows made → (weight ≤ℤ made.edge.weight) × (made.edge.to ≡ to) × IsSpared table to delta begins (slice_set making.slots place (marked slot)) made
      all_spared made inside =
          let (first, at, is_from) = Contains-flat_map_from (from_first (edge_in to slot weight)) (delta_at delta slot.from) made inside in
          let (is, before, below) = from_first_is first (edge_in to slot weight) made is_from in
          (few_not_less net table to plan fits sound making progress place weight some slot here follows thin made inside, ap (λ (e : Edge). e.to) is, spared made first at is before below)

      marked_alike : AreAlike table to delta begins (slice_set making.slots place (marked slot)) [] slots
      marked_alike = record { there = there; back = back }
        where
          moved : (other : ℕ) (one pruned : Slot) → IsAlike table to delta begins making.slots [] other one pruned → IsAlike table to delta begins (slice_set making.slots place (marked slot)) [] other one pruned
          moved other one pruned (same is) = same is
          moved other one pruned (passed is open_slot dead' w has) = passed is open_slot dead' w has
          moved other one pruned (awaits await) = awaits (record {
            open_one = await.open_one;
            open_other = await.open_other;
            from_is = await.from_is;
            label_is = await.label_is;
            weight = await.weight;
            has = await.has;
            not_less = await.not_less;
            coming = still await.coming;
          })
            where
              still : HasPendingWeight table to delta begins making.slots one.from one.label await.weight ⊎ IsDue table to delta begins [] one.from one.label await.weight
                  → HasPendingWeight table to delta begins (slice_set making.slots place (marked slot)) one.from one.label await.weight ⊎ IsDue table to delta begins [] one.from one.label await.weight
              still (inl pending) = inl (pending_marked one.from one.label await.weight pending (begins_elsewhere pending.place pending.begins_there))
              still (inr due) = inr due

          mine : (other : Slot) → slice_get slots place ≡ Some other → IsAlike table to delta begins (slice_set making.slots place (marked slot)) [] place (marked slot) other
          mine other at =
              let is = next_same other at in
              passed (ap marked is) (ap (λ (s : Slot). s.settled) (sym is) ∙ is_open) (ap (is_live begins place) (sym is) ∙ dead) weight (ap (λ (s : Slot). s.weight) (sym is) ∙ has_weight)

          there : (other : ℕ) (after : Slot) → slice_get (slice_set making.slots place (marked slot)) other ≡ Some after
              → (pruned : Slot) × (slice_get slots other ≡ Some pruned) × IsAlike table to delta begins (slice_set making.slots place (marked slot)) [] other after pruned
          there other after at = by (was_marked making.slots place slot here other after at)
            where
              by : ((other ≡ place) × (marked slot ≡ after)) ⊎ ((other ≢ place) × (slice_get making.slots other ≡ Some after))
                  → (pruned : Slot) × (slice_get slots other ≡ Some pruned) × IsAlike table to delta begins (slice_set making.slots place (marked slot)) [] other after pruned
              by (inl (equal, is)) = (
                slot,
                ap (slice_get slots) equal ∙ next_there_too,
                subst (λ (k : ℕ). IsAlike table to delta begins (slice_set making.slots place (marked slot)) [] k after slot) (sym equal)
                    (subst (λ (s : Slot). IsAlike table to delta begins (slice_set making.slots place (marked slot)) [] place s slot) is (mine slot next_there_too)),
              )
              by (inr (apart, old)) = let (pruned, found, was) = alike.there other after old in (pruned, found, moved other after pruned was)

          back : (other : ℕ) (pruned : Slot) → slice_get slots other ≡ Some pruned → (one : Slot) × (slice_get (slice_set making.slots place (marked slot)) other ≡ Some one)
              × IsAlike table to delta begins (slice_set making.slots place (marked slot)) [] other one pruned
          back other pruned at = by (other == place) refl
            where
              by : (b : Bool) → (other == place) ≡ b → (one : Slot) × (slice_get (slice_set making.slots place (marked slot)) other ≡ Some one) × IsAlike table to delta begins (slice_set making.slots place (marked slot)) [] other one pruned
              by true is =
                  let equal : other ≡ place = eqb-true other place is in
                  let pruned_at : slice_get slots place ≡ Some pruned = ap (slice_get slots) (sym equal) ∙ at in (
                    marked slot,
                    ap (slice_get (slice_set making.slots place (marked slot))) equal ∙ set_same making.slots place slot (marked slot) here,
                    subst (λ (k : ℕ). IsAlike table to delta begins (slice_set making.slots place (marked slot)) [] k (marked slot) pruned) (sym equal) (mine pruned pruned_at),
                  )
              by false is =
                  let apart : other ≢ place = λ equal. (let test : (other == place) ≡ true = rw equal (grind (arith, nat_tests)) in absurd cc) in
                  let (one, old, was) = alike.back other pruned at in
                  (one, set_other making.slots place other (marked slot) apart ∙ old, moved other one pruned was)

      passed_over : (AreAlike table to delta begins (after_slot net table to making (place, weight) slot).slots [] slots) × ((after_slot net table to making (place, weight) slot).made ≡ making.made)
      passed_over =
          let nothing : improved to slot weight ≡ [] = ap (λ (o : Option Why). option_map_or (λ why. record { edge = edge_in to slot weight; why = why } ∷ []) o []) absent.0 in (
            subst (λ (list : List Slot). AreAlike table to delta begins list [] slots) (sym (relaxes_are net table to plan fits sound making progress place weight some slot here follows thin))
                (alone_all table to delta begins weight follows (slice_set making.slots place (marked slot)) slots all_spared (low_marked net table to plan fits sound making progress place weight some slot here) marked_alike),
            ap (λ (l : List Made). making.made ++ l) nothing ∙ append-nil making.made,
          )

    -- ---- it is live: it is settled in both
    module _ (few : List Made) (thin : IsThinned table (consequences net table (edge_in to slot weight)) few) where
      -- a promise of it is due
      pending_due : (other : ℕ) (one : Slot) (w : ℤ) → slice_get making.slots other ≡ Some one → one.weight ≡ Some w → (pending : HasPendingWeight table to delta begins making.slots one.from one.label w) → pending.place ≡ place
          → IsDue table to delta begins few one.from one.label w
      pending_due other one w at has pending equal =
          let mine : pending.slot ≡ slot = same_Some pending.slot slot (sym pending.here ∙ (ap (slice_get making.slots) equal ∙ here)) in
          let leads' = subst (λ (k : ℕ). LeadsTo table to delta k pending.recorded one.from one.label pending.reached) equal pending.leads in
          let candidate' = candidate_there making progress place slot weight pending.recorded one.from one.label pending.reached here has_weight leads' in
          let lower : candidate'.made.edge.weight <ℤ w = le_then_lt candidate'.made.edge.weight pending.reached w candidate'.not_more pending.less in
          record {
            made = candidate'.made;
            inside = thinned_keeps table to (consequences net table (edge_in to slot weight)) few thin candidate'.made (unsaturated candidate'.made candidate'.from_is candidate'.label_is candidate'.ends lower) candidate'.inside;
            from_is = candidate'.from_is;
            label_is = candidate'.label_is;
            less = lower;
          }
        where
          unsaturated : (made : Made) → made.edge.from ≡ one.from → made.edge.label ≡ one.label → made.edge.to ≡ to → made.edge.weight <ℤ w → HasAtMost table made.edge → ⊥
          unsaturated made from label ends lower held =
              let (old, recorded, less) = at_most_gives table made.edge held in
              let key : key_in to one ≡ key_of made.edge = λ i. record { to = sym ends i; from = sym from i; label = sym label i } in
              let (weight', had, under) = under_way net table to plan fits sound making progress other one old at (ap (weight_of table) key ∙ recorded) in
              let same_w : weight' ≡ w = same_weight weight' w (sym had ∙ has) in
              not_below w w refl (same_then_lt w weight' old made.edge.weight (sym same_w) under less lower)

      moved_due : (other : ℕ) (one pruned : Slot) → slice_get making.slots other ≡ Some one → IsAlike table to delta begins making.slots [] other one pruned
          → IsAlike table to delta begins (slice_set making.slots place (marked slot)) few other one pruned
      moved_due other one pruned at (same is) = same is
      moved_due other one pruned at (passed is open_slot dead w has) = passed is open_slot dead w has
      moved_due other one pruned at (awaits await) = awaits (record {
        open_one = await.open_one;
        open_other = await.open_other;
        from_is = await.from_is;
        label_is = await.label_is;
        weight = await.weight;
        has = await.has;
        not_less = await.not_less;
        coming = still await.coming;
      })
        where
          apart_or : (pending : HasPendingWeight table to delta begins making.slots one.from one.label await.weight) (b : Bool) → (pending.place == place) ≡ b
              → HasPendingWeight table to delta begins (slice_set making.slots place (marked slot)) one.from one.label await.weight ⊎ IsDue table to delta begins few one.from one.label await.weight
          apart_or pending true is = inr (pending_due other one await.weight at await.has pending (eqb-true pending.place place is))
          apart_or pending false is = inl (pending_marked one.from one.label await.weight pending (λ equal. (let test : (pending.place == place) ≡ true = rw equal (grind (arith, nat_tests)) in absurd cc)))

          still : HasPendingWeight table to delta begins making.slots one.from one.label await.weight ⊎ IsDue table to delta begins [] one.from one.label await.weight
              → HasPendingWeight table to delta begins (slice_set making.slots place (marked slot)) one.from one.label await.weight ⊎ IsDue table to delta begins few one.from one.label await.weight
          still (inl pending) = apart_or pending (pending.place == place) refl
          still (inr due) = absurd (Contains-none due.made due.inside)

      both_marked : slice_get slots place ≡ Some slot → AreAlike table to delta begins (slice_set making.slots place (marked slot)) few (slice_set slots place (marked slot))
      both_marked at = record { there = there; back = back }
        where
          there : (other : ℕ) (after : Slot) → slice_get (slice_set making.slots place (marked slot)) other ≡ Some after → (pruned : Slot) × (slice_get (slice_set slots place (marked slot)) other ≡ Some pruned)
              × IsAlike table to delta begins (slice_set making.slots place (marked slot)) few other after pruned
          there other after found = by (was_marked making.slots place slot here other after found)
            where
              by : ((other ≡ place) × (marked slot ≡ after)) ⊎ ((other ≢ place) × (slice_get making.slots other ≡ Some after)) → (pruned : Slot) × (slice_get (slice_set slots place (marked slot)) other ≡ Some pruned)
                  × IsAlike table to delta begins (slice_set making.slots place (marked slot)) few other after pruned
              by (inl (equal, is)) = (marked slot, ap (slice_get (slice_set slots place (marked slot))) equal ∙ set_same slots place slot (marked slot) at, same (sym is))
              by (inr (apart, old)) = let (pruned, there', was) = alike.there other after old in (pruned, set_other slots place other (marked slot) apart ∙ there', moved_due other after pruned old was)

          back : (other : ℕ) (pruned : Slot) → slice_get (slice_set slots place (marked slot)) other ≡ Some pruned → (one : Slot) × (slice_get (slice_set making.slots place (marked slot)) other ≡ Some one)
              × IsAlike table to delta begins (slice_set making.slots place (marked slot)) few other one pruned
          back other pruned found = by (was_marked slots place slot at other pruned found)
            where
              by : ((other ≡ place) × (marked slot ≡ pruned)) ⊎ ((other ≢ place) × (slice_get slots other ≡ Some pruned)) → (one : Slot) × (slice_get (slice_set making.slots place (marked slot)) other ≡ Some one)
                  × IsAlike table to delta begins (slice_set making.slots place (marked slot)) few other one pruned
              by (inl (equal, is)) = (marked slot, ap (slice_get (slice_set making.slots place (marked slot))) equal ∙ set_same making.slots place slot (marked slot) here, same is)
              by (inr (apart, old)) = let (one, there', was) = alike.back other pruned old in (one, set_other making.slots place other (marked slot) apart ∙ there', moved_due other one pruned there' was)

      settled_both : slice_get slots place ≡ Some slot → AreAlike table to delta begins (after_slot net table to making (place, weight) slot).slots [] (pruned_after slots place slot few)
      settled_both at =
          subst (λ (list : List Slot). AreAlike table to delta begins list [] (pruned_after slots place slot few)) (sym (relaxes_are net table to plan fits sound making progress place weight some slot here few thin))
          (relaxes_alike table to delta begins weight few (slice_set making.slots place (marked slot)) (slice_set slots place (marked slot)) (few_not_less net table to plan fits sound making progress place weight some slot here few thin) (low_marked net table to plan fits sound making progress place weight some slot here) (both_marked at))

  -- ---- what is next in the pruned row is next in the reference row, when what is not live was passed over
  record IsCaughtUp (slots : List Slot) (made : List Made) : Type 0 where
    pruned : IsPruned slots made
    up : (place : ℕ) (weight : ℤ) (slot : Slot) → next_slot pruned.making.slots ≡ Some (place, weight) → slice_get pruned.making.slots place ≡ Some slot → is_live begins place slot ≡ true

  module _ (slots : List Slot) (made : List Made) (pruned : IsPruned slots made) where
    caught : (place : ℕ) (weight : ℤ) → next_slot pruned.making.slots ≡ Some (place, weight) → (slot : Slot) → slice_get pruned.making.slots place ≡ Some slot → is_live begins place slot ≡ true → IsCaughtUp slots made
    caught place weight some slot here live = record {
      pruned = pruned;
      up = λ p w s is at.
          let equal : (place, weight) ≡ (p, w) = same_Some (place, weight) (p, w) (sym some ∙ is) in
          let place_is : place ≡ p = ap (λ (q : ℕ × ℤ). q.0) equal in
          let slot_is : slot ≡ s = same_Some slot s (sym here ∙ (ap (slice_get pruned.making.slots) place_is ∙ at)) in
          subst (λ (k : ℕ). is_live begins k s ≡ true) place_is (subst (λ (x : Slot). is_live begins place x ≡ true) slot_is live);
    }

    one_passed : (place : ℕ) (weight : ℤ) → next_slot pruned.making.slots ≡ Some (place, weight) → (slot : Slot) → slice_get pruned.making.slots place ≡ Some slot → is_live begins place slot ≡ false
        → (later : IsPruned slots made) × (unsettled later.making.slots < unsettled pruned.making.slots)
    one_passed place weight some slot here dead =
        let (alike, same_made) = passed_over pruned.making pruned.progress slots pruned.alike place weight some slot here dead in
        let less = fewer net table to plan fits sound pruned.making pruned.progress place weight some slot here in (
          record {
            making = after_slot net table to pruned.making (place, weight) slot;
            progress = progress_after net table to plan fits sound pruned.making pruned.progress place weight some slot here;
            alike = alike;
            improved_same = same_made ∙ pruned.improved_same;
          },
          less,
        )

    catch_from : ((later : IsPruned slots made) → unsettled later.making.slots < unsettled pruned.making.slots → IsCaughtUp slots made) → (o : Option (ℕ × ℤ)) → next_slot pruned.making.slots ≡ o → IsCaughtUp slots made
    catch_from again None end = record { pruned = pruned; up = λ p w s is at. absurd cc }
    catch_from again (Some (place, weight)) some = let there = next_there net table to pruned.making (place, weight) some in by there.slot there.here (is_live begins place there.slot) refl
      where
        by : (slot : Slot) → slice_get pruned.making.slots place ≡ Some slot → (b : Bool) → is_live begins place slot ≡ b → IsCaughtUp slots made
        by slot here true live = caught place weight some slot here live
        by slot here false dead = let (later, less) = one_passed place weight some slot here dead in again later less

  catch_up : (count : ℕ) (slots : List Slot) (made : List Made) (pruned : IsPruned slots made) → unsettled pruned.making.slots ≤ count → IsCaughtUp slots made
  catch_up zero slots made pruned enough = catch_from slots made pruned (λ later less. absurd (omega arith)) (next_slot pruned.making.slots) refl
  catch_up (suc count) slots made pruned enough = catch_from slots made pruned (λ later less. catch_up count slots made later (omega arith)) (next_slot pruned.making.slots) refl

  caught_up : (slots : List Slot) (made : List Made) → IsPruned slots made → IsCaughtUp slots made
  caught_up slots made pruned = catch_up (unsettled pruned.making.slots) slots made pruned (omega arith)

  -- the next slot of the reference row is the same in the pruned row
  next_is_there : (slots : List Slot) (made : List Made) (up : IsCaughtUp slots made) (place : ℕ) (weight : ℤ) (slot : Slot) → next_slot up.pruned.making.slots ≡ Some (place, weight) → slice_get up.pruned.making.slots place ≡ Some slot
      → slice_get slots place ≡ Some slot
  next_is_there slots made up place weight slot some here = next_there_too up.pruned.making up.pruned.progress slots up.pruned.alike place weight some slot here

  pruned_next_is : (slots : List Slot) (made : List Made) (up : IsCaughtUp slots made) (place : ℕ) (slot : Slot) (weight : ℤ) → IsNextLive begins slots place slot weight → next_slot up.pruned.making.slots ≡ Some (place, weight)
  pruned_next_is slots made up place slot weight next_live = by (next_slot up.pruned.making.slots) refl (first_least-is open_weight up.pruned.making.slots)
    where
      -- the slot of the reference row there is open, at no more
      mine : (held : ℤ) × (weight_at open_weight up.pruned.making.slots place ≡ Some held) × (held ≤ℤ weight)
      mine = let (one, at, is) = up.pruned.alike.back place slot next_live.here in of one at is
        where
          of : (one : Slot) → slice_get up.pruned.making.slots place ≡ Some one → IsAlike table to delta begins up.pruned.making.slots [] place one slot
              → (held : ℤ) × (weight_at open_weight up.pruned.making.slots place ≡ Some held) × (held ≤ℤ weight)
          of one at (same is) = (weight, open_weight_at up.pruned.making.slots place slot weight (at ∙ ap Some is) next_live.open_slot next_live.has, le_of_same weight weight refl)
          of one at (passed is open_slot dead w has) = let live = next_live.live in absurd cc
          of one at (awaits await) = (await.weight, open_weight_at up.pruned.making.slots place one await.weight at await.open_one await.has, await.not_less weight next_live.has)

      by : (o : Option (ℕ × ℤ)) → next_slot up.pruned.making.slots ≡ o → FirstIs open_weight up.pruned.making.slots o → o ≡ Some (place, weight)
      by None end all = let (held, here, less) = mine in let absent = all place in absurd cc
      by (Some (p, w)) some first =
          let (held, here, less) = mine in
          let there = next_there net table to up.pruned.making (p, w) some in
          let pruned_here : slice_get slots p ≡ Some there.slot = next_is_there slots made up p w there.slot some there.here in
          let live : is_live begins p there.slot ≡ true = up.up p w there.slot some there.here in
          let under : weight ≤ℤ w = next_live.least p there.slot w pruned_here live there.is_open there.has in
          let over : w ≤ℤ weight = le_then w held weight (first.least place held here) less in
          let not_before : p < place → ⊥ = λ earlier. not_below weight weight refl (lt_then weight w weight (next_live.first p there.slot w pruned_here live there.is_open there.has earlier) over) in
          let not_after : place < p → ⊥ = λ earlier. not_below w w refl (lt_then w held w (first.first place held here earlier) (le_then held weight w less under)) in
          let places : p ≡ place = let a = not_before in let b = not_after in omega arith in
          let weights : w ≡ weight = meeting_weights w weight over under in
          λ i. Some (places i, weights i)

  -- the next live slot is the same in the reference row
  record IsNextInBoth (slots : List Slot) (made : List Made) (place : ℕ) (slot : Slot) (weight : ℤ) : Type 0 where
    up : IsCaughtUp slots made
    some : next_slot up.pruned.making.slots ≡ Some (place, weight)
    here : slice_get up.pruned.making.slots place ≡ Some slot

  next_in_both : (slots : List Slot) (made : List Made) (place : ℕ) (slot : Slot) (weight : ℤ) → IsPruned slots made → IsNextLive begins slots place slot weight → IsNextInBoth slots made place slot weight
  next_in_both slots made place slot weight pruned next_live =
      let up = caught_up slots made pruned in
      let some = pruned_next_is slots made up place slot weight next_live in
      let there = next_there net table to up.pruned.making (place, weight) some in
      let is : there.slot ≡ slot = same_Some there.slot slot (sym (next_is_there slots made up place weight there.slot some there.here) ∙ next_live.here) in
      record { up = up; some = some; here = there.here ∙ ap Some is }

  pub pruned_step : (slots : List Slot) (made : List Made) (place : ℕ) (slot : Slot) (weight : ℤ) (few : List Made) → IsPruned slots made → IsNextLive begins slots place slot weight
      → IsThinned table (consequences net table (edge_in to slot weight)) few
      → IsPruned (pruned_after slots place slot few) (made ++ improved to slot weight)
  pruned_step slots made place slot weight few pruned next_live thin =
      let both = next_in_both slots made place slot weight pruned next_live in
      let up = both.up in record {
        making = after_slot net table to up.pruned.making (place, weight) slot;
        progress = progress_after net table to plan fits sound up.pruned.making up.pruned.progress place weight both.some slot both.here;
        alike = settled_both up.pruned.making up.pruned.progress slots up.pruned.alike place weight both.some slot both.here few thin next_live.here;
        improved_same = ap (λ (l : List Made). l ++ improved to slot weight) up.pruned.improved_same;
      }

  pub pruned_done : (slots : List Slot) (made : List Made) → IsPruned slots made → IsAllDone begins slots → made ≡ reference_row net table to
  pruned_done slots made pruned all = let up = caught_up slots made pruned in by up (next_slot up.pruned.making.slots) refl
    where
      by : (up : IsCaughtUp slots made) (o : Option (ℕ × ℤ)) → next_slot up.pruned.making.slots ≡ o → made ≡ reference_row net table to
      by up None end = sym up.pruned.improved_same ∙ under_way_done net table to up.pruned.making end up.pruned.progress
      by up (Some (place, weight)) some =
          let there = next_there net table to up.pruned.making (place, weight) some in
          let settled = all place there.slot weight (next_is_there slots made up place weight there.slot some there.here) (up.up place weight there.slot some there.here) there.has in
          let is_open = there.is_open in absurd cc

  -- the edge of the next live slot is derivable in the row
  pub pruned_derivable : (slots : List Slot) (made : List Made) (pruned : IsPruned slots made) (place : ℕ) (slot : Slot) (weight : ℤ) → IsNextLive begins slots place slot weight → IsInRow net table to (edge_in to slot weight)
  pruned_derivable slots made pruned place slot weight next_live =
      let both = next_in_both slots made place slot weight pruned next_live in
      (making_of net table to plan fits sound both.up.pruned.making both.up.pruned.progress).partly.row.derivable place slot weight both.here next_live.has

  -- if it has not improved, it is as the table has it
  pub pruned_unimproved : (slots : List Slot) (made : List Made) (pruned : IsPruned slots made) (place : ℕ) (slot : Slot) (weight : ℤ) → IsNextLive begins slots place slot weight → slot.why ≡ None
      → slot.weight ≡ weight_of table (key_in to slot)
  pruned_unimproved slots made pruned place slot weight next_live absent =
      let both = next_in_both slots made place slot weight pruned next_live in
      (making_of net table to plan fits sound both.up.pruned.making both.up.pruned.progress).partly.row.unimproved place slot both.here absent
