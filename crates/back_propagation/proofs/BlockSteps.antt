-- If no edge of a block goes below the row, nothing that follows with them changes it.
use Rattle.std.proofs.Common.{◌≡◌, ℕ, zero, suc, ◌+◌, ◌<◌, ◌≤◌, ◌-◌, ℤ, pos, ◌*◌, ◌≤ℤ◌, ◌+ℤ◌, ◌==◌, ◌&&◌, Bool, true, false, cond, List, [], ◌∷◌, ◌++◌, length, map, fold, drop, get_or, append_assoc, append-nil, nat_lt, Option, Some, None}
use Rattle.std.proofs.Common.{refl, ap, sym, subst, ◌∙◌, arith}
use Rattle.std.specs.Prelude.{slice_get, slice_range, IsSomeAnd, int_lt, is_none}
use Rattle.std.specs.Int.{int_max}
use Rattle.std.specs.Option.{option_map, option_map_or}
use Rattle.std.specs.Ordering.{int_eq}
use Rattle.std.specs.List.{All, flat_map}
use Rattle.std.proofs.lemmas.Int.{ints}
use Rattle.std.proofs.lemmas.Option.{same_Some, slice_get-get_or, slice_get-map, slice_get_within}
use Rattle.std.proofs.lemmas.List.Elements.{All-get_or, All-from_get_or}
use Rattle.std.proofs.lemmas.List.Concat.{flat_map-append}
use Rattle.std.proofs.lemmas.List.Edits.{get_or-between, length-between}
use Rattle.std.proofs.lemmas.List.Folds.{drop_split}
use Rattle.std.proofs.lemmas.List.Sums.{fold-append}
use Rattle.net_model.specs.Rules.{joined_weight, no_case, upper_case}
use Rattle.net_model.specs.declared.part.Edge.{Edge}
use Rattle.net_model.specs.Network.{Plan}
use Rattle.net_model.specs.declared.ids.PointId.{PointId}
use Rattle.closure_model.specs.ReferenceRow.{given, has_above, relaxed, from_first}
use Rattle.closure_model.specs.declared.rows.Why.{Why}
use Rattle.closure_model.specs.declared.rows.Why.TheVariants.{No, Up}
use Rattle.net_model.specs.declared.ids.LinkId.{LinkId}
use Rattle.net_model.proofs.RuleLemmas.{no_case_gives, upper_case_gives}
use Rattle.std.proofs.lemmas.Bool.{eqb-true}
use Rattle.std.proofs.lemmas.Bool.Decides.{nat_tests}
use Rattle.closure_model.specs.Tables.{Graph, HasEdge, row_of}
use Rattle.closure_model.proofs.Weights.{le_then, lt_false}
use Rattle.closure_model.specs.declared.rows.Made.{Made}
use Rattle.closure_model.specs.declared.rows.Slot.{Slot}
use Rattle.labelled_graph.specs.Entries.{edge_into, is_ordinary, wide_label}
use Rattle.labelled_graph.specs.declared.entry.Entry.{Entry}
use Rattle.closure_model.specs.Keys.{Key, ordinary_key, row_keys}
use Rattle.closure_model.proofs.Slots.{some_of_map}
use Rattle.closure_model.specs.Tables.{weight_of}
use Rattle.labelled_graph.specs.Words.{absent, held, SaturatesHeld}
use Rattle.back_propagation.specs.Blocks.{AllAreSaturated, IsHeld, IsSaturatedIn}
use Rattle.back_propagation.specs.DeltaRows.{goes_before}
use Rattle.back_propagation.proofs.SeededSteps.{before_is}
use Rattle.back_propagation.specs.SlimSlots.{StandsFor}
use Rattle.back_propagation.specs.SlotPlaces.{place_in_slots, slot_key, after_entry, IsRowAgainst, IsOfRow}
use Rattle.back_propagation.specs.OpenRows.{IsRelaxing, HasRelaxed}
use Rattle.back_propagation.specs.declared.open_row.Basis.{Basis}
use Rattle.back_propagation.specs.declared.open_row.OpenRow.{OpenRow}
use Rattle.back_propagation.proofs.RelaxSteps.{entry_held, first_place, first_unchanged}
use Rattle.back_propagation.proofs.OpenRowSteps.{relaxes_nothing, relaxes_then}
use Rattle.back_propagation.proofs.RowPlaces.{row_at, at_column, column_inside}
use Rattle.back_propagation.proofs.QueuedSteps.{keeps_itself}

abbrev no_slot : Slot
no_slot = record { from = record { 0 = 0 }; label = None; weight = None; why = None; settled = false }

abbrev no_entry : Entry
no_entry = record { from = record { 0 = 0 }; label = None; weight = pos 0 }

abbrev no_edge : Edge
no_edge = record { from = record { 0 = 0 }; to = record { 0 = 0 }; label = None; weight = pos 0 }

module _ (net : Plan) (table : Graph) (to : PointId) (slots : List Slot) (width : ℕ) (row : IsRowAgainst net table to slots width) (edge : Edge) (column : ℕ) (is : IsOfRow net table to edge column) where
  entry_left : (entry : Entry) → IsHeld table edge entry → IsSaturatedIn slots width edge column entry → fold relaxed slots (after_entry edge entry) ≡ slots
  entry_left entry has met = by (is_ordinary entry) refl
    where
      by : (b : Bool) → is_ordinary entry ≡ b → fold relaxed slots (cond b (from_first edge (edge_into edge.from entry)) []) ≡ slots
      by false other = refl
      by true ordinary =
          let place = first_place net table to slots width row edge column is (edge_into edge.from entry) has in
          sym (first_unchanged net table to slots width row edge column is (edge_into edge.from entry) has no_slot
          (met ordinary (get_or slots (place_in_slots width entry.from column) no_slot) (slice_get-get_or slots (place_in_slots width entry.from column) no_slot place)))

  -- nothing that follows with saturated edges changes the row
  pub block_left : (entries : List Entry) → ((i : ℕ) → i < length entries → IsHeld table edge (get_or entries i no_entry)) → ((i : ℕ) → i < length entries → IsSaturatedIn slots width edge column (get_or entries i no_entry))
      → fold relaxed slots (flat_map (after_entry edge) entries) ≡ slots
  block_left [] held met = refl
  block_left (entry ∷ entries) held met =
      let first : fold relaxed slots (after_entry edge entry) ≡ slots = entry_left entry (held 0 (omega arith)) (met 0 (omega arith)) in
      let rest : fold relaxed slots (flat_map (after_entry edge) entries) ≡ slots = block_left entries (λ i below. held (suc i) (omega (arith, below))) (λ i below. met (suc i) (omega (arith, below))) in
      fold-append relaxed slots (after_entry edge entry) (flat_map (after_entry edge) entries) ∙ (ap (λ (s : List Slot). fold relaxed s (flat_map (after_entry edge) entries)) first ∙ rest)

pub block_relaxes_nothing : (basis : Basis) (self : OpenRow) (edge : Edge) (column : ℕ) (entries : List Entry) → IsRelaxing basis self edge column → All (IsHeld basis.table.now edge) entries
    → All (IsSaturatedIn self.slots self.width edge column) entries
    → HasRelaxed self self (flat_map (after_entry edge) entries)
block_relaxes_nothing basis self edge column entries is held met = record {
  slots = sym (block_left basis.net.now basis.table.now edge.to self.slots self.width is.slots edge column is.of_row entries
      (λ i below. All-get_or (IsHeld basis.table.now edge) entries i no_entry below held) (λ i below. All-get_or (IsSaturatedIn self.slots self.width edge column) entries i no_entry below met));
  queue = keeps_itself self.slots self.queue;
  width = refl;
}

-- what has a slot at a weight that is no greater than the candidate over both edges is saturated
pub held_is_saturated : (slot : Slot) (weight : ℤ) → IsSomeAnd slot.weight (λ held. held ≤ℤ weight) → has_above slot weight ≡ false
held_is_saturated slot weight some = by slot.weight some
  where
    by : (o : Option ℤ) → IsSomeAnd o (λ held. held ≤ℤ weight) → option_map_or (λ old. int_lt weight old) o true ≡ false
    by None none = absurd none
    by (Some held) most = lt_false weight held most

-- what the words of a block say of an entry in it
pub words_meet : (table : Graph) (slots : List Slot) (width : ℕ) (edge : Edge) (column : ℕ) (word : ℤ) (entry : Entry) → ((slot : Slot) → slice_get slots (place_in_slots width entry.from column) ≡ Some slot → StandsFor word slot.weight)
    → IsHeld table edge entry
    → SaturatesHeld (weight_of table (ordinary_key entry.from edge.from)) (held word) edge.weight → IsSaturatedIn slots width edge column entry
words_meet table slots width edge column word entry stands is_held met = λ ordinary slot here.
    let has : weight_of table (ordinary_key entry.from edge.from) ≡ Some entry.weight = of_ordinary entry.label refl ordinary in
    let below : SaturatesHeld (Some entry.weight) (held word) edge.weight = subst (λ (o : Option ℤ). SaturatesHeld o (held word) edge.weight) has met in
    held_is_saturated slot (joined_weight (edge_into edge.from entry) edge) (by slot.weight (int_eq word absent) refl (stands slot here) below)
  where
    of_ordinary : (label : Option ℕ) → entry.label ≡ label → is_none label ≡ true → weight_of table (ordinary_key entry.from edge.from) ≡ Some entry.weight
    of_ordinary None is ordinary = subst (λ (label : Option ℕ). weight_of table (record { to = edge.from; from = entry.from; label = wide_label label }) ≡ Some entry.weight) is is_held
    of_ordinary (Some k) is ordinary = absurd cc

    weaker : (o : Option ℤ) (low high : ℤ) → low ≤ℤ high → IsSomeAnd o (λ one. one ≤ℤ low) → IsSomeAnd o (λ one. one ≤ℤ high)
    weaker None low high more some = some
    weaker (Some w) low high more some = le_then w low high some more

    by : (weight : Option ℤ) (gone : Bool) → int_eq word absent ≡ gone → StandsFor word weight → IsSomeAnd (cond gone None (Some word)) (λ other. other ≤ℤ (int_max entry.weight (pos 0) +ℤ edge.weight))
        → IsSomeAnd weight (λ one. one ≤ℤ (int_max entry.weight (pos 0) +ℤ edge.weight))
    by weight true gone stood some = absurd some
    by weight false present stood most = weaker weight word (int_max entry.weight (pos 0) +ℤ edge.weight) most (stood (λ same. let itself : int_eq word absent ≡ true = grind (arith, ints) in absurd cc))

-- ---- the words of the column of an edge
module _ (net : Plan) (table : Graph) (to : PointId) (slots : List Slot) (width : ℕ) (row : IsRowAgainst net table to slots width) (edge : Edge) (column : ℕ) (is : IsOfRow net table to edge column) where
  key_at : (from : PointId) → from.0 < table.shape.points → slice_get (row_keys table.shape to) (place_in_slots width from column) ≡ Some (record { to = to; from = from; label = edge.label })
  key_at from inside =
      ap (λ (w : ℕ). slice_get (row_keys table.shape to) (from.0 * w + column)) row.wide
      ∙ (row_at table.shape to from column inside (column_inside table.shape to edge.label column is.in_column) ∙ at_column table.shape to from edge.label column is.in_column)

  -- what stands there
  slot_key_at : (from : PointId) (slot : Slot) → from.0 < table.shape.points → slice_get slots (place_in_slots width from column) ≡ Some slot → slot_key to slot ≡ record { to = to; from = from; label = edge.label }
  slot_key_at from slot inside here =
      same_Some (slot_key to slot) (record { to = to; from = from; label = edge.label })
      (ap (option_map (slot_key to)) (sym here) ∙ (sym (slice_get-map (slot_key to) slots (place_in_slots width from column)) ∙ (ap (λ (ks : List Key). slice_get ks (place_in_slots width from column)) row.keys ∙ key_at from inside)))

  first_point : PointId
  first_point = record { 0 = 0 }

  many : 0 < table.shape.points
  many = let inside = is.key.from_point in omega (arith, inside)

  head_place : 0 * width + column ≡ column
  head_place = omega arith

  -- the column is the place of the first slot in it
  pub column_place : column < length slots
  column_place =
      let (slot, here, key) = some_of_map (slot_key to) (slice_get slots (0 * width + column)) (record { to = to; from = record { 0 = 0 }; label = edge.label })
      (sym (slice_get-map (slot_key to) slots (0 * width + column)) ∙ (ap (λ (ks : List Key). slice_get ks (0 * width + column)) row.keys ∙ key_at (record { 0 = 0 }) many)) in
      subst (λ (n : ℕ). n < length slots) head_place (slice_get_within slots (0 * width + column) slot here)

  pub words_of_column : (words : List ℤ) → ((head slot : Slot) (other : ℕ) → slice_get slots column ≡ Some head → slice_get slots other ≡ Some slot → slot.label ≡ head.label → StandsFor (get_or words slot.from.0 (pos 0)) slot.weight)
      → (from : PointId) (slot : Slot) → from.0 < table.shape.points → slice_get slots (place_in_slots width from column) ≡ Some slot → StandsFor (get_or words from.0 (pos 0)) slot.weight
  words_of_column words stand from slot inside here =
      let head : Slot = get_or slots column no_slot in
      let at : slice_get slots column ≡ Some (get_or slots column no_slot) = slice_get-get_or slots column no_slot column_place in
      let first : slot_key to (get_or slots column no_slot) ≡ record { to = to; from = record { 0 = 0 }; label = edge.label } = slot_key_at (record { 0 = 0 }) (get_or slots column no_slot) many (ap (slice_get slots) head_place ∙ at) in
      let key : slot_key to slot ≡ record { to = to; from = from; label = edge.label } = slot_key_at from slot inside here in
      let label : slot.label ≡ (get_or slots column no_slot).label = ap (λ (k : Key). k.label) key ∙ sym (ap (λ (k : Key). k.label) first) in
      subst (λ (p : PointId). StandsFor (get_or words p.0 (pos 0)) slot.weight) (ap (λ (k : Key). k.from) key) (stand (get_or slots column no_slot) slot (place_in_slots width from column) at here label)

-- ---- a whole column
-- the entry of an edge that goes before another
abbrev entry_of : Edge → Entry
entry_of first = record { from = first.from; label = None; weight = first.weight }

before_parts : (first edge : Edge) → goes_before first edge ≡ true → (first.label ≡ None) × (first.to.0 ≡ edge.from.0)
before_parts first edge before = by first.label refl (first.to.0 == edge.from.0) refl before
  where
    by : (o : Option LinkId) → first.label ≡ o → (b : Bool) → first.to.0 == edge.from.0 ≡ b → (is_none o && b) ≡ true → (first.label ≡ None) × (first.to.0 ≡ edge.from.0)
    by None is true same both = (is, eqb-true first.to.0 edge.from.0 same)
    by None is false same both = absurd cc
    by (Some label) is b same both = absurd cc

entry_is : (first edge : Edge) → goes_before first edge ≡ true → edge_into edge.from (entry_of first) ≡ first
entry_is first edge before =
    let (ordinary, meeting) = before_parts first edge before in
    let point : edge.from ≡ first.to = λ i. record { 0 = sym meeting i } in
    λ i. record { from = first.from; to = point i; label = sym ordinary i; weight = first.weight }

-- if no word of the column improves, all edges that go before the edge are saturated
pub column_saturated : (net : Plan) (table : Graph) (to : PointId) (slots : List Slot) (width : ℕ) (edge : Edge) (column : ℕ) (words : List ℤ) → IsRowAgainst net table to slots width → IsOfRow net table to edge column
    → ((head slot : Slot) (other : ℕ) → slice_get slots column ≡ Some head → slice_get slots other ≡ Some slot → slot.label ≡ head.label → StandsFor (get_or words slot.from.0 (pos 0)) slot.weight)
    → ((first : PointId) → first.0 < table.shape.points → SaturatesHeld (weight_of table (ordinary_key first edge.from)) (held (get_or words first.0 (pos 0))) edge.weight) → AllAreSaturated table slots width edge column
column_saturated net table to slots width edge column words row is stand meets first has before slot here =
    let inside = (row.sound.keys first has).from_point in
    words_meet table slots width edge column (get_or words first.from.0 (pos 0)) (entry_of first) (λ one at. words_of_column net table to slots width row edge column is words stand first.from one inside at)
    (subst (HasEdge table) (sym (entry_is first edge before)) has) (meets first.from inside) refl slot here

-- nothing that follows with such edges changes the row
module _ (net : Plan) (table : Graph) (to : PointId) (slots : List Slot) (width : ℕ) (row : IsRowAgainst net table to slots width) (edge : Edge) (column : ℕ) (is : IsOfRow net table to edge column)
    (met : AllAreSaturated table slots width edge column) where
  vain_left : (first : Edge) → HasEdge table first → fold relaxed slots (from_first edge first) ≡ slots
  vain_left first has = by (goes_before first edge) refl
    where
      nothing : (why : Why) (o : Option Edge) → ((one : Edge) → o ≡ Some one → ⊥) → given why o ≡ []
      nothing why None none = refl
      nothing why (Some one) none = absurd (none one refl)

      by : (b : Bool) → goes_before first edge ≡ b → fold relaxed slots (from_first edge first) ≡ slots
      by true before =
          let place = first_place net table to slots width row edge column is first has in
          sym (first_unchanged net table to slots width row edge column is first has no_slot (met first has before (get_or slots (place_in_slots width first.from column) no_slot)
          (slice_get-get_or slots (place_in_slots width first.from column) no_slot place)))
      by false out =
          let no : given (No first edge) (no_case first edge) ≡ [] = nothing (No first edge) (no_case first edge)
          (λ one gave. (let gives = no_case_gives first edge one gave in let clash : true ≡ false = sym (before_is first edge gives.first_ordinary gives.meeting) ∙ out in absurd cc)) in
          let up : given (Up first edge) (upper_case first edge) ≡ [] = nothing (Up first edge) (upper_case first edge)
          (λ one gave. (let gives = upper_case_gives first edge one gave in let clash : true ≡ false = sym (before_is first edge gives.first_ordinary gives.meeting) ∙ out in absurd cc)) in
          λ i. fold relaxed slots (no i ++ up i)

  pub all_left : (firsts : List Edge) → ((i : ℕ) → i < length firsts → HasEdge table (get_or firsts i no_edge)) → fold relaxed slots (flat_map (from_first edge) firsts) ≡ slots
  all_left [] held = refl
  all_left (first ∷ firsts) held =
      fold-append relaxed slots (from_first edge first) (flat_map (from_first edge) firsts)
      ∙ (ap (λ (s : List Slot). fold relaxed s (flat_map (from_first edge) firsts)) (vain_left first (held 0 (omega arith))) ∙ all_left firsts (λ i below. held (suc i) (omega (arith, below))))

pub vain_relaxations : (basis : Basis) (self : OpenRow) (edge : Edge) (column : ℕ) (firsts : List Edge) → IsRelaxing basis self edge column → All (HasEdge basis.table.now) firsts
    → AllAreSaturated basis.table.now self.slots self.width edge column
    → HasRelaxed self self (flat_map (from_first edge) firsts)
vain_relaxations basis self edge column firsts is held met = record {
  slots = sym (all_left basis.net.now basis.table.now edge.to self.slots self.width is.slots edge column is.of_row met firsts (λ i below. All-get_or (HasEdge basis.table.now) firsts i no_edge below held));
  queue = keeps_itself self.slots self.queue;
  width = refl;
}

-- ---- block after block
-- what follows with the entries before one was relaxed
pub record IsRelaxedTo (edge : Edge) (entries : List Entry) (at : ℕ) (was now : OpenRow) : Type 0 where
  pub done : List Made
  pub relaxed : HasRelaxed was now done
  pub rest : done ++ flat_map (after_entry edge) (drop at entries) ≡ flat_map (after_entry edge) entries

pub relaxed_none : (edge : Edge) (entries : List Entry) (row : OpenRow) → IsRelaxedTo edge entries 0 row row
relaxed_none edge entries row = record { done = []; relaxed = relaxes_nothing row; rest = ap (flat_map (after_entry edge)) (drop_none entries) }
  where
    drop_none : (xs : List Entry) → drop 0 xs ≡ xs
    drop_none [] = refl
    drop_none (x ∷ xs) = refl

pub relaxed_more : (edge : Edge) (entries : List Entry) (at end : ℕ) (was middle now : OpenRow) → at ≤ end → IsRelaxedTo edge entries at was middle → HasRelaxed middle now (flat_map (after_entry edge) (slice_range entries at end))
    → IsRelaxedTo edge entries end was now
relaxed_more edge entries at end was middle now more before block = record {
  done = before.done ++ flat_map (after_entry edge) (slice_range entries at end);
  relaxed = relaxes_then was middle now before.done (flat_map (after_entry edge) (slice_range entries at end)) before.relaxed block;
  rest =
      append_assoc before.done (flat_map (after_entry edge) (slice_range entries at end)) (flat_map (after_entry edge) (drop end entries))
      ∙ (ap (λ (list : List Made). before.done ++ list) (sym (flat_map-append (after_entry edge) (slice_range entries at end) (drop end entries)) ∙ ap (flat_map (after_entry edge)) (sym (drop_split entries at end more))) ∙ before.rest);
}

pub relaxed_all : (edge : Edge) (entries : List Entry) (at : ℕ) (was now : OpenRow) → length entries ≤ at → IsRelaxedTo edge entries at was now → HasRelaxed was now (flat_map (after_entry edge) entries)
relaxed_all edge entries at was now past all =
    subst (HasRelaxed was now) (sym (append-nil all.done) ∙ (ap (λ (list : List Entry). all.done ++ flat_map (after_entry edge) list) (sym (drop_past entries at past)) ∙ all.rest)) all.relaxed
  where
    drop_past : (xs : List Entry) (k : ℕ) → length xs ≤ k → drop k xs ≡ []
    drop_past [] zero past = refl
    drop_past [] (suc k) past = refl
    drop_past (x ∷ xs) zero past = absurd (omega (arith, past))
    drop_past (x ∷ xs) (suc k) past = drop_past xs k (omega (arith, past))

pub all_held : (table : Graph) (edge : Edge) (entries : List Entry) → map (edge_into edge.from) entries ≡ row_of table edge.from → All (IsHeld table edge) entries
all_held table edge entries are = All-from_get_or (IsHeld table edge) entries no_entry (λ i below. entry_held table edge.from entries i no_entry are below)

pub block_held : (table : Graph) (edge : Edge) (entries : List Entry) (at end : ℕ) → All (IsHeld table edge) entries → end ≤ length entries → All (IsHeld table edge) (slice_range entries at end)
block_held table edge entries at end held within =
    All-from_get_or (IsHeld table edge) (slice_range entries at end) no_entry
    (λ i below.
    (let long : length (slice_range entries at end) ≡ end - at = length-between entries at end within in
    subst (IsHeld table edge) (sym (get_or-between entries at end i no_entry (omega (arith, below, long)))) (All-get_or (IsHeld table edge) entries (at + i) no_entry (omega (arith, below, long, within)) held)))

-- what holds of the points before one, and of those of a part that begins there, holds of all before the end of the part
pub part_more : (Holds : PointId → Type 0) (at end : ℕ) → ((first : PointId) → first.0 < at → Holds first) → ((first : PointId) → at ≤ first.0 → first.0 < end → Holds first)
    → (first : PointId) → first.0 < end → Holds first
part_more Holds at end before part first below = by (nat_lt first.0 at) refl
  where
    by : (b : Bool) → nat_lt first.0 at ≡ b → Holds first
    by true is = before first (grind (arith, nat_tests))
    by false is = part first (grind (arith, nat_tests)) below
