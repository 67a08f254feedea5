-- The loops that find what a row is seeded with.
use Rattle.std.proofs.Common.{◌≡◌, ◌≢◌, ℕ, zero, suc, ◌+◌, ◌<◌, ◌≤◌, ◌%◌, ℤ, ◌<ℤ◌, ◌==◌, ◌&&◌, ◌||◌, pos, Bool, true, false, not, ◌⊎◌, List, [], ◌∷◌, ◌++◌, ◌^◌, length, map, get_or, Option, Some, None, refl, ap, sym, subst, ◌∙◌, inl, inr}
use Rattle.std.proofs.Common.{arith}
use Rattle.std.specs.Prelude.{slice_get, int_lt, int_le, replicate, if◌then◌else◌}
use Rattle.std.specs.Bool.{MatchBool}
use Rattle.std.specs.Option.{option_map, option_map_or}
use Rattle.std.proofs.lemmas.List.{get_or-replicate, length-replicate}
use Rattle.std.proofs.lemmas.List.Elements.{All-get_or, All-from_get_or, Contains-append_left, Contains-append_right, Contains-append_cases}
use Rattle.std.proofs.lemmas.List.Folds.{list_any_none}
use Rattle.std.specs.List.{All, AllByRecursion, Contains, flat_map, list_any}
use Rattle.std.proofs.lemmas.Option.{get_or_from_slice_get, same_Some, slice_get-map, slice_get_within}
use Rattle.std.proofs.lemmas.Bool.{eqb-true}
use Rattle.std.proofs.lemmas.Bool.Decides.{nat_tests}
use Rattle.std.proofs.lemmas.Int.{ints}
use Rattle.net_model.specs.declared.ids.LinkId.{LinkId}
use Rattle.net_model.specs.declared.ids.PointId.{PointId}
use Rattle.net_model.specs.declared.part.Edge.{Edge}
use Rattle.net_model.specs.Rules.{is_negative, joined_weight}
use Rattle.closure_model.specs.Keys.{Key, key_of, row_keys}
use Rattle.closure_model.specs.ReferenceRow.{edge_in, first_slot, first_slots, has_above}
use Rattle.closure_model.specs.Tables.{Graph, HasEdge, IsGraph, has_at_most, row_of, weight_of}
use Rattle.labelled_graph.specs.Entries.{edge_into, wide_label}
use Rattle.labelled_graph.specs.declared.entry.Entry.{Entry}
use Rattle.reduction_rules.specs.Applies.{joined}
use Rattle.closure_model.specs.declared.rows.Slot.{Slot}
use Rattle.closure_model.proofs.BaseLemmas.{slice_get-contained}
use Rattle.closure_model.proofs.Lists.{Contains-map_from, Contains-flat_map, Contains-flat_map_from, Contains-head, Contains-cases, Contains-none}
use Rattle.closure_model.proofs.KeyLists.{row_keys_owned, row_keys_rise, row_keys_whole}
use Rattle.closure_model.proofs.KeyPlaces.{only_place}
use Rattle.closure_model.proofs.Nodes.{listed_at}
use Rattle.closure_model.proofs.Slots.{some_of_map}
use Rattle.closure_model.specs.DeltaEdges.{delta_at, AreOfTable}
use Rattle.back_propagation.specs.DeltaRows.{goes_before, improves, IsFirstRow}
use Rattle.back_propagation.specs.BestKeys.{AreBest, IsMatched, IsNoWorse, LeadsTo}
use Rattle.back_propagation.specs.BestCandidates.{candidate_after, candidate_over, candidates_over, AreApart, AreCoveredOver, AreNone, AreTakenTo, HasGoneOver, HasTaken, HasTakenOver, HasCandidate, IsCovered, IsRowEntryAt, IsPutIfSeed}
use Rattle.back_propagation.specs.BestCandidates.{IsPutWhole, IsCandidateOf, IsWholeEntry}
use Rattle.back_propagation.specs.Blocks.{AllAreSaturated}
use Rattle.back_propagation.specs.SlotPlaces.{place_in_slots, width_of, HasColumn}
use Rattle.back_propagation.specs.declared.best_candidates.Seeds.{Seeds}
use Rattle.back_propagation.specs.declared.best_candidates.BestCandidates.{BestCandidates}
use Rattle.back_propagation.specs.declared.best_candidates.Candidate.{Candidate}
use Rattle.back_propagation.proofs.SeededSteps.{delta_is, delta_of_table, in_row}
use Rattle.back_propagation.proofs.BestSteps.{taken_nothing}
use Rattle.back_propagation.proofs.RelaxSteps.{place_under}
use Rattle.back_propagation.proofs.RowPlaces.{row_at, at_column, column_inside, column_of_place}

-- the place of a key
key_here : (table : Graph) (to : PointId) (key : Key) (column : ℕ) → key.to ≡ to → key.from.0 < table.shape.points → HasColumn table.shape to key.label column
    → slice_get (row_keys table.shape to) (place_in_slots (width_of table.shape to) key.from column) ≡ Some key
key_here table to key column ends inside is =
    row_at table.shape to key.from column inside (column_inside table.shape to key.label column is)
    ∙ (at_column table.shape to key.from key.label column is ∙ ap (λ (p : PointId). Some (record { to = p; from = key.from; label = key.label })) (sym ends))

-- the slot of a key
slot_here : (table : Graph) (to : PointId) (key : Key) (column : ℕ) → key.to ≡ to → key.from.0 < table.shape.points → HasColumn table.shape to key.label column
    → slice_get (first_slots table to) (place_in_slots (width_of table.shape to) key.from column) ≡ Some (first_slot table key)
slot_here table to key column ends inside is =
    let there : slice_get (row_keys table.shape to) (place_in_slots (width_of table.shape to) key.from column) ≡ Some (record { to = to; from = key.from; label = key.label }) =
    row_at table.shape to key.from column inside (column_inside table.shape to key.label column is) ∙ at_column table.shape to key.from key.label column is in
    slice_get-map (first_slot table) (row_keys table.shape to) (place_in_slots (width_of table.shape to) key.from column)
    ∙ (ap (option_map (first_slot table)) there ∙ ap (λ (p : PointId). Some (first_slot table (record { to = p; from = key.from; label = key.label }))) (sym ends))

-- ---- the slots of the table
module _ (table : Graph) (to : PointId) (slots : List Slot) (width : ℕ) (row : IsFirstRow table to slots width) where
  -- the slot between a point and the target, in the column of a label
  module _ (from : PointId) (label : Option LinkId) (column : ℕ) (inside : from.0 < table.shape.points) (has : HasColumn table.shape to label column) where
    pub between : slice_get slots (place_in_slots width from column) ≡ Some (first_slot table (record { to = to; from = from; label = label }))
    between =
        ap (λ (list : List Slot). slice_get list (place_in_slots width from column)) row.first
        ∙ (ap (λ (n : ℕ). slice_get (first_slots table to) (place_in_slots n from column)) row.wide ∙ slot_here table to (record { to = to; from = from; label = label }) column refl inside has)

    pub between_fits : place_in_slots width from column < 2 ^ 64
    between_fits = let within = column_inside table.shape to label column has in let wide = row.wide in place_under table to width row.sound row.wide from column inside (omega (arith, within, wide))

    pub between_inside : place_in_slots width from column < length slots
    between_inside = slice_get_within slots (place_in_slots width from column) _ between

below_is : (w old : ℤ) → int_lt w old ≡ not (int_le old w)
below_is w old = by (int_lt w old) refl (int_le old w) refl
  where
    by : (a : Bool) → int_lt w old ≡ a → (b : Bool) → int_le old w ≡ b → a ≡ not b
    by true one false two = refl
    by false one true two = refl
    by true one true two = absurd (grind (arith, ints))
    by false one false two = absurd (grind (arith, ints))

-- the slot says whether the candidate over two edges improves the table
pub passes_improves : (table : Graph) (edge first : Edge) (b : Bool) → goes_before first edge ≡ true → b ≡ has_above (first_slot table (record { to = edge.to; from = first.from; label = edge.label })) (joined_weight first edge)
    → b ≡ improves table edge first
passes_improves table edge first b before is = is ∙ (by (weight_of table (record { to = edge.to; from = first.from; label = edge.label })) ∙ sym (ap (λ (t : Bool). t && not (has_at_most table (joined first edge))) before))
  where
    by : (o : Option ℤ) → option_map_or (λ (old : ℤ). int_lt (joined_weight first edge) old) o true ≡ not (option_map_or (λ (old : ℤ). int_le old (joined_weight first edge)) o false)
    by None = refl
    by (Some old) = below_is (joined_weight first edge) old

-- an edge that does not go before another improves nothing with it
pub not_before : (table : Graph) (edge first : Edge) → goes_before first edge ≡ false → improves table edge first ≡ false
not_before table edge first out = ap (λ (t : Bool). t && not (has_at_most table (joined first edge))) out

-- ---- the candidates below what the table has
pub one_candidate : (table : Graph) (width : ℕ) (edge : Edge) (column : ℕ) (first : Edge) → improves table edge first ≡ true → candidate_after table width edge column first ≡ candidate_over width edge column first ∷ []
one_candidate table width edge column first is = ap (λ (b : Bool). if b then candidate_over width edge column first ∷ [] else []) is

pub no_candidate : (table : Graph) (width : ℕ) (edge : Edge) (column : ℕ) (first : Edge) → improves table edge first ≡ false → candidate_after table width edge column first ≡ []
no_candidate table width edge column first none = ap (λ (b : Bool). if b then candidate_over width edge column first ∷ [] else []) none

-- if all are saturated, none of some edges improves the table
pub none_improves : (table : Graph) (slots : List Slot) (width : ℕ) (edge : Edge) (column : ℕ) → IsFirstRow table edge.to slots width → HasColumn table.shape edge.to edge.label column → AllAreSaturated table slots width edge column
    → (firsts : List Edge) → All (HasEdge table) firsts
    → list_any (improves table edge) firsts ≡ false
none_improves table slots width edge column row has met firsts are =
    list_any_none (improves table edge) firsts (All-from_get_or (λ first. improves table edge first ≡ false) firsts no_edge (λ i below. one (get_or firsts i no_edge) (All-get_or (HasEdge table) firsts i no_edge below are)))
  where
    no_edge : Edge
    no_edge = record { from = record { 0 = 0 }; to = record { 0 = 0 }; label = None; weight = pos 0 }

    one : (first : Edge) → HasEdge table first → improves table edge first ≡ false
    one first held = by (goes_before first edge) refl
      where
        by : (b : Bool) → goes_before first edge ≡ b → improves table edge first ≡ false
        by false out = not_before table edge first out
        by true before =
            let there = between table edge.to slots width row first.from edge.label column (row.sound.keys first held).from_point has in
            sym (passes_improves table edge first false before (sym (met first held before (first_slot table (record { to = edge.to; from = first.from; label = edge.label })) there)))

-- if none of some edges improves the table, no candidate over them is below it
pub no_candidates : (table : Graph) (width : ℕ) (edge : Edge) (column : ℕ) (firsts : List Edge) → list_any (improves table edge) firsts ≡ false → flat_map (candidate_after table width edge column) firsts ≡ []
no_candidates table width edge column [] none = refl
no_candidates table width edge column (first ∷ firsts) none = by (improves table edge first) refl (λ rest. no_candidates table width edge column firsts rest)
  where
    by : (b : Bool) → improves table edge first ≡ b → (list_any (improves table edge) firsts ≡ false → flat_map (candidate_after table width edge column) firsts ≡ [])
        → (candidate_after table width edge column first ++ flat_map (candidate_after table width edge column) firsts) ≡ []
    by true is rest = let any : list_any (improves table edge) (first ∷ firsts) ≡ true = ap (λ (b : Bool). b || list_any (improves table edge) firsts) is in absurd cc
    by false is rest =
        let here = no_candidate table width edge column first is in
        let later = rest (sym (ap (λ (b : Bool). b || list_any (improves table edge) firsts) is) ∙ none) in
        λ i. here i ++ later i

-- the edges before one are edges of the table
pub all_of_table : (table : Graph) (delta : List (List Edge)) (point : PointId) (list read : List Edge) → AreOfTable table delta → point.0 < length delta → read ≡ get_or delta point.0 read → list ≡ read → All (HasEdge table) list
all_of_table table delta point list read of_table inside is same = λ k d within. delta_of_table table delta point list k d of_table (delta_is delta point list read inside is same) within

-- ---- the entries of a row in turn
-- the label of an entry stands in a column
column_there : (table : Graph) (to : PointId) (entry : Entry) → IsGraph table → HasEdge table (edge_into to entry) → (column : ℕ) × HasColumn table.shape to (wide_label entry.label) column
column_there table to entry sound held =
    let (place, here) = slice_get-contained (row_keys table.shape to) (key_of (edge_into to entry)) (row_keys_whole table.shape (key_of (edge_into to entry)) (sound.keys (edge_into to entry) held)) in
    (place % width_of table.shape to, column_of_place table.shape to place (key_of (edge_into to entry)) here)

-- there is no candidate over an edge that is not negative, or that has no delta edge before it
none_over : (b : Bool) (candidates : List Candidate) → b ≡ false → (if b then candidates else []) ≡ []
none_over true candidates is = absurd cc
none_over false candidates is = refl

no_elements : {X : Type 0} (items : List X) → (length items == 0) ≡ true → items ≡ []
no_elements [] none = refl
no_elements (x ∷ xs) none = (let many = eqb-true (length (x ∷ xs)) 0 none in absurd (omega (arith, many)))

module _ (table : Graph) (to : PointId) (delta : List (List Edge)) (entry : Entry) (sound : IsGraph table) (held : HasEdge table (edge_into to entry)) (candidates : BestCandidates) (apart : AreApart candidates) where
  nothing_over : ((column : ℕ) → candidates_over table delta (width_of table.shape to) (edge_into to entry) column ≡ []) → HasTakenOver table to delta entry candidates candidates
  nothing_over none = let (column, has) = column_there table to entry sound held in (column, has, subst (HasTaken candidates candidates) (sym (none column)) (taken_nothing candidates apart))

  pub over_heavy : int_le (pos 0) entry.weight ≡ true → HasTakenOver table to delta entry candidates candidates
  over_heavy heavy = nothing_over (λ column. none_over (is_negative (edge_into to entry)) (flat_map (candidate_after table (width_of table.shape to) (edge_into to entry) column) (delta_at delta entry.from)) (below_is entry.weight (pos 0)
      ∙ ap not heavy))

  pub over_none : (firsts : List Edge) → firsts ≡ delta_at delta entry.from → (length firsts == 0) ≡ true → HasTakenOver table to delta entry candidates candidates
  over_none firsts is none = nothing_over (λ column. none_after column (is_negative (edge_into to entry)))
    where
      no_delta : delta_at delta entry.from ≡ []
      no_delta = sym is ∙ no_elements firsts none

      none_after : (column : ℕ) (b : Bool) → (if b then flat_map (candidate_after table (width_of table.shape to) (edge_into to entry) column) (delta_at delta entry.from) else []) ≡ []
      none_after column true = ap (flat_map (candidate_after table (width_of table.shape to) (edge_into to entry) column)) no_delta
      none_after column false = refl

  -- the candidates over both were relaxed
  pub over_firsts : (now : BestCandidates) (width column : ℕ) (edge : Edge) (firsts : List Edge) → width ≡ width_of table.shape to → HasColumn table.shape to (wide_label entry.label) column → edge ≡ edge_into to entry
      → firsts ≡ delta_at delta entry.from → int_le (pos 0) entry.weight ≡ false
      → HasTaken candidates now (flat_map (candidate_after table width edge column) firsts) → HasTakenOver table to delta entry candidates now
  over_firsts now width column edge firsts wide has edge_is firsts_are light taken = (column, has, subst (HasTaken candidates now) lists taken)
    where
      lists : flat_map (candidate_after table width edge column) firsts ≡ candidates_over table delta (width_of table.shape to) (edge_into to entry) column
      lists = (λ i. flat_map (candidate_after table (wide i) (edge_is i) column) (firsts_are i)) ∙ ap (λ (b : Bool). if b
          then flat_map (candidate_after table (width_of table.shape to) (edge_into to entry) column) (delta_at delta entry.from) else []) (sym (below_is entry.weight (pos 0) ∙ ap not light))

  -- the place was put at the end if the row is seeded with it
  pub over_many : (width column : ℕ) (edge : Edge) (firsts : List Edge) (whole now : List (ℤ × ℕ)) → width ≡ width_of table.shape to → HasColumn table.shape to (wide_label entry.label) column → edge ≡ edge_into to entry
      → firsts ≡ delta_at delta entry.from → int_le (pos 0) entry.weight ≡ false
      → IsPutIfSeed table width edge column firsts whole now → (HasTakenOver table to delta entry candidates candidates × (now ≡ whole)) ⊎ IsPutWhole table to entry whole now
  over_many width column edge firsts whole now wide has edge_is firsts_are light put = by (list_any (improves table edge) firsts) refl put
    where
      by : (b : Bool) → list_any (improves table edge) firsts ≡ b → MatchBool b (now ≡ whole ++ (edge.weight, place_in_slots width edge.from column) ∷ []) (now ≡ whole)
          → (HasTakenOver table to delta entry candidates candidates × (now ≡ whole)) ⊎ IsPutWhole table to entry whole now
      by true any last = inr (column, has, last ∙ (λ i. whole ++ ((edge_is i).weight, place_in_slots (wide i) (edge_is i).from column) ∷ []))
      by false none same = inl (
        over_firsts candidates width column edge firsts wide has edge_is firsts_are light
            (subst (HasTaken candidates candidates) (sym (no_candidates table width edge column firsts none)) (taken_nothing candidates apart)),
        same,
      )

-- no candidate is taken
module _ (count : ℕ) (candidates : BestCandidates) (none : AreNone count candidates) where
  mark_none : (place mark : ℕ) → slice_get candidates.marks.items place ≡ Some mark → mark ≡ 0
  mark_none place mark there =
      let within : place < length candidates.marks.items = slice_get_within candidates.marks.items place mark there in
      let inside : place < count = subst (λ (n : ℕ). place < n) (ap length none.marks ∙ length-replicate count 0) within in
      sym (get_or_from_slice_get (replicate count 0) place mark 0 (ap (λ (list : List ℕ). slice_get list place) (sym none.marks) ∙ there)) ∙ get_or-replicate count place 0 0 inside

  none_marked : (place k : ℕ) → slice_get candidates.marks.items place ≡ Some (k + 1) → ⊥
  none_marked place k there = (let zero = mark_none place (k + 1) there in omega (arith, zero))

  pub none_apart : AreApart candidates
  none_apart = record {
    even = ap length none.totals ∙ sym (ap length none.begins);
    within = λ place mark there. (let zero = mark_none place mark there in omega (arith, zero));
    apart = λ one other k here there. absurd (none_marked one k here);
  }

  pub to_none : (table : Graph) (to : PointId) (delta : List (List Edge)) (entries : List Entry) (whole : List (ℤ × ℕ)) → whole ≡ [] → count ≡ length (first_slots table to) → AreTakenTo table to delta entries 0 candidates whole
  to_none table to delta entries whole empty many = record {
    entries_whole = λ item inside. absurd (Contains-none item (subst (λ (list : List (ℤ × ℕ)). Contains list item) empty inside));
    apart = none_apart;
    keys = ap length none.marks ∙ (length-replicate count 0 ∙ many);
    covers = λ k entry before. absurd (omega (arith, before));
    sound = λ candidate has. absurd (none_marked candidate.to has.k has.mark);
    begins = λ item inside. absurd (Contains-none item (subst (λ (list : List (ℤ × ℕ)). Contains list item) none.begins inside));
  }

module _ (table : Graph) (to : PointId) (delta : List (List Edge)) (entries : List Entry) where
  -- one more entry, whose candidates were relaxed
  to_taken : (k : ℕ) (entry : Entry) (candidates now : BestCandidates) (whole : List (ℤ × ℕ)) → slice_get entries k ≡ Some entry → HasEdge table (edge_into to entry) → AreTakenTo table to delta entries k candidates whole
      → HasTakenOver table to delta entry candidates now
      → AreTakenTo table to delta entries (k + 1) now whole
  to_taken k entry candidates now whole here held was (column, has, taken) = record {
    apart = taken.apart;
    keys = taken.keys ∙ was.keys;
    covers = λ other one before at. covers other one before at (other == k) refl;
    entries_whole = was.entries_whole;
    sound = λ candidate is. sound candidate (taken.sound candidate is);
    begins = λ item inside. begins item (taken.begins item inside);
  }
    where
      of_entry : (candidate : Candidate) → Contains (candidates_over table delta (width_of table.shape to) (edge_into to entry) column) candidate → IsCandidateOf table to delta candidate
      of_entry candidate among = record { entry = entry; held = held; column = column; in_column = has; among = among }

      still : (one : Entry) → AreCoveredOver table to delta one candidates ⊎ IsWholeEntry table to one whole → AreCoveredOver table to delta one now ⊎ IsWholeEntry table to one whole
      still one (inl (place, column_is, all)) = inl (place, column_is, λ candidate among. taken.kept candidate (all candidate among))
      still one (inr is) = inr is

      covers : (other : ℕ) (one : Entry) → other < k + 1 → slice_get entries other ≡ Some one → (b : Bool) → (other == k) ≡ b → AreCoveredOver table to delta one now ⊎ IsWholeEntry table to one whole
      covers other one before at true equal =
          let same : entry ≡ one = same_Some entry one (sym here ∙ (ap (slice_get entries) (sym (eqb-true other k equal)) ∙ at)) in
          inl (subst (λ (e : Entry). AreCoveredOver table to delta e now) same (column, has, taken.covers))
      covers other one before at false apart =
          let earlier : other < k = (let other_place : other ≢ k = λ equal. (let test : (other == k) ≡ true = rw equal (grind (arith, nat_tests)) in absurd cc) in omega arith) in
          still one (was.covers other one earlier at)

      sound : (candidate : Candidate) → HasCandidate candidates candidate ⊎ Contains (candidates_over table delta (width_of table.shape to) (edge_into to entry) column) candidate → IsCandidateOf table to delta candidate
      sound candidate (inl is) = was.sound candidate is
      sound candidate (inr among) = of_entry candidate among

      begins : (item : ℤ × ℕ) → Contains candidates.begins.items item ⊎ ((candidate : Candidate) × Contains (candidates_over table delta (width_of table.shape to) (edge_into to entry) column) candidate
          × ((candidate.weight, candidate.place) ≡ item)) → (candidate : Candidate) × IsCandidateOf table to delta candidate × ((candidate.weight, candidate.place) ≡ item)
      begins item (inl inside) = was.begins item inside
      begins item (inr (candidate, among, is)) = (candidate, of_entry candidate among, is)

  -- one more entry, whose place was put at the end
  to_whole : (k : ℕ) (entry : Entry) (candidates : BestCandidates) (whole now : List (ℤ × ℕ)) → slice_get entries k ≡ Some entry → HasEdge table (edge_into to entry) → AreTakenTo table to delta entries k candidates whole
      → IsPutWhole table to entry whole now → AreTakenTo table to delta entries (k + 1) candidates now
  to_whole k entry candidates whole now here held was (column, has, put) = record {
    apart = was.apart;
    keys = was.keys;
    covers = λ other one before at. covers other one before at (other == k) refl;
    entries_whole = λ item inside. entry_at item (Contains-append_cases whole (mine ∷ []) item (subst (λ (list : List (ℤ × ℕ)). Contains list item) put inside));
    sound = was.sound;
    begins = was.begins;
  }
    where
      mine : ℤ × ℕ
      mine = (entry.weight, place_in_slots (width_of table.shape to) entry.from column)

      last : Contains now mine
      last = subst (λ (list : List (ℤ × ℕ)). Contains list mine) (sym put) (Contains-append_right whole (mine ∷ []) mine (Contains-head mine []))

      still : (one : Entry) → AreCoveredOver table to delta one candidates ⊎ IsWholeEntry table to one whole → AreCoveredOver table to delta one candidates ⊎ IsWholeEntry table to one now
      still one (inl is) = inl is
      still one (inr (place, column_is, inside)) =
          inr (
            place,
            column_is,
            subst (λ (list : List (ℤ × ℕ)). Contains list (one.weight, place_in_slots (width_of table.shape to) one.from place)) (sym put)
                (Contains-append_left whole (mine ∷ []) (one.weight, place_in_slots (width_of table.shape to) one.from place) inside),
          )

      covers : (other : ℕ) (one : Entry) → other < k + 1 → slice_get entries other ≡ Some one → (b : Bool) → (other == k) ≡ b → AreCoveredOver table to delta one candidates ⊎ IsWholeEntry table to one now
      covers other one before at true equal =
          let same : entry ≡ one = same_Some entry one (sym here ∙ (ap (slice_get entries) (sym (eqb-true other k equal)) ∙ at)) in
          inr (subst (λ (e : Entry). IsWholeEntry table to e now) same (column, has, last))
      covers other one before at false apart =
          let earlier : other < k = (let other_place : other ≢ k = λ equal. (let test : (other == k) ≡ true = rw equal (grind (arith, nat_tests)) in absurd cc) in omega arith) in
          still one (was.covers other one earlier at)

      entry_at : (item : ℤ × ℕ) → Contains whole item ⊎ Contains (mine ∷ []) item → IsRowEntryAt table to item
      entry_at item (inl inside) = was.entries_whole item inside
      entry_at item (inr inside) = alone (Contains-cases mine [] item inside)
        where
          alone : (mine ≡ item) ⊎ Contains [] item → IsRowEntryAt table to item
          alone (inl is) = subst (IsRowEntryAt table to) is (entry, held, (column, has, Contains-head mine []))
          alone (inr none) = absurd (Contains-none item none)

  -- one more entry
  pub to_more : (k : ℕ) (entry : Entry) (was now : Seeds) → slice_get entries k ≡ Some entry → HasEdge table (edge_into to entry) → AreTakenTo table to delta entries k was.candidates was.whole.items
      → HasGoneOver table to delta entry was now
      → AreTakenTo table to delta entries (k + 1) now.candidates now.whole.items
  to_more k entry was now here held taken (inl (over, same)) = subst (AreTakenTo table to delta entries (k + 1) now.candidates) (sym same) (to_taken k entry was.candidates now.candidates was.whole.items here held taken over)
  to_more k entry was now here held taken (inr (same, put)) =
      subst (λ (candidates : BestCandidates). AreTakenTo table to delta entries (k + 1) candidates now.whole.items) (sym same) (to_whole k entry was.candidates was.whole.items now.whole.items here held taken put)

-- ---- all entries were gone through
-- a candidate is for the key that it says
record LeadsToKey (table : Graph) (to : PointId) (delta : List (List Edge)) (candidate : Candidate) : Type 0 where
  from : PointId
  label : Option LinkId
  column : ℕ
  inside : from.0 < table.shape.points
  in_column : HasColumn table.shape to label column
  there : candidate.to ≡ place_in_slots (width_of table.shape to) from column
  leads : LeadsTo table to delta candidate.place candidate.weight from label candidate.total

left_of : (a b : Bool) → (a && b) ≡ true → a ≡ true
left_of true b both = refl
left_of false b both = absurd cc

reached : (table : Graph) (to : PointId) (delta : List (List Edge)) → IsGraph table → AreOfTable table delta → (candidate : Candidate) → IsCandidateOf table to delta candidate → LeadsToKey table to delta candidate
reached table to delta sound of_table candidate is = over (is_negative (edge_into to is.entry)) refl is.among
  where
    by_first : is_negative (edge_into to is.entry) ≡ true → (first : Edge) → Contains (delta_at delta is.entry.from) first → improves table (edge_into to is.entry) first ≡ true
        → LeadsToKey table to delta (candidate_over (width_of table.shape to) (edge_into to is.entry) is.column first)
    by_first negative first in_delta better = record {
      from = first.from;
      label = wide_label is.entry.label;
      column = is.column;
      inside = (sound.keys first (of_table is.entry.from first in_delta)).from_point;
      in_column = is.in_column;
      there = refl;
      leads = record {
        slot = first_slot table (key_of (edge_into to is.entry));
        here = slot_here table to (key_of (edge_into to is.entry)) is.column refl (sound.keys (edge_into to is.entry) is.held).from_point is.in_column;
        has = is.held;
        negative = below is.entry.weight negative;
        first = first;
        is_delta = in_delta;
        before = left_of (goes_before first (edge_into to is.entry)) (not (has_at_most table (joined first (edge_into to is.entry)))) better;
        from_is = refl;
        label_is = refl;
        total_is = refl;
      };
    }
      where
        below : (w : ℤ) → int_lt w (pos 0) ≡ true → w <ℤ pos 0
        below w test = grind (arith, ints)

    after : is_negative (edge_into to is.entry) ≡ true → (first : Edge) → Contains (delta_at delta is.entry.from) first → (b : Bool) → improves table (edge_into to is.entry) first ≡ b
        → Contains (if b then candidate_over (width_of table.shape to) (edge_into to is.entry) is.column first ∷ [] else []) candidate → LeadsToKey table to delta candidate
    after negative first in_delta false vain inside = absurd (Contains-none candidate inside)
    after negative first in_delta true better inside = last (Contains-cases (candidate_over (width_of table.shape to) (edge_into to is.entry) is.column first) [] candidate inside)
      where
        last : (candidate_over (width_of table.shape to) (edge_into to is.entry) is.column first ≡ candidate) ⊎ Contains [] candidate → LeadsToKey table to delta candidate
        last (inl same) = subst (LeadsToKey table to delta) same (by_first negative first in_delta better)
        last (inr none) = absurd (Contains-none candidate none)

    over : (b : Bool) → is_negative (edge_into to is.entry) ≡ b → Contains (if b then flat_map (candidate_after table (width_of table.shape to) (edge_into to is.entry) is.column) (delta_at delta is.entry.from) else []) candidate
        → LeadsToKey table to delta candidate
    over false heavy inside = absurd (Contains-none candidate inside)
    over true negative inside = let (first, in_delta, here) = Contains-flat_map_from (candidate_after table (width_of table.shape to) (edge_into to is.entry) is.column) (delta_at delta is.entry.from) candidate inside in
        after negative first in_delta (improves table (edge_into to is.entry) first) refl here

module _ (table : Graph) (to : PointId) (delta : List (List Edge)) (entries : List Entry) (sound : IsGraph table) (of_table : AreOfTable table delta) (are : map (edge_into to) entries ≡ row_of table to) where
  owned : (keys : List Key) (k : ℕ) (key : Key) → AllByRecursion (λ k. k.to ≡ to) keys → slice_get keys k ≡ Some key → key.to ≡ to
  owned [] k key each at = absurd cc
  owned (x ∷ xs) zero key (one, more) at = subst (λ (k : Key). k.to ≡ to) (same_Some x key at) one
  owned (x ∷ xs) (suc k) key (one, more) at = owned xs k key more at

  -- the entry of a slot that has a weight, by the place of its key
  record IsEntered (place : ℕ) (slot : Slot) (weight : ℤ) : Type 0 where
    entry : Entry
    inside : Contains entries entry
    is : edge_into to entry ≡ edge_in to slot weight
    from : slot.from.0 < table.shape.points
    there : slice_get (row_keys table.shape to) place ≡ Some (record { to = to; from = slot.from; label = slot.label })

  entered : (place : ℕ) (slot : Slot) (weight : ℤ) → slice_get (first_slots table to) place ≡ Some slot → slot.weight ≡ Some weight → IsEntered place slot weight
  entered place slot weight at has =
      let (key, there, made) = some_of_map (first_slot table) (slice_get (row_keys table.shape to) place) slot (sym (slice_get-map (first_slot table) (row_keys table.shape to) place) ∙ at) in
      let owner : key.to ≡ to = owned (row_keys table.shape to) place key (row_keys_owned table.shape to) there in
      let key_is : key_of (edge_in to slot weight) ≡ key = λ i. record { to = sym owner i; from = (sym made i).from; label = (sym made i).label } in
      let held : HasEdge table (edge_in to slot weight) = ap (weight_of table) key_is ∙ (ap (λ (s : Slot). s.weight) made ∙ has) in
      let among : Contains (map (edge_into to) entries) (edge_in to slot weight) = subst (λ (list : List Edge). Contains list (edge_in to slot weight)) (sym are) (in_row table to (edge_in to slot weight) held refl) in
      let (entry, inside, entry_is) = Contains-map_from (edge_into to) entries (edge_in to slot weight) among in
      record { entry = entry; inside = inside; is = entry_is; from = (sound.keys (edge_in to slot weight) held).from_point; there = there ∙ ap Some (sym key_is) }

  -- keys at one place are the same, so that what leads to one leads to the other
  leads_there : (candidate : Candidate) → LeadsToKey table to delta candidate → (from : PointId) (label : Option LinkId) (column : ℕ) → from.0 < table.shape.points → HasColumn table.shape to label column
      → candidate.to ≡ place_in_slots (width_of table.shape to) from column → LeadsTo table to delta candidate.place candidate.weight from label candidate.total
  leads_there candidate is from label column inside has there =
      let one : slice_get (row_keys table.shape to) candidate.to ≡ Some (record { to = to; from = is.from; label = is.label }) = ap (slice_get (row_keys table.shape to)) is.there
      ∙ key_here table to (record { to = to; from = is.from; label = is.label }) is.column refl is.inside is.in_column in
      let other : slice_get (row_keys table.shape to) candidate.to ≡ Some (record { to = to; from = from; label = label }) = ap (slice_get (row_keys table.shape to)) there
      ∙ key_here table to (record { to = to; from = from; label = label }) column refl inside has in
      let same : record { to = to; from = is.from; label = is.label } ≡ record { to = to; from = from; label = label } =
      same_Some (record { to = to; from = is.from; label = is.label }) (record { to = to; from = from; label = label }) (sym one ∙ other) in
      subst (λ (key : Key). LeadsTo table to delta candidate.place candidate.weight key.from key.label candidate.total) same is.leads

  module _ (count : ℕ) (candidates : BestCandidates) (whole : List (ℤ × ℕ)) (past : length entries ≤ count) (was : AreTakenTo table to delta entries count candidates whole) where
    whole_sound : (item : ℤ × ℕ) → IsRowEntryAt table to item → (slot : Slot) × (slice_get (first_slots table to) item.1 ≡ Some slot) × (slot.weight ≡ Some item.0)
    whole_sound item (entry, held, (column, has, single)) = by (Contains-cases item [] (entry.weight, place_in_slots (width_of table.shape to) entry.from column) single)
      where
        by : (item ≡ (entry.weight, place_in_slots (width_of table.shape to) entry.from column)) ⊎ Contains {X = ℤ × ℕ} [] (entry.weight, place_in_slots (width_of table.shape to) entry.from column)
            → (slot : Slot) × (slice_get (first_slots table to) item.1 ≡ Some slot) × (slot.weight ≡ Some item.0)
        by (inl is) =
            subst (λ (it : ℤ × ℕ). (slot : Slot) × (slice_get (first_slots table to) it.1 ≡ Some slot) × (slot.weight ≡ Some it.0)) (sym is)
            (first_slot table (key_of (edge_into to entry)), slot_here table to (key_of (edge_into to entry)) column refl (sound.keys (edge_into to entry) held).from_point has, held)
        by (inr none) = absurd (Contains-none (entry.weight, place_in_slots (width_of table.shape to) entry.from column) none)

    begin_sound : (item : ℤ × ℕ) → Contains candidates.begins.items item → (slot : Slot) × (slice_get (first_slots table to) item.1 ≡ Some slot) × (slot.weight ≡ Some item.0)
    begin_sound item inside =
        let (candidate, of, is) = was.begins item inside in
        let leads = (reached table to delta sound of_table candidate of).leads in
        subst (λ (it : ℤ × ℕ). (slot : Slot) × (slice_get (first_slots table to) it.1 ≡ Some slot) × (slot.weight ≡ Some it.0)) is (leads.slot, leads.here, leads.has)

    best : (place : ℕ) (weight : ℤ) (from : PointId) (label : Option LinkId) (total : ℤ) → LeadsTo table to delta place weight from label total → has_at_most table (record { from = from; to = to; label = label; weight = total }) ≡ false
        → IsMatched table to delta (candidates.begins.items ++ whole) place weight from label total
    best place weight from label total leads below =
        let (k, read) = slice_get-contained entries entry at.inside in
        let early = slice_get_within entries k entry read in
        by (was.covers k entry (omega (arith, early, past)) read)
      where
        at : IsEntered place leads.slot weight
        at = entered place leads.slot weight leads.here leads.has

        entry : Entry
        entry = at.entry

        better : improves table (edge_in to leads.slot weight) leads.first ≡ true
        better =
            let joined_is : joined leads.first (edge_in to leads.slot weight) ≡ record { from = from; to = to; label = label; weight = total } =
            λ i. record { from = leads.from_is i; to = to; label = leads.label_is i; weight = sym leads.total_is i } in
            let none : has_at_most table (joined leads.first (edge_in to leads.slot weight)) ≡ false = ap (has_at_most table) joined_is ∙ below in
            λ i. leads.before i && not (none i)

        negative : int_lt weight (pos 0) ≡ true
        negative = is (int_lt weight (pos 0)) refl leads.negative
          where
            is : (b : Bool) → int_lt weight (pos 0) ≡ b → weight <ℤ pos 0 → b ≡ true
            is true test less = refl
            is false test less = absurd (grind (arith, ints))

        among : (column : ℕ) → Contains (candidates_over table delta (width_of table.shape to) (edge_into to entry) column) (candidate_over (width_of table.shape to) (edge_into to entry) column leads.first)
        among column = subst (λ (edge : Edge). Contains (candidates_over table delta (width_of table.shape to) edge column) (candidate_over (width_of table.shape to) edge column leads.first)) (sym at.is) (over negative)
          where
            after : Contains (candidate_after table (width_of table.shape to) (edge_in to leads.slot weight) column leads.first) (candidate_over (width_of table.shape to) (edge_in to leads.slot weight) column leads.first)
            after =
                subst (λ (list : List Candidate). Contains list (candidate_over (width_of table.shape to) (edge_in to leads.slot weight) column leads.first))
                (sym (one_candidate table (width_of table.shape to) (edge_in to leads.slot weight) column leads.first better))
                (Contains-head (candidate_over (width_of table.shape to) (edge_in to leads.slot weight) column leads.first) [])

            over : int_lt weight (pos 0) ≡ true → Contains (candidates_over table delta (width_of table.shape to) (edge_in to leads.slot weight) column)
                (candidate_over (width_of table.shape to) (edge_in to leads.slot weight) column leads.first)
            over test =
                subst (λ (b : Bool). Contains (if b then flat_map (candidate_after table (width_of table.shape to) (edge_in to leads.slot weight) column) (delta_at delta leads.slot.from) else [])
                (candidate_over (width_of table.shape to) (edge_in to leads.slot weight) column leads.first)) (sym test)
                (Contains-flat_map (candidate_after table (width_of table.shape to) (edge_in to leads.slot weight) column) (delta_at delta leads.slot.from) leads.first
                (candidate_over (width_of table.shape to) (edge_in to leads.slot weight) column leads.first) leads.is_delta after)

        same_place : (column : ℕ) → HasColumn table.shape to (wide_label entry.label) column → place_in_slots (width_of table.shape to) entry.from column ≡ place
        same_place column has =
            let point : entry.from.0 < table.shape.points = subst (λ (e : Edge). e.from.0 < table.shape.points) (sym at.is) at.from in
            let here : slice_get (row_keys table.shape to) (place_in_slots (width_of table.shape to) entry.from column) ≡ Some (record { to = to; from = leads.slot.from; label = leads.slot.label }) =
            key_here table to (key_of (edge_into to entry)) column refl point has ∙ ap (λ (e : Edge). Some (key_of e)) at.is in
            only_place (row_keys table.shape to) (row_keys_rise table.shape to) (place_in_slots (width_of table.shape to) entry.from column) place (record { to = to; from = leads.slot.from; label = leads.slot.label }) here at.there

        matched : (column : ℕ) → HasColumn table.shape to (wide_label entry.label) column → IsCovered candidates (candidate_over (width_of table.shape to) (edge_into to entry) column leads.first)
            → IsMatched table to delta (candidates.begins.items ++ whole) place weight from label total
        matched column has is = record {
          one = (is.one.weight, is.one.place);
          inside = Contains-append_left candidates.begins.items whole (is.one.weight, is.one.place) (listed_at candidates.begins.items is.has.k (is.one.weight, is.one.place) is.has.begin);
          reached = is.one.total;
          leads = leads_there is.one (reached table to delta sound of_table is.one (was.sound is.one is.has)) from label column inside in_column (is.same_key
              ∙ ap (λ (p : PointId). place_in_slots (width_of table.shape to) p column) leads.from_is);
          no_worse = no_worse;
        }
          where
            inside : from.0 < table.shape.points
            inside = subst (λ (p : PointId). p.0 < table.shape.points) leads.from_is (sound.keys leads.first (of_table leads.slot.from leads.first leads.is_delta)).from_point

            in_column : HasColumn table.shape to label column
            in_column = subst (λ (l : Option LinkId). HasColumn table.shape to l column) (ap (λ (e : Edge). e.label) at.is ∙ leads.label_is) has

            no_worse : IsNoWorse is.one.total is.one.weight is.one.place total weight place
            no_worse =
                subst (λ (n : ℕ). IsNoWorse is.one.total is.one.weight is.one.place total weight n) (same_place column has)
                (subst (λ (w : ℤ). IsNoWorse is.one.total is.one.weight is.one.place total w (place_in_slots (width_of table.shape to) entry.from column)) (ap (λ (e : Edge). e.weight) at.is)
                (subst (λ (t : ℤ). IsNoWorse is.one.total is.one.weight is.one.place t entry.weight (place_in_slots (width_of table.shape to) entry.from column)) (ap (joined_weight leads.first) at.is ∙ sym leads.total_is) is.no_worse))

        -- the place itself is one of them
        itself : (column : ℕ) → HasColumn table.shape to (wide_label entry.label) column → Contains whole (entry.weight, place_in_slots (width_of table.shape to) entry.from column)
            → IsMatched table to delta (candidates.begins.items ++ whole) place weight from label total
        itself column has inside = record {
          one = (weight, place);
          inside = Contains-append_right candidates.begins.items whole (weight, place) (subst (Contains whole) (λ i. ((at.is i).weight, same_place column has i)) inside);
          reached = total;
          leads = leads;
          no_worse = inr (refl, inr (refl, omega arith));
        }

        by : AreCoveredOver table to delta entry candidates ⊎ IsWholeEntry table to entry whole → IsMatched table to delta (candidates.begins.items ++ whole) place weight from label total
        by (inl (column, column_is, all)) = matched column column_is (all (candidate_over (width_of table.shape to) (edge_into to entry) column leads.first) (among column))
        by (inr (column, column_is, inside)) = itself column column_is inside

    pub to_all : (items : List (ℤ × ℕ)) → items ≡ candidates.begins.items ++ whole → AreBest table to delta items
    to_all items is = subst (AreBest table to delta) (sym is) (record { sound = λ item inside. sound_in item (Contains-append_cases candidates.begins.items whole item inside); best = best })
      where
        sound_in : (item : ℤ × ℕ) → Contains candidates.begins.items item ⊎ Contains whole item → (slot : Slot) × (slice_get (first_slots table to) item.1 ≡ Some slot) × (slot.weight ≡ Some item.0)
        sound_in item (inl inside) = begin_sound item inside
        sound_in item (inr inside) = whole_sound item (was.entries_whole item inside)
