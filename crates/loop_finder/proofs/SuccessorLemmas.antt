-- The lists of where negative ordinary edges go, as they are filled.
use Rattle.std.proofs.Common.{◌≡◌, ◌≢◌, ℕ, zero, suc, ◌+◌, ◌==◌, ◌<◌, ◌≤◌, ℤ, pos, Bool, true, false, cond, ◌&&◌, List, [], ◌∷◌, ◌++◌, map, filter, length, take, drop, get_or, set, get_or-set_same, get_or-set_other, length-set, Option}
use Rattle.std.proofs.Common.{Some, None, refl, ap, sym, subst, ◌∙◌, arith}
use Rattle.std.specs.Prelude.{int_lt, replicate}
use Rattle.std.specs.Option.{option_map, option_map_or}
use Rattle.std.specs.List.{Contains, cons_option, filter_map, range_with_len}
use Rattle.std.proofs.lemmas.Bool.{eqb-true}
use Rattle.std.proofs.lemmas.Bool.Decides.{nat_tests}
use Rattle.std.proofs.lemmas.List.{take_more, take_all, drop_all, append-nil, append_assoc, map-append, length-replicate}
use Rattle.std.proofs.lemmas.List.FromFn.{filter_of_map_range_with_len_more}
use Rattle.std.proofs.lemmas.List.Elements.{filter-append, Contains-get_or}
use Rattle.net_model.specs.declared.ids.PointId.{PointId}
use Rattle.net_model.specs.declared.part.Edge.{Edge}
use Rattle.closure_model.specs.Keys.{edge_of, ordinary_key}
use Rattle.closure_model.specs.Orders.{goes}
use Rattle.closure_model.specs.ReferenceRow.{ordinary_into}
use Rattle.closure_model.specs.Tables.{Graph, weight_of, row_of, edges_of, IsGraph}
use Rattle.closure_model.proofs.Lists.{Contains-map, Contains-filter_from}
use Rattle.closure_model.proofs.TableLemmas.{listed_edge}
use Rattle.labelled_graph.specs.declared.entry.Entry.{Entry}
use Rattle.labelled_graph.specs.Entries.{edge_into, is_ordinary}
use Rattle.loop_finder.specs.NegativeSuccessors.{point, is_negative_entry, targets_of, with_target, AreNegativeSuccessors}

-- an entry begins in a point of the table
pub entry_begins : (graph : Graph) (to : PointId) (entries : List Entry) → IsGraph graph → map (edge_into to) entries ≡ row_of graph to → (k : ℕ) (d : Entry) → k < length entries → (get_or entries k d).from.0 < graph.shape.points
entry_begins graph to entries sound are k d inside =
    let entry = get_or entries k d in
    let in_row : Contains (row_of graph to) (edge_into to entry) = subst (λ es. Contains es (edge_into to entry)) are (Contains-map (edge_into to) entries entry (Contains-get_or entries k d inside)) in
    let in_table : Contains (edges_of graph) (edge_into to entry) = Contains-filter_from (λ (edge : Edge). edge.to.0 == to.0) (edges_of graph) (edge_into to entry) in_row in
    (sound.keys (edge_into to entry) (listed_edge graph (edge_into to entry) in_table)).from_point

-- ---- one target put at the end of the lists of its sources
from_test : ℕ → Entry → Bool
from_test k entry = is_negative_entry entry && entry.from.0 == k

-- what is put at the end of the list of a point
abbrev pub added : PointId → ℕ → List Entry → List PointId
added to k entries = map (λ (entry : Entry). to) (filter (λ (entry : Entry). is_negative_entry entry && entry.from.0 == k) entries)

pub added_more : (to : PointId) (k i : ℕ) (entries : List Entry) (d : Entry) → i < length entries
    → added to k (take (i + 1) entries) ≡ added to k (take i entries) ++ cond (is_negative_entry (get_or entries i d) && (get_or entries i d).from.0 == k) (to ∷ []) []
added_more to k i entries d inside =
    let test : Entry → Bool = λ entry. is_negative_entry entry && entry.from.0 == k in
    ap (λ es. map (λ (entry : Entry). to) (filter (λ (entry : Entry). is_negative_entry entry && entry.from.0 == k) es)) (take_more entries i d inside)
    ∙ ap (map (λ (entry : Entry). to)) (filter-append (λ (entry : Entry). is_negative_entry entry && entry.from.0 == k) (take i entries) (get_or entries i d ∷ []))
    ∙ map-append (λ (entry : Entry). to) (filter (λ (entry : Entry). is_negative_entry entry && entry.from.0 == k) (take i entries)) _
    ∙ ap (λ ps. added to k (take i entries) ++ ps) (one (is_negative_entry (get_or entries i d) && (get_or entries i d).from.0 == k))
  where
    one : (b : Bool) → map (λ (entry : Entry). to) (cond b (get_or entries i d ∷ []) []) ≡ cond b (to ∷ []) []
    one true = refl
    one false = refl

-- the lists after some of the entries
pub record ArePushed (to : PointId) (before lists : List (List PointId)) (entries : List Entry) : Type 0 where
  pub count : length lists ≡ length before
  pub each : (k : ℕ) → k < length before → get_or lists k [] ≡ get_or before k [] ++ added to k entries

pub pushed_none : (to : PointId) (before : List (List PointId)) (entries : List Entry) → ArePushed to before before (take 0 entries)
pushed_none to before entries = record { count = refl; each = λ k inside. sym (append-nil (get_or before k [])) }

-- the next of the entries
module _ (to : PointId) (before lists : List (List PointId)) (entries : List Entry) (i : ℕ) (d : Entry) (inside : i < length entries) where
  pub pushed_past : is_negative_entry (get_or entries i d) ≡ false → ArePushed to before lists (take i entries)
      → ArePushed to before lists (take (i + 1) entries)
  pushed_past other held = record {
    count = held.count;
    each = λ k within. held.each k within
        ∙ ap (λ ps. get_or before k [] ++ ps) (sym (added_more to k i entries d inside ∙ ap (λ b. added to k (take i entries) ++ cond (b && (get_or entries i d).from.0 == k) (to ∷ []) []) other ∙ append-nil (added to k (take i entries))));
  }

  pub pushed_one : is_negative_entry (get_or entries i d) ≡ true → (get_or entries i d).from.0 < length before
      → ArePushed to before lists (take i entries) → (old new : List PointId) → old ≡ get_or lists (get_or entries i d).from.0 old → new ≡ old ++ to ∷ []
      → ArePushed to before (set lists (get_or entries i d).from.0 new) (take (i + 1) entries)
  pushed_one negative begins held old new read pushed = record {
    count = length-set lists (get_or entries i d).from.0 new ∙ held.count;
    each = λ k within. by k within ((get_or entries i d).from.0 == k) refl;
  }
    where
      from : ℕ
      from = (get_or entries i d).from.0

      in_lists : (get_or entries i d).from.0 < length lists
      in_lists = let count = held.count in omega arith

      here : get_or lists (get_or entries i d).from.0 [] ≡ old
      here = same lists (get_or entries i d).from.0 in_lists ∙ sym read
        where
          same : (ls : List (List PointId)) (k : ℕ) → k < length ls → get_or ls k [] ≡ get_or ls k old
          same [] k less = absurd (omega arith)
          same (l ∷ ls) zero less = refl
          same (l ∷ ls) (suc k) less = same ls k (omega arith)

      last : (k : ℕ) (b : Bool) → (get_or entries i d).from.0 == k ≡ b → added to k (take (i + 1) entries) ≡ added to k (take i entries) ++ cond b (to ∷ []) []
      last k b is = added_more to k i entries d inside ∙ (λ j. added to k (take i entries) ++ cond (negative j && is j) (to ∷ []) [])

      by : (k : ℕ) → k < length before → (b : Bool) → (get_or entries i d).from.0 == k ≡ b → get_or (set lists (get_or entries i d).from.0 new) k [] ≡ get_or before k [] ++ added to k (take (i + 1) entries)
      by k within true is =
          let same : (get_or entries i d).from.0 ≡ k = eqb-true (get_or entries i d).from.0 k is in
          let now : get_or (set lists (get_or entries i d).from.0 new) k [] ≡ new = ap (get_or' (set lists (get_or entries i d).from.0 new)) (sym same) ∙ get_or-set_same lists (get_or entries i d).from.0 new [] in_lists in
          now ∙ pushed
          ∙ ap (λ ps. ps ++ to ∷ []) (sym here ∙ ap (get_or' lists) same ∙ held.each k within)
          ∙ append_assoc (get_or before k []) (added to k (take i entries)) (to ∷ [])
          ∙ ap (λ ps. get_or before k [] ++ ps) (sym (last k true is))
        where
          get_or' : List (List PointId) → ℕ → List PointId
          get_or' ls j = get_or ls j []
      by k within false is =
          let apart : k ≢ (get_or entries i d).from.0 = λ same. (let test : (get_or entries i d).from.0 == k ≡ true = grind (arith, nat_tests) in absurd cc) in
          let kept : get_or (set lists (get_or entries i d).from.0 new) k [] ≡ get_or lists k [] = grind (arith, get_or-set_other) in
          kept ∙ held.each k within ∙ ap (λ ps. get_or before k [] ++ ps) (sym (last k false is ∙ append-nil (added to k (take i entries))))

pub pushed_entry : (to : PointId) (before lists after : List (List PointId)) (entries : List Entry) (i : ℕ) (d : Entry) → i < length entries → (get_or entries i d).from.0 < length before → ArePushed to before lists (take i entries)
    → after ≡ with_target lists (get_or entries i d) to → ArePushed to before after (take (i + 1) entries)
pushed_entry to before lists after entries i d inside begins held is = subst (λ ls. ArePushed to before ls (take (i + 1) entries)) (sym is) (by (is_negative_entry (get_or entries i d)) refl)
  where
    by : (b : Bool) → is_negative_entry (get_or entries i d) ≡ b → ArePushed to before (with_target lists (get_or entries i d) to) (take (i + 1) entries)
    by true negative =
        subst (λ c. ArePushed to before (cond c (set lists (get_or entries i d).from.0 (targets_of lists (get_or entries i d).from ++ to ∷ [])) lists) (take (i + 1) entries)) (sym negative)
        (pushed_one to before lists entries i d inside negative begins held (targets_of lists (get_or entries i d).from) (targets_of lists (get_or entries i d).from ++ to ∷ [])
        (same lists (get_or entries i d).from.0 (let count = held.count in omega arith)) refl)
      where
        same : (ls : List (List PointId)) (k : ℕ) → k < length ls → get_or ls k [] ≡ get_or ls k (get_or ls k [])
        same [] k less = absurd (omega arith)
        same (l ∷ ls) zero less = refl
        same (l ∷ ls) (suc k) less = same ls k (omega arith)
    by false other = subst (λ c. ArePushed to before (cond c (set lists (get_or entries i d).from.0 (targets_of lists (get_or entries i d).from ++ to ∷ [])) lists) (take (i + 1) entries)) (sym other)
        (pushed_past to before lists entries i d inside other held)

-- a vector that was lent and has what came back
pub wrote_back : {X : Type 0} (n : ℕ) (new items : List X) → n ≡ length items → length new ≡ length items → take n (new ++ drop (length new) items) ≡ new
wrote_back n new items long same = let none : drop (length new) items ≡ [] = drop_all (length new) items (omega arith) in ap (λ xs. take n (new ++ xs)) none ∙ ap (take n) (append-nil new) ∙ take_all n new (omega arith)

-- ---- what all entries of a row add
-- the ordinary edges of a row
abbrev pub ordinary_edges : PointId → List Entry → List Edge
ordinary_edges to entries = map (edge_into to) (filter is_ordinary entries)

edge_test : ℕ → Edge → Bool
edge_test k edge = int_lt edge.weight (pos 0) && edge.from.0 == k

module _ (to : PointId) (k : ℕ) where
  same_count : (entries : List Entry) → map (λ (entry : Entry). to) entries ≡ map (λ (edge : Edge). to) (map (edge_into to) entries)
  same_count [] = refl
  same_count (entry ∷ entries) = ap (λ ps. to ∷ ps) (same_count entries)

  -- the entries, and the edges, that are negative and from the point
  abbrev own : List Entry → List Entry
  own entries = filter (λ (entry : Entry). is_negative_entry entry && entry.from.0 == k) entries

  abbrev tested : List Edge → List Edge
  tested edges = filter (λ (edge : Edge). int_lt edge.weight (pos 0) && edge.from.0 == k) edges

  filtered : (entries : List Entry) → map (edge_into to) (own entries)
      ≡ tested (ordinary_edges to entries)
  filtered [] = refl
  filtered (entry ∷ entries) = by (is_ordinary entry) refl (filtered entries)
    where
      both : (b : Bool) → map (edge_into to) (own entries) ≡ tested (ordinary_edges to entries)
          → map (edge_into to) (cond b (entry ∷ own entries) (own entries))
          ≡ cond b (edge_into to entry ∷ tested (ordinary_edges to entries)) (tested (ordinary_edges to entries))
      both true more = ap (λ es. edge_into to entry ∷ es) more
      both false more = more

      by : (b : Bool) → is_ordinary entry ≡ b → map (edge_into to) (own entries) ≡ tested (ordinary_edges to entries)
          → map (edge_into to) (own (entry ∷ entries)) ≡ tested (ordinary_edges to (entry ∷ entries))
      by true is more =
          (λ i. map (edge_into to) (cond ((is i && int_lt entry.weight (pos 0)) && entry.from.0 == k) (entry ∷ filter (λ (entry : Entry). is_negative_entry entry && entry.from.0 == k) entries)
          (filter (λ (entry : Entry). is_negative_entry entry && entry.from.0 == k) entries)))
          ∙ both (int_lt entry.weight (pos 0) && entry.from.0 == k) more
          ∙ sym (ap (λ b. filter (λ (edge : Edge). int_lt edge.weight (pos 0) && edge.from.0 == k) (map (edge_into to) (cond b (entry ∷ filter is_ordinary entries) (filter is_ordinary entries)))) is)
      by false is more =
          (λ i. map (edge_into to) (cond ((is i && int_lt entry.weight (pos 0)) && entry.from.0 == k) (entry ∷ filter (λ (entry : Entry). is_negative_entry entry && entry.from.0 == k) entries)
          (filter (λ (entry : Entry). is_negative_entry entry && entry.from.0 == k) entries)))
          ∙ more
          ∙ sym (ap (λ b. filter (λ (edge : Edge). int_lt edge.weight (pos 0) && edge.from.0 == k) (map (edge_into to) (cond b (entry ∷ filter is_ordinary entries) (filter is_ordinary entries)))) is)

  module _ (graph : Graph) where
    abbrev edge_from : PointId → Option Edge
    edge_from from = option_map (edge_of (ordinary_key from to)) (weight_of graph (ordinary_key from to))

    -- an edge from another point does not pass
    passed_over : (a : ℕ) (edges : List Edge) → a == k ≡ false → tested (cons_option (edge_from (point a)) edges) ≡ tested edges
    passed_over a edges apart = by (weight_of graph (ordinary_key (point a) to))
      where
        fails : (b : Bool) → (b && a == k) ≡ false
        fails true = apart
        fails false = refl

        by : (o : Option ℤ) → tested (cons_option (option_map (edge_of (ordinary_key (point a) to)) o) edges) ≡ tested edges
        by None = refl
        by (Some w) = ap (λ b. cond b (edge_of (ordinary_key (point a) to) w ∷ tested edges) (tested edges)) (fails (int_lt w (pos 0)))

    none_from : (a n : ℕ) → k < a → tested (filter_map edge_from (map point (range_with_len a n))) ≡ []
    none_from a zero less = refl
    none_from a (suc n) less =
        let apart : a == k ≡ false = grind (arith, nat_tests) in
        passed_over a (filter_map edge_from (map point (range_with_len (a + 1) n))) apart ∙ none_from (a + 1) n (omega arith)

    one_from : (a n : ℕ) → a ≤ k → k < a + n → map (λ (edge : Edge). to) (tested (filter_map edge_from (map point (range_with_len a n)))) ≡ cond (goes graph (point k) to) (to ∷ []) []
    one_from a zero low high = absurd (omega arith)
    one_from a (suc n) low high = by (a == k) refl (λ later. one_from (a + 1) n later (omega arith))
      where
        by : (b : Bool) → a == k ≡ b → (a + 1 ≤ k → map (λ (edge : Edge). to) (tested (filter_map edge_from (map point (range_with_len (a + 1) n)))) ≡ cond (goes graph (point k) to) (to ∷ []) [])
            → map (λ (edge : Edge). to) (tested (cons_option (edge_from (point a)) (filter_map edge_from (map point (range_with_len (a + 1) n))))) ≡ cond (goes graph (point k) to) (to ∷ []) []
        by false is later =
            let apart : a ≢ k = (λ same. let test : a == k ≡ true = grind (arith, nat_tests) in absurd cc) in
            ap (map (λ (edge : Edge). to)) (passed_over a (filter_map edge_from (map point (range_with_len (a + 1) n))) is) ∙ later (omega arith)
        by true is later =
            let same : a ≡ k = eqb-true a k is in
            here (weight_of graph (ordinary_key (point a) to)) ∙ ap (λ (m : ℕ). cond (goes graph (point m) to) (to ∷ []) []) same
          where
            rest : List Edge
            rest = filter_map edge_from (map point (range_with_len (a + 1) n))

            nothing : tested (filter_map edge_from (map point (range_with_len (a + 1) n))) ≡ []
            nothing = let same : a ≡ k = eqb-true a k is in none_from (a + 1) n (omega arith)

            here : (o : Option ℤ) → map (λ (edge : Edge). to) (tested (cons_option (option_map (edge_of (ordinary_key (point a) to)) o) (filter_map edge_from (map point (range_with_len (a + 1) n))))) ≡ cond
                (option_map_or (λ weight. int_lt weight (pos 0)) o false) (to ∷ []) []
            here None = ap (map (λ (edge : Edge). to)) nothing
            here (Some w) = one (int_lt w (pos 0))
              where
                one : (b : Bool) → map (λ (edge : Edge). to) (cond (b && a == k) (edge_of (ordinary_key (point a) to) w ∷ tested (filter_map edge_from (map point (range_with_len (a + 1) n))))
                    (tested (filter_map edge_from (map point (range_with_len (a + 1) n))))) ≡ cond b (to ∷ []) []
                one true = (λ i. map (λ (edge : Edge). to) (cond (is i) (edge_of (ordinary_key (point a) to) w ∷ nothing i) (nothing i)))
                one false = ap (map (λ (edge : Edge). to)) nothing

    pub all_added : (entries : List Entry) → ordinary_edges to entries ≡ ordinary_into graph to → k < graph.shape.points → added to k entries ≡ cond (goes graph (point k) to) (to ∷ []) []
    all_added entries are inside =
        same_count (filter (λ (entry : Entry). is_negative_entry entry && entry.from.0 == k) entries)
        ∙ ap (map (λ (edge : Edge). to)) (filtered entries ∙ ap tested are)
        ∙ one_from 0 graph.shape.points (omega arith) (omega arith)

pub pushed_all : (graph : Graph) (to : PointId) (before lists : List (List PointId)) (entries : List Entry) (n : ℕ) → length before ≡ graph.shape.points → ordinary_edges to entries ≡ ordinary_into graph to
    → length entries ≤ n → ArePushed to before lists (take n entries) → (k : ℕ) → k < length before → get_or lists k [] ≡ get_or before k [] ++ cond (goes graph (point k) to) (to ∷ []) []
pushed_all graph to before lists entries n count are done held k inside =
    held.each k inside ∙ ap (λ ps. get_or before k [] ++ ps) (ap (added to k) (take_all n entries done) ∙ all_added to k graph entries are (omega (arith, count)))

-- ---- the lists after some of the targets
pub record AreFilled (graph : Graph) (lists : List (List PointId)) (n : ℕ) : Type 0 where
  pub count : length lists ≡ graph.shape.points
  pub each : (k : ℕ) → k < length lists → get_or lists k [] ≡ filter (goes graph (point k)) (map point (range_with_len 0 n))

nothing_filled : (n k : ℕ) → get_or (replicate {A = List PointId} n []) k [] ≡ []
nothing_filled zero k = refl
nothing_filled (suc n) zero = refl
nothing_filled (suc n) (suc k) = nothing_filled n k

pub filled_none : (graph : Graph) (lists : List (List PointId)) (points : ℕ) → points ≡ graph.shape.points → lists ≡ replicate points [] → AreFilled graph lists 0
filled_none graph lists points same are = record {
  count = ap length are ∙ (let count : length (replicate {A = List PointId} points []) ≡ points = length-replicate points [] in count) ∙ same;
  each = λ k inside. ap (λ ls. get_or ls k []) are ∙ nothing_filled points k;
}

pub filled_more : (graph : Graph) (before lists : List (List PointId)) (n : ℕ) → AreFilled graph before n → length lists ≡ length before
    → ((k : ℕ) → k < length before → get_or lists k [] ≡ get_or before k [] ++ cond (goes graph (point k) (point n)) (point n ∷ []) [])
    → AreFilled graph lists (n + 1)
filled_more graph before lists n filled count pushed = record {
  count = count ∙ filled.count;
  each = λ k inside. (let within : k < length before = omega (arith, count) in
      pushed k within ∙ ap (λ ps. ps ++ cond (goes graph (point k) (point n)) (point n ∷ []) []) (filled.each k within) ∙ sym (filter_of_map_range_with_len_more (goes graph (point k)) point 0 n n (omega arith)));
}

pub filled_all : (graph : Graph) (lists : List (List PointId)) (n : ℕ) → AreFilled graph lists n → n ≡ graph.shape.points → AreNegativeSuccessors graph lists
filled_all graph lists n filled done = record {
  count = filled.count;
  each = λ k inside. filled.each k inside ∙ ap (λ m. filter (goes graph (point k)) (map point (range_with_len 0 m))) done;
}
