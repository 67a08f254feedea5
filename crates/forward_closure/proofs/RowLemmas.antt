-- Lists of sources to which one is added, words that are set and taken away, and rows of a table to which its edges are added one by one.
use Rattle.std.proofs.Common.{◌≡◌, ◌≢◌, ◌==◌, ℕ, ◌+◌, ◌<◌, ◌≤◌, ℤ, pos, ◌≤ℤ◌, ◌<ℤ◌, ◌⊎◌, Bool, true, false, List, [], ◌∷◌, ◌++◌, map, length, take, drop, get_or, Option, Some, None, refl, ap, sym, subst, ◌∙◌, inl, inr, arith}
use Rattle.std.specs.Prelude.{int_lt, replicate, slice_set}
use Rattle.std.specs.List.{All, Contains}
use Rattle.std.proofs.lemmas.Bool.{cases_eq}
use Rattle.std.proofs.lemmas.Int.{ints}
use Rattle.std.proofs.lemmas.List.{drop_more, map-append, map-set, get_or-map, replicate_more, map_more, take_all, length-set, length-replicate, get_or-set_same, get_or-set_other, get_or-replicate, get_or_past}
use Rattle.std.proofs.lemmas.List.Elements.{All-nil, All-push, Contains-append_left, Contains-append_right, Contains-push, Contains-push_cases, Contains-get_or}
use Rattle.net_model.specs.Network.{Plan}
use Rattle.net_model.specs.Edges.{IsEdge}
use Rattle.net_model.specs.declared.ids.LinkId.{LinkId}
use Rattle.net_model.specs.declared.ids.PointId.{PointId}
use Rattle.net_model.specs.declared.part.Edge.{Edge}
use Rattle.closure_model.specs.Derivable.{IsDerivable}
use Rattle.closure_model.specs.Tables.{Graph, HasEdge, row_of, edges_of}
use Rattle.closure_model.proofs.Lists.{Contains-cases, Contains-filter_from, Contains-map}
use Rattle.closure_model.proofs.TableLemmas.{listed_edge}
use Rattle.labelled_graph.specs.Entries.{edge_into}
use Rattle.labelled_graph.specs.Words.{absent}
use Rattle.labelled_graph.specs.declared.entry.Entry.{Entry}
use Rattle.network_closure.specs.Saturation.{IsPartialClosure}
use Rattle.network_closure.proofs.ConsequenceLemmas.{given_if, label_known}
use Rattle.network_closure.proofs.CopyLemmas.{target_more}
use Rattle.network_closure.proofs.PartialClosureLemmas.{derivable_is, derivable_size}
use Rattle.forward_closure.specs.Sources.{source_of, edge_from, list_at, added_at, AreWordsOfSources}
use Rattle.forward_closure.specs.SparseRows.{HaveRowsFor, HaveRoomFor, AreOfTable, AreRowsAmong, AreRowsOf, StandsInRow, list_for, rows_with, rows_without_edges}
use Rattle.forward_closure.specs.declared.source.Source.{Source}
use Rattle.forward_closure.specs.declared.sparse_rows.SparseRows.{SparseRows}

-- ---- lists as vectors of vectors
module _ {X : Type 0} (shows : X → List Source) where
  pub empty_more : (lists : List X) (n : ℕ) (list : X) → map shows lists ≡ replicate n [] → shows list ≡ [] → map shows (lists ++ list ∷ []) ≡ replicate (n + 1) []
  empty_more lists n list before empty = map-append shows lists (list ∷ []) ∙ ((λ i. before i ++ empty i ∷ []) ∙ replicate_more n [])

  pub added_shown : (lists : List X) (place : ℕ) (source : Source) (old new : X) → place < length lists → old ≡ get_or lists place old → shows new ≡ shows old ++ source ∷ []
      → map shows (slice_set lists place new) ≡ added_at (map shows lists) place source
  added_shown lists place source old new inside is pushed =
      map-set shows lists place new
      ∙ ap (slice_set (map shows lists) place) (pushed ∙ ap (λ (sources : List Source). sources ++ source ∷ []) (ap shows is ∙ sym (get_or-map shows lists place old [] inside)))

-- ---- lists
module _ (lists : List (List Source)) (place : ℕ) (source : Source) (inside : place < length lists) where
  at_place : list_at (added_at lists place source) place ≡ list_at lists place ++ source ∷ []
  at_place = get_or-set_same lists place (list_at lists place ++ source ∷ []) [] inside

  at_other : (k : ℕ) → k ≢ place → list_at (added_at lists place source) k ≡ list_at lists k
  at_other k other = get_or-set_other lists place k (list_at lists place ++ source ∷ []) [] other

  -- what stands in a list still does
  still_stands : (k : ℕ) (one : Source) → Contains (list_at lists k) one → Contains (list_at (added_at lists place source) k) one
  still_stands k one stands = by (cases_eq k place)
    where
      by : (k ≡ place) ⊎ (k ≢ place) → Contains (list_at (added_at lists place source) k) one
      by (inl same) =
          subst (λ (n : ℕ). Contains (list_at (added_at lists place source) n) one) (sym same)
          (subst (λ (l : List Source). Contains l one) (sym at_place) (Contains-append_left (list_at lists place) (source ∷ []) one (subst (λ (n : ℕ). Contains (list_at lists n) one) same stands)))
      by (inr other) = subst (λ (l : List Source). Contains l one) (sym (at_other k other)) stands

  now_stands : Contains (list_at (added_at lists place source) place) source
  now_stands = subst (λ (l : List Source). Contains l source) (sym at_place) (Contains-push (list_at lists place) source)

  -- what holds of each source of a list, and of the new one, holds of each
  all_still : (P : ℕ → Source → Type 0) → ((k : ℕ) → All (P k) (list_at lists k)) → P place source → (k : ℕ) → All (P k) (list_at (added_at lists place source) k)
  all_still P each here k = by (cases_eq k place)
    where
      by : (k ≡ place) ⊎ (k ≢ place) → All (P k) (list_at (added_at lists place source) k)
      by (inl same) =
          subst (λ (n : ℕ). All (P n) (list_at (added_at lists place source) n)) (sym same)
          (subst (All (P place)) (sym at_place) (All-push (P place) (list_at lists place) source (each place) here))
      by (inr other) = subst (All (P k)) (sym (at_other k other)) (each k)

  same_length : length (added_at lists place source) ≡ length lists
  same_length = length-set lists place (list_at lists place ++ source ∷ [])

-- ---- words
abbrev pub no_source : Source
no_source = record { from = record { 0 = 0 }; weight = pos 0 }

pub absent_words : (points : ℕ) (words : List ℤ) → words ≡ replicate points absent → AreWordsOfSources [] words
absent_words points words is from inside =
    let count : length words ≡ points = ap length is ∙ length-replicate points absent in
    inl (ap (λ (l : List ℤ). get_or l from.0 (pos 0)) is ∙ get_or-replicate points from.0 absent (pos 0) (omega (arith, count, inside)))

-- a word is set
pub words_more : (before row : List Source) (words : List ℤ) (source : Source) (word : ℤ) → word ≡ source.weight → source.from.0 < length words → Contains row source → AreWordsOfSources (before ++ row) words
    → AreWordsOfSources (before ++ row) (slice_set words source.from.0 word)
words_more before row words source word same inside stands are from within = by (cases_eq from.0 source.from.0)
  where
    by : (from.0 ≡ source.from.0) ⊎ (from.0 ≢ source.from.0)
        → (get_or (slice_set words source.from.0 word) from.0 (pos 0) ≡ absent) ⊎ Contains (before ++ row) (record { from = from; weight = get_or (slice_set words source.from.0 word) from.0 (pos 0) })
    by (inl here) =
        let is : get_or (slice_set words source.from.0 word) from.0 (pos 0) ≡ source.weight =
        ap (λ (k : ℕ). get_or (slice_set words source.from.0 word) k (pos 0)) here ∙ get_or-set_same words source.from.0 word (pos 0) inside ∙ same in
        let point : from ≡ source.from = ap (λ (k : ℕ). record { 0 = k }) here in
        let one : source ≡ record { from = from; weight = get_or (slice_set words source.from.0 word) from.0 (pos 0) } = λ i. record { from = sym point i; weight = sym is i } in
        inr (subst (Contains (before ++ row)) one (Contains-append_right before row source stands))
    by (inr other) =
        let is : get_or words from.0 (pos 0) ≡ get_or (slice_set words source.from.0 word) from.0 (pos 0) = sym (get_or-set_other words source.from.0 from.0 word (pos 0) other) in
        subst (λ (w : ℤ). (w ≡ absent) ⊎ Contains (before ++ row) (record { from = from; weight = w })) is
        (are from (let long = length-set words source.from.0 word in omega (arith, long, within)))

-- the words as they were are some of the sources and of more
pub words_begin : (before row : List Source) (words : List ℤ) → AreWordsOfSources before words → AreWordsOfSources (before ++ row) words
words_begin before row words are from inside = by (are from inside)
  where
    by : (get_or words from.0 (pos 0) ≡ absent) ⊎ Contains before (record { from = from; weight = get_or words from.0 (pos 0) })
        → (get_or words from.0 (pos 0) ≡ absent) ⊎ Contains (before ++ row) (record { from = from; weight = get_or words from.0 (pos 0) })
    by (inl none) = inl none
    by (inr stands) = inr (Contains-append_left before row _ stands)

-- a word is taken away
pub words_less : (others row : List Source) (words : List ℤ) (place : ℕ) → place < length row → AreWordsOfSources (drop place row ++ others) words
    → AreWordsOfSources (drop (place + 1) row ++ others) (slice_set words (get_or row place no_source).from.0 absent)
words_less others row words place inside are from within = by (cases_eq from.0 (get_or row place no_source).from.0)
  where
    long : length (slice_set words (get_or row place no_source).from.0 absent) ≡ length words
    long = length-set words (get_or row place no_source).from.0 absent

    rest : from.0 ≢ (get_or row place no_source).from.0 → (get_or words from.0 (pos 0) ≡ absent) ⊎ Contains (drop place row ++ others) (record { from = from; weight = get_or words from.0 (pos 0) })
        → (get_or words from.0 (pos 0) ≡ absent) ⊎ Contains (drop (place + 1) row ++ others) (record { from = from; weight = get_or words from.0 (pos 0) })
    rest other (inl none) = inl none
    rest other (inr stands) = either (Contains-cases (get_or row place no_source) (drop (place + 1) row ++ others) (record { from = from; weight = get_or words from.0 (pos 0) })
        (subst (λ (l : List Source). Contains (l ++ others) (record { from = from; weight = get_or words from.0 (pos 0) })) (drop_more row place no_source inside) stands))
      where
        either : (get_or row place no_source ≡ record { from = from; weight = get_or words from.0 (pos 0) }) ⊎ Contains (drop (place + 1) row ++ others) (record { from = from; weight = get_or words from.0 (pos 0) })
            → (get_or words from.0 (pos 0) ≡ absent) ⊎ Contains (drop (place + 1) row ++ others) (record { from = from; weight = get_or words from.0 (pos 0) })
        either (inl same) = absurd (other (sym (ap (λ (s : Source). s.from.0) same)))
        either (inr later) = inr later

    by : (from.0 ≡ (get_or row place no_source).from.0) ⊎ (from.0 ≢ (get_or row place no_source).from.0)
        → (get_or (slice_set words (get_or row place no_source).from.0 absent) from.0 (pos 0) ≡ absent)
        ⊎ Contains (drop (place + 1) row ++ others) (record { from = from; weight = get_or (slice_set words (get_or row place no_source).from.0 absent) from.0 (pos 0) })
    by (inl here) = inl (ap (λ (k : ℕ). get_or (slice_set words (get_or row place no_source).from.0 absent) k (pos 0)) here
        ∙ get_or-set_same words (get_or row place no_source).from.0 absent (pos 0) (subst (λ (k : ℕ). k < length words) here (omega (arith, long, within))))
    by (inr other) = subst (λ (w : ℤ). (w ≡ absent) ⊎ Contains (drop (place + 1) row ++ others) (record { from = from; weight = w }))
        (sym (get_or-set_other words (get_or row place no_source).from.0 from.0 absent (pos 0) other)) (rest other (are from (omega (arith, long, within))))

-- ---- rows
module _ (net : Plan) (table : Graph) where
  empty_list : (n k : ℕ) → list_at (replicate n []) k ≡ []
  empty_list n k = by (cases n k)
    where
      cases : (n k : ℕ) → (k < n) ⊎ (n ≤ k)
      cases n k = grind arith

      by : (k < n) ⊎ (n ≤ k) → list_at (replicate n []) k ≡ []
      by (inl inside) = get_or-replicate n k [] [] inside
      by (inr past) = get_or_past (replicate n []) k [] (let count = length-replicate {A = List Source} n [] in omega (arith, count, past))

  pub rows_begin : (rows : SparseRows) → rows ≡ rows_without_edges net → AreRowsAmong net table (λ edge. edge.to.0 < 0) rows
  rows_begin rows is = subst (AreRowsAmong net table (λ edge. edge.to.0 < 0)) (sym is) (record {
    have_rows = record { firsts = length-replicate (length net.points) []; negative = length-replicate (length net.points) []; labelled = length-replicate (length net.links) [] };
    of_table = record {
      firsts = λ to. subst (All (λ (source : Source). HasEdge table (edge_from source to None) × (pos 0 ≤ℤ source.weight))) (sym (empty_list (length net.points) to.0)) (All-nil _);
      negative = λ to. subst (All (λ (source : Source). HasEdge table (edge_from source to None))) (sym (empty_list (length net.points) to.0)) (All-nil _);
      labelled = λ label. subst (All (λ (source : Source). (to : PointId) × HasEdge table (edge_from source to (Some label)))) (sym (empty_list (length net.links) label.0)) (All-nil _);
    };
    each = λ edge has below. absurd (omega (arith, below));
  })

  -- an edge of the table is added
  module _ (old : SparseRows) (edge : Edge) (has : HasEdge table edge) (room : HaveRoomFor old edge) where
    abbrev Keeps : SparseRows → Type 0
    Keeps new = HaveRowsFor net new × AreOfTable table new × ((other : Edge) → StandsInRow old other → StandsInRow new other) × StandsInRow new edge

    labelled_kept : (label : LinkId) → edge.label ≡ Some label → HaveRowsFor net old → AreOfTable table old → Keeps (rows_with old edge (Some label))
    labelled_kept label some have of_table = (
      record { firsts = have.firsts; negative = have.negative; labelled = same_length old.labelled label.0 (source_of edge) (room.labelled label some) ∙ have.labelled },
      record {
        firsts = of_table.firsts;
        negative = of_table.negative;
        labelled = λ name. all_still old.labelled label.0 (source_of edge) (room.labelled label some) (λ k source. (to : PointId) × HasEdge table (edge_from source to (Some (record { 0 = k }))))
            (λ k. of_table.labelled (record { 0 = k })) (edge.to, subst (λ (l : Option LinkId). HasEdge table (record { from = edge.from; to = edge.to; label = l; weight = edge.weight })) some has) name.0;
      },
      λ other stands. still other other.label stands,
      subst (λ (l : Option LinkId). Contains (list_for (rows_with old edge (Some label)) edge l) (source_of edge)) (sym some) (now_stands old.labelled label.0 (source_of edge) (room.labelled label some)),
    )
      where
        still : (other : Edge) (name : Option LinkId) → Contains (list_for old other name) (source_of other) → Contains (list_for (rows_with old edge (Some label)) other name) (source_of other)
        still other None stands = stands
        still other (Some name) stands = still_stands old.labelled label.0 (source_of edge) (room.labelled label some) name.0 (source_of other) stands

    negative_kept : edge.label ≡ None → edge.weight <ℤ pos 0 → HaveRowsFor net old → AreOfTable table old → Keeps (record old { negative = added_at old.negative edge.to.0 (source_of edge) })
    negative_kept none low have of_table = (
      record { firsts = have.firsts; negative = same_length old.negative edge.to.0 (source_of edge) room.negative ∙ have.negative; labelled = have.labelled },
      record {
        firsts = of_table.firsts;
        negative = λ to. all_still old.negative edge.to.0 (source_of edge) room.negative (λ k source. HasEdge table (edge_from source (record { 0 = k }) None))
            (λ k. of_table.negative (record { 0 = k })) (subst (λ (l : Option LinkId). HasEdge table (record { from = edge.from; to = edge.to; label = l; weight = edge.weight })) none has) to.0;
        labelled = of_table.labelled;
      },
      λ other stands. still other other.label (int_lt other.weight (pos 0)) refl stands,
      here,
    )
      where
        still : (other : Edge) (name : Option LinkId) (below : Bool) → int_lt other.weight (pos 0) ≡ below → Contains (list_for old other name) (source_of other)
            → Contains (list_for (record old { negative = added_at old.negative edge.to.0 (source_of edge) }) other name) (source_of other)
        still other (Some name) below is stands = stands
        still other None true is stands = rw is (still_stands old.negative edge.to.0 (source_of edge) room.negative other.to.0 (source_of other) (rw is at stands))
        still other None false is stands = rw is (rw is at stands)

        here : StandsInRow (record old { negative = added_at old.negative edge.to.0 (source_of edge) }) edge
        here =
            let test : int_lt edge.weight (pos 0) ≡ true = grind (arith, ints) in
            rw (none, test) (now_stands old.negative edge.to.0 (source_of edge) room.negative)

    first_kept : edge.label ≡ None → pos 0 ≤ℤ edge.weight → HaveRowsFor net old → AreOfTable table old → Keeps (record old { firsts = added_at old.firsts edge.to.0 (source_of edge) })
    first_kept none high have of_table = (
      record { firsts = same_length old.firsts edge.to.0 (source_of edge) room.firsts ∙ have.firsts; negative = have.negative; labelled = have.labelled },
      record {
        firsts = λ to. all_still old.firsts edge.to.0 (source_of edge) room.firsts (λ k source. HasEdge table (edge_from source (record { 0 = k }) None) × (pos 0 ≤ℤ source.weight))
            (λ k. of_table.firsts (record { 0 = k })) (subst (λ (l : Option LinkId). HasEdge table (record { from = edge.from; to = edge.to; label = l; weight = edge.weight })) none has, high) to.0;
        negative = of_table.negative;
        labelled = of_table.labelled;
      },
      λ other stands. still other other.label (int_lt other.weight (pos 0)) refl stands,
      here,
    )
      where
        still : (other : Edge) (name : Option LinkId) (below : Bool) → int_lt other.weight (pos 0) ≡ below → Contains (list_for old other name) (source_of other)
            → Contains (list_for (record old { firsts = added_at old.firsts edge.to.0 (source_of edge) }) other name) (source_of other)
        still other (Some name) below is stands = stands
        still other None false is stands = rw is (still_stands old.firsts edge.to.0 (source_of edge) room.firsts other.to.0 (source_of other) (rw is at stands))
        still other None true is stands = rw is (rw is at stands)

        here : StandsInRow (record old { firsts = added_at old.firsts edge.to.0 (source_of edge) }) edge
        here =
            let test : int_lt edge.weight (pos 0) ≡ false = grind (arith, ints) in
            rw (none, test) (now_stands old.firsts edge.to.0 (source_of edge) room.firsts)

    all_kept : HaveRowsFor net old → AreOfTable table old → Keeps (rows_with old edge edge.label)
    all_kept have of_table = by edge.label refl
      where
        ordinary : edge.label ≡ None → (below : Bool) → int_lt edge.weight (pos 0) ≡ below → Keeps (rows_with old edge None)
        ordinary none true is = rw is (negative_kept none (let test = is in grind (arith, ints)) have of_table)
        ordinary none false is = rw is (first_kept none (let test = is in grind (arith, ints)) have of_table)

        by : (label : Option LinkId) → edge.label ≡ label → Keeps (rows_with old edge label)
        by None none = ordinary none (int_lt edge.weight (pos 0)) refl
        by (Some label) some = labelled_kept label some have of_table

    pub rows_more : (new : SparseRows) (among both : Edge → Type 0) → new ≡ rows_with old edge edge.label → AreRowsAmong net table among old → ((other : Edge) → HasEdge table other → both other → among other ⊎ (edge ≡ other))
        → AreRowsAmong net table both new
    rows_more new among both is are either = subst (AreRowsAmong net table both) (sym is) (record { have_rows = kept.0; of_table = kept.1; each = λ other there inside. by other there (either other there inside) })
      where
        kept : Keeps (rows_with old edge edge.label)
        kept = all_kept are.have_rows are.of_table

        by : (other : Edge) → HasEdge table other → among other ⊎ (edge ≡ other) → StandsInRow (rows_with old edge edge.label) other
        by other there (inl before) = kept.2 other (are.each other there before)
        by other there (inr same) = subst (StandsInRow (rows_with old edge edge.label)) same kept.3

-- ---- the edges of a row, one after another
abbrev pub no_entry : Entry
no_entry = record { from = record { 0 = 0 }; label = None; weight = pos 0 }

-- the edges into points before, and those of some first entries
abbrev pub IsAddedUntil : PointId → List Entry → ℕ → Edge → Type 0
IsAddedUntil to entries place edge = (edge.to.0 < to.0) ⊎ Contains (map (edge_into to) (take place entries)) edge

module _ (net : Plan) (table : Graph) (partial_closure : IsPartialClosure net table) (to : PointId) where
  pub row_begins : (entries : List Entry) (rows : SparseRows) → AreRowsAmong net table (λ edge. edge.to.0 < to.0) rows → AreRowsAmong net table (IsAddedUntil to entries 0) rows
  row_begins entries rows are = record { have_rows = are.have_rows; of_table = are.of_table; each = λ edge has inside. by edge has inside }
    where
      by : (edge : Edge) → HasEdge table edge → (edge.to.0 < to.0) ⊎ Contains {X = Edge} [] edge → StandsInRow rows edge
      by edge has (inl before) = are.each edge has before
      by edge has (inr (k, none, is)) = absurd (omega (arith, none))

  entry_of_table : (entries : List Entry) (entry : Entry) (place : ℕ) → map (edge_into to) entries ≡ row_of table to → place < length entries → HasEdge table (edge_into to (get_or entries place entry))
  entry_of_table entries entry place is inside = listed_edge table (edge_into to (get_or entries place entry)) (Contains-filter_from (λ (e : Edge). e.to.0 == to.0) (edges_of table) (edge_into to (get_or entries place entry))
      (subst (λ (row : List Edge). Contains row (edge_into to (get_or entries place entry))) is (Contains-map (edge_into to) entries (get_or entries place entry) (Contains-get_or entries place entry inside))))

  pub entry_room : (entries : List Entry) (entry : Entry) (place : ℕ) (rows : SparseRows) (among : Edge → Type 0) → map (edge_into to) entries ≡ row_of table to → place < length entries → AreRowsAmong net table among rows
      → HaveRoomFor rows (edge_into to (get_or entries place entry))
  entry_room entries entry place rows among is inside are = record {
    firsts = subst (λ (n : ℕ). to.0 < n) (sym are.have_rows.firsts) ends.to_point;
    negative = subst (λ (n : ℕ). to.0 < n) (sym are.have_rows.negative) ends.to_point;
    labelled = λ label some. subst (λ (n : ℕ). label.0 < n) (sym are.have_rows.labelled) (given_if (λ (name : LinkId). name.0 < length net.links) (edge_into to (get_or entries place entry)).label label
        (label_known net partial_closure.plan (edge_into to (get_or entries place entry)) derivable) some);
    weight = derivable_size net partial_closure.plan (edge_into to (get_or entries place entry)) derivable;
  }
    where
      derivable : IsDerivable net (edge_into to (get_or entries place entry))
      derivable = partial_closure.derivable (edge_into to (get_or entries place entry)) (entry_of_table entries entry place is inside)

      ends : IsEdge net (edge_into to (get_or entries place entry))
      ends = derivable_is net partial_closure.plan (edge_into to (get_or entries place entry)) derivable

  pub row_more : (entries : List Entry) (entry : Entry) (place : ℕ) (old new : SparseRows) → map (edge_into to) entries ≡ row_of table to → place < length entries → AreRowsAmong net table (IsAddedUntil to entries place) old
      → new ≡ rows_with old (edge_into to (get_or entries place entry)) (edge_into to (get_or entries place entry)).label → AreRowsAmong net table (IsAddedUntil to entries (place + 1)) new
  row_more entries entry place old new is inside are added =
      rows_more net table old (edge_into to (get_or entries place entry)) (entry_of_table entries entry place is inside) (entry_room entries entry place old (IsAddedUntil to entries place) is inside are) new
      (IsAddedUntil to entries place) (IsAddedUntil to entries (place + 1)) added are either
    where
      either : (other : Edge) → HasEdge table other → IsAddedUntil to entries (place + 1) other → IsAddedUntil to entries place other ⊎ (edge_into to (get_or entries place entry) ≡ other)
      either other has (inl before) = inl (inl before)
      either other has (inr stands) = by (Contains-push_cases (map (edge_into to) (take place entries)) (edge_into to (get_or entries place entry)) other
          (subst (λ (edges : List Edge). Contains edges other) (map_more (edge_into to) entries place entry inside) stands))
        where
          by : Contains (map (edge_into to) (take place entries)) other ⊎ (edge_into to (get_or entries place entry) ≡ other) → IsAddedUntil to entries place other ⊎ (edge_into to (get_or entries place entry) ≡ other)
          by (inl earlier) = inl (inr earlier)
          by (inr same) = inr same

  pub row_ends : (entries : List Entry) (place : ℕ) (rows : SparseRows) → map (edge_into to) entries ≡ row_of table to → length entries ≤ place → AreRowsAmong net table (IsAddedUntil to entries place) rows
      → AreRowsAmong net table (λ edge. edge.to.0 < to.0 + 1) rows
  row_ends entries place rows is past are = record { have_rows = are.have_rows; of_table = are.of_table; each = λ edge has below. by edge has (target_more table to (map (edge_into to) entries) edge is (has, below)) }
    where
      by : (edge : Edge) → HasEdge table edge → (HasEdge table edge × (edge.to.0 < to.0)) ⊎ Contains (map (edge_into to) entries) edge → StandsInRow rows edge
      by edge has (inl before) = are.each edge has (inl before.1)
      by edge has (inr stands) = are.each edge has (inr (subst (λ (l : List Entry). Contains (map (edge_into to) l) edge) (sym (take_all place entries past)) stands))

-- all rows were added
pub rows_end : (net : Plan) (table : Graph) → IsPartialClosure net table → (end : ℕ) → length net.points ≤ end → (rows : SparseRows) → AreRowsAmong net table (λ edge. edge.to.0 < end) rows → AreRowsOf net table rows
rows_end net table partial_closure end past rows are = record {
  have_rows = are.have_rows;
  of_table = are.of_table;
  each = λ edge has. are.each edge has (below edge has);
}
  where
    below : (edge : Edge) → HasEdge table edge → edge.to.0 < end
    below edge has = let inside = (derivable_is net partial_closure.plan edge (partial_closure.derivable edge has)).to_point in omega (arith, inside, past)
