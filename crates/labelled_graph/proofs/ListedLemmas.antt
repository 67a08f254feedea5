-- The entries of a row are the edges of the table that end in its point, in the order of their keys.
use Rattle.std.proofs.Common.{◌≡◌, ℕ, ◌==◌, ◌<◌, ℤ, pos, Bool, true, cond, List, [], ◌∷◌, ◌++◌, length, map, filter, get_or, Option, Some, None, refl, ap, sym, subst, ◌∙◌, arith}
use Rattle.std.specs.Prelude.{is_none}
use Rattle.std.specs.Option.{option_map}
use Rattle.std.specs.List.{AllByRecursion, Contains, cons_option, filter_map, flat_map}
use Rattle.std.specs.FinMap as map_of
use Rattle.std.proofs.lemmas.Bool.Decides.{nat_tests}
use Rattle.std.proofs.lemmas.List.Elements.{filter-append, filter_map-append}
use Rattle.net_model.specs.declared.ids.PointId.{PointId}
use Rattle.net_model.specs.declared.ids.LinkId.{LinkId}
use Rattle.net_model.specs.declared.part.Edge.{Edge}
use Rattle.closure_model.specs.Keys.{Key, key_of, edge_of, IsKey, ordinary_key, labelled_key, labels_at, keys_between, row_keys, all_points}
use Rattle.closure_model.specs.ReferenceRow.{ordinary_into}
use Rattle.closure_model.specs.Tables.{Graph, weight_of, HasEdge, edges_of, row_of, edges_at, IsGraph}
use Rattle.closure_model.proofs.KeyLists.{row_keys_owned}
use Rattle.closure_model.proofs.ListedEdges.{row_listed}
use Rattle.closure_model.proofs.Lists.{filter_all}
use Rattle.closure_model.proofs.TableLemmas.{listed_edge}
use Rattle.labelled_graph.specs.declared.entry.Entry.{Entry}
use Rattle.labelled_graph.specs.Entries.{edge_into, is_ordinary, wide_label}
use Rattle.labelled_graph.specs.Rows.{TargetRow, keyed, AllFitIn, IsMirrorOf}
use Rattle.labelled_graph.specs.Words.{held, word_of, AllFitWords, AreWordsOfColumn}
use Rattle.labelled_graph.specs.StoredRows.{graph_with, AreStored}
use Rattle.labelled_graph.proofs.StoredLemmas.{sound_graph, shape_is, row_there, row_target, row_reads}
use Rattle.labelled_graph.proofs.WordLemmas.{held_at, held_once}
use Rattle.std.proofs.Math.ListN.{length-map}

edges_alike : (one other : Graph) (to : PointId) (keys : List Key) → AllByRecursion (λ k. k.to ≡ to) keys → ((k : Key) → k.to ≡ to → weight_of one k ≡ weight_of other k) → edges_at one keys ≡ edges_at other keys
edges_alike one other to [] own alike = refl
edges_alike one other to (key ∷ keys) (here, more) alike = λ i. cons_option (option_map (edge_of key) (alike key here i)) (edges_alike one other to keys more alike i)

edges_of_entries : (to : PointId) (es : List Entry) → map (edge_into to) es ≡ map (λ (e : Key × ℤ). edge_of e.0 e.1) (map (keyed to) es)
edges_of_entries to [] = refl
edges_of_entries to (e ∷ es) = ap (λ edges. edge_into to e ∷ edges) (edges_of_entries to es)

-- ---- the edges without labels
without_label : Edge → Bool
without_label edge = is_none edge.label

ordinary_entries : (to : PointId) (es : List Entry) → map (edge_into to) (filter is_ordinary es) ≡ filter (λ edge. is_none edge.label) (map (edge_into to) es)
ordinary_entries to [] = refl
ordinary_entries to (e ∷ es) = by e.label refl (ordinary_entries to es)
  where
    by : (o : Option ℕ) → e.label ≡ o → map (edge_into to) (filter is_ordinary es) ≡ filter (λ edge. is_none edge.label) (map (edge_into to) es)
        → map (edge_into to) (filter is_ordinary (e ∷ es)) ≡ filter (λ edge. is_none edge.label) (map (edge_into to) (e ∷ es))
    by None is rest =
        ap (λ (l : Option ℕ). map (edge_into to) (cond (is_none l) (e ∷ filter is_ordinary es) (filter is_ordinary es))) is
        ∙ ap (λ edges. edge_into to e ∷ edges) rest
        ∙ sym (ap (λ (l : Option ℕ). cond (is_none (wide_label l)) (edge_into to e ∷ filter (λ edge. is_none edge.label) (map (edge_into to) es)) (filter (λ edge. is_none edge.label) (map (edge_into to) es))) is)
    by (Some label) is rest =
        ap (λ (l : Option ℕ). map (edge_into to) (cond (is_none l) (e ∷ filter is_ordinary es) (filter is_ordinary es))) is
        ∙ rest
        ∙ sym (ap (λ (l : Option ℕ). cond (is_none (wide_label l)) (edge_into to e ∷ filter (λ edge. is_none edge.label) (map (edge_into to) es)) (filter (λ edge. is_none edge.label) (map (edge_into to) es))) is)

module _ (graph : Graph) (to : PointId) where
  no_labelled : (from : PointId) (labels : List LinkId) → filter (λ edge. is_none edge.label) (edges_at graph (map (labelled_key from to) labels)) ≡ []
  no_labelled from [] = refl
  no_labelled from (label ∷ labels) = by (weight_of graph (labelled_key from to label)) (no_labelled from labels)
    where
      by : (o : Option ℤ) → filter (λ edge. is_none edge.label) (edges_at graph (map (labelled_key from to) labels)) ≡ []
          → filter (λ edge. is_none edge.label) (cons_option (option_map (edge_of (labelled_key from to label)) o) (edges_at graph (map (labelled_key from to) labels))) ≡ []
      by None rest = rest
      by (Some w) rest = rest

  one_ordinary : (from : PointId) (labels : List LinkId) → filter (λ edge. is_none edge.label) (edges_at graph (ordinary_key from to ∷ map (labelled_key from to) labels)) ≡ cons_option
      (option_map (edge_of (ordinary_key from to)) (weight_of graph (ordinary_key from to))) []
  one_ordinary from labels = by (weight_of graph (ordinary_key from to))
    where
      by : (o : Option ℤ) → filter (λ edge. is_none edge.label) (cons_option (option_map (edge_of (ordinary_key from to)) o) (edges_at graph (map (labelled_key from to) labels))) ≡ cons_option
          (option_map (edge_of (ordinary_key from to)) o) []
      by None = no_labelled from labels
      by (Some w) = ap (λ edges. edge_of (ordinary_key from to) w ∷ edges) (no_labelled from labels)

  onto : (o : Option Edge) (edges : List Edge) → cons_option o [] ++ edges ≡ cons_option o edges
  onto None edges = refl
  onto (Some edge) edges = refl

  ordinary_listed : (points : List PointId) → filter (λ edge. is_none edge.label) (edges_at graph (flat_map (keys_between graph.shape to) points))
      ≡ filter_map (λ from. option_map (edge_of (ordinary_key from to)) (weight_of graph (ordinary_key from to))) points
  ordinary_listed [] = refl
  ordinary_listed (from ∷ points) =
      let rest = flat_map (keys_between graph.shape to) points in
      ap (filter (λ edge. is_none edge.label)) (filter_map-append (λ key. option_map (edge_of key) (weight_of graph key)) (keys_between graph.shape to from) rest)
      ∙ filter-append (λ (edge : Edge). is_none edge.label) (edges_at graph (keys_between graph.shape to from)) (edges_at graph rest)
      ∙ (λ i. one_ordinary from (labels_at graph.shape to) i ++ ordinary_listed points i)
      ∙ onto (option_map (edge_of (ordinary_key from to)) (weight_of graph (ordinary_key from to))) _

-- ---- the entries of a row
module _ (rows : List TargetRow) (activations : List PointId) (stored : AreStored rows activations) (graph : Graph) (view : graph_with rows activations ≡ graph) (to : PointId) (inside : to.0 < graph.shape.points) (row : TargetRow)
    (read : row ≡ get_or rows to.0 row) where
  sound : IsGraph graph
  sound = sound_graph rows activations stored graph view

  ends : row.to ≡ to
  ends = row_target rows activations stored graph view to inside row read

  keys_of : (key : Key) (w : ℤ) → map_of.get row.weights key ≡ Some w → (key.to ≡ to) × IsKey graph.shape key
  keys_of key w has =
      let there : map_of.get (get_or rows to.0 row).weights key ≡ Some w = ap (λ (r : TargetRow). map_of.get r.weights key) (sym read) ∙ has in
      let (target, is_key) = stored.keys to.0 row (row_there rows activations stored graph view to inside) key w there in
      (target ∙ ap (λ (r : TargetRow). r.to) (sym read) ∙ ends, subst (λ s. IsKey s key) (shape_is rows activations stored graph view) is_key)

  read_for : (key : Key) → key.to ≡ to → row ≡ get_or rows key.to.0 row
  read_for key target = read ∙ ap (λ (p : PointId). get_or rows p.0 row) (sym target)

  alike : (key : Key) → key.to ≡ to → map_of.get row.weights key ≡ weight_of graph key
  alike key target = by (map_of.get row.weights key) refl
    where
      by : (o : Option ℤ) → map_of.get row.weights key ≡ o → map_of.get row.weights key ≡ weight_of graph key
      by (Some w) is = row_reads rows activations stored graph view key (keys_of key w is).1 row (read_for key target)
      by None is = at (weight_of graph key) refl
        where
          at : (o : Option ℤ) → weight_of graph key ≡ o → map_of.get row.weights key ≡ weight_of graph key
          at None none = is ∙ sym none
          at (Some w) some = row_reads rows activations stored graph view key (sound.keys (edge_of key w) some) row (read_for key target)

  -- ---- its words
  pub fits_in : AllFitWords graph → AllFitIn row
  fits_in fits key w has = fits key w (sym (alike key (keys_of key w has).0) ∙ has)

  pub reads_first : (first : PointId) → map_of.get row.weights (ordinary_key first row.to) ≡ weight_of graph (ordinary_key first to)
  reads_first first = ap (λ (p : PointId). map_of.get row.weights (ordinary_key first p)) ends ∙ alike (ordinary_key first to) refl

  pub words_of : (words : List ℤ) → IsMirrorOf row (map held words) → AreWordsOfColumn graph to None words
  words_of words mirror from inside =
      let long : from.0 < length (map held words) = omega (arith, inside, length-map words held) in
      held_once (get_or words from.0 (pos 0)) (word_of (weight_of graph (ordinary_key from to)))
      (sym (held_at words from.0 inside) ∙ mirror from long ∙ ap (λ (o : Option ℤ). held (word_of o)) (reads_first from))

  -- the row as a table of its own
  alone : Graph
  alone = record { shape = graph.shape; weights = row.weights }

  alone_sound : IsGraph (record { shape = graph.shape; weights = row.weights })
  alone_sound = record {
    keys = λ edge has. (keys_of (key_of edge) edge.weight has).1;
    weights = λ edge has. sound.weights edge (sym (alike (key_of edge) (keys_of (key_of edge) edge.weight has).0) ∙ has);
    begins = sound.begins;
    few_points = sound.few_points;
    few_links = sound.few_links;
  }

  all_end : (edge : Edge) → Contains (edges_of (record { shape = graph.shape; weights = row.weights })) edge → (edge.to.0 == to.0) ≡ true
  all_end edge listed =
      let has : HasEdge (record { shape = graph.shape; weights = row.weights }) edge = listed_edge (record { shape = graph.shape; weights = row.weights }) edge listed in
      let same : edge.to.0 ≡ to.0 = ap (λ (p : PointId). p.0) (keys_of (key_of edge) edge.weight has).0 in
      grind (arith, nat_tests)

  listed : edges_of (record { shape = graph.shape; weights = row.weights }) ≡ row_of graph to
  listed =
      let own : Graph = record { shape = graph.shape; weights = row.weights } in
      sym (filter_all (λ (edge : Edge). edge.to.0 == to.0) (edges_of (record { shape = graph.shape; weights = row.weights })) all_end)
      ∙ row_listed (record { shape = graph.shape; weights = row.weights }) alone_sound to inside
      ∙ edges_alike (record { shape = graph.shape; weights = row.weights }) graph to (row_keys graph.shape to) (row_keys_owned graph.shape to) alike
      ∙ sym (row_listed graph sound to inside)

  pub entries_listed : (es : List Entry) → map (keyed row.to) es ≡ map_of.entries row.weights → map (edge_into to) es ≡ row_of graph to
  entries_listed es are =
      (λ i. map (edge_into (sym ends i)) es) ∙ edges_of_entries row.to es ∙ ap (map (λ (e : Key × ℤ). edge_of e.0 e.1)) are ∙ listed

  pub ordinary_entries_listed : (es : List Entry) → map (keyed row.to) es ≡ map_of.entries row.weights → map (edge_into to) (filter is_ordinary es) ≡ ordinary_into graph to
  ordinary_entries_listed es are =
      ordinary_entries to es
      ∙ ap (filter (λ edge. is_none edge.label)) (entries_listed es are ∙ row_listed graph sound to inside)
      ∙ ordinary_listed graph to (all_points graph.shape)
