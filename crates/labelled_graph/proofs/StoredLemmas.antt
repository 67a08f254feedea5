-- What the rows of a table have for a key, before and after one row is changed.
use Rattle.std.proofs.Common.{◌≡◌, ◌≢◌, ℕ, zero, suc, ◌+◌, ◌==◌, ◌<◌, ◌≤◌, ◌^◌, ℤ, Bool, true, false, cond, not, List, [], length, map, get_or, set, get_or-set_same, get_or-set_other, length-set, take, Option, Some, None, Result, Ok, Err}
use Rattle.std.proofs.Common.{refl, ap, sym, subst, ◌∙◌, arith}
use Rattle.std.specs.Prelude.{slice_get, IfSome, IsSome, OnErr}
use Rattle.std.specs.List.{All, range_with_len}
use Rattle.std.specs.Ordering.{eq_by_cmp}
use Rattle.std.specs.FinMap as map_of
use Rattle.std.proofs.lemmas.Bool.{eqb-true}
use Rattle.std.proofs.lemmas.Bool.Decides.{nat_tests}
use Rattle.std.proofs.lemmas.Option.{slice_get_within, get_or_from_slice_get}
use Rattle.std.proofs.lemmas.List.{get_or_default, set-get_or, take_all}
use Rattle.std.proofs.lemmas.List.Elements.{All-set}
use Rattle.std.proofs.lemmas.List.FromFn.{get_or-map-range_with_len, length-map-range_with_len}
use Rattle.net_model.specs.Network.{Plan, IsPlan}
use Rattle.net_model.specs.Limits.{most_points, most_links, IsWeight}
use Rattle.net_model.specs.declared.part.Link.{Link}
use Rattle.net_model.specs.declared.ids.PointId.{PointId}
use Rattle.net_model.specs.declared.ids.LinkId.{LinkId}
use Rattle.net_model.specs.declared.part.Edge.{Edge}
use Rattle.closure_model.specs.Keys.{Key, edge_of, key_cmp, Shape, shape_of, IsKey, IsLabelAt, labelled_key, ordinary_key}
use Rattle.closure_model.specs.Tables.{Graph, weight_of, with_edge, without_key, no_edges, has_at_most, lowered, base_table, IsGraph}
use Rattle.closure_model.proofs.BaseLemmas.{base_shape, base_sound}
use Rattle.closure_model.proofs.KeyOrder.{key_test, key_total, test_apart}
use Rattle.closure_model.proofs.TableLemmas.{no_edges-has_none, weight_of-with_edge, weight_of-without_key}
use Rattle.closure_model.proofs.KeyMaps.{dense_map, get-dense_in, is_dense}
use Rattle.closure_model.proofs.ListedEdges.{nothing_elsewhere}
use Rattle.closure_model.proofs.SoundTables.{IsGraph-with_edge, IsGraph-without_key}
use Rattle.labelled_graph.specs.Changes.{with_weight}
use Rattle.labelled_graph.specs.MergedRows.{no_shape}
use Rattle.labelled_graph.specs.Rows.{TargetRow, no_row, empty_row}
use Rattle.labelled_graph.specs.StoredRows.{shape_with, at_key, graph_with, AreStored}

-- ---- reading
pub weight_at : (rows : List TargetRow) (activations : List PointId) (key : Key) → IsKey (shape_with rows activations) key → weight_of (graph_with rows activations) key ≡ at_key rows key
weight_at rows activations key is = get-dense_in (shape_with rows activations) (at_key rows) key is

-- ---- two points
pub same_point : (p q : PointId) → p.0 ≡ q.0 → p ≡ q
same_point p q is = ap (λ (k : ℕ). record { 0 = k }) is

-- ---- the table with one key changed
-- a table is another with one key changed if it is for the same points and links and has that at each key
module _ (rows new : List TargetRow) (activations : List PointId) (sound : IsGraph (graph_with rows activations)) (key : Key) (is_key : IsKey (shape_with rows activations) key) (o : Option ℤ) (same : length new ≡ length rows)
    (changed : (q : Key) → at_key new q ≡ cond (eq_by_cmp key_cmp q key) o (at_key rows q)) where
  graph_changed : (graph : Graph) → graph.shape ≡ shape_with rows activations → ((q : Key) → weight_of graph q ≡ cond (eq_by_cmp key_cmp q key) o (weight_of (graph_with rows activations) q)) → graph_with new activations ≡ graph
  graph_changed graph shape is =
      let weights : dense_map (shape_with new activations) (at_key new) ≡ graph.weights = is_dense (shape_with new activations) (at_key new) graph.weights here elsewhere in
      λ i. record { shape = (same_shape ∙ sym shape) i; weights = weights i }
    where
      same_shape : shape_with new activations ≡ shape_with rows activations
      same_shape = λ i. record { points = same i; activations = activations }

      here : (q : Key) → IsKey (shape_with new activations) q → map_of.get graph.weights q ≡ at_key new q
      here q in_new =
          let in_old : IsKey (shape_with rows activations) q = subst (λ s. IsKey s q) same_shape in_new in
          is q ∙ ap (cond (eq_by_cmp key_cmp q key) o) (weight_at rows activations q in_old) ∙ sym (changed q)

      elsewhere : (q : Key) → (IsKey (shape_with new activations) q → ⊥) → map_of.get graph.weights q ≡ None
      elsewhere q out =
          let out_old : IsKey (shape_with rows activations) q → ⊥ = λ inside. out (subst (λ s. IsKey s q) (sym same_shape) inside) in
          let apart : q ≢ key = λ equal. out_old (subst (IsKey (shape_with rows activations)) (sym equal) is_key) in
          is q ∙ ap (λ b. cond b o (weight_of (graph_with rows activations) q)) (test_apart q key apart) ∙ nothing_elsewhere (graph_with rows activations) sound q out_old

graph_with_weight : (rows new : List TargetRow) (activations : List PointId) → IsGraph (graph_with rows activations) → (key : Key) → IsKey (shape_with rows activations) key → (o : Option ℤ) → length new ≡ length rows
    → ((q : Key) → at_key new q ≡ cond (eq_by_cmp key_cmp q key) o (at_key rows q)) → graph_with new activations ≡ with_weight (graph_with rows activations) key o
graph_with_weight rows new activations sound key is_key None same changed =
    graph_changed rows new activations sound key is_key None same changed (without_key (graph_with rows activations) key) refl (weight_of-without_key (graph_with rows activations) key)
graph_with_weight rows new activations sound key is_key (Some w) same changed =
    graph_changed rows new activations sound key is_key (Some w) same changed (with_edge (graph_with rows activations) (edge_of key w)) refl (weight_of-with_edge (graph_with rows activations) (edge_of key w))

sound_with_weight : (graph : Graph) (key : Key) (o : Option ℤ) → IsGraph graph → IsKey graph.shape key → IfSome o IsWeight → IsGraph (with_weight graph key o)
sound_with_weight graph key None sound is small = IsGraph-without_key graph key sound
sound_with_weight graph key (Some w) sound is small = IsGraph-with_edge graph (edge_of key w) sound is small

-- ---- one row changed
-- a row after the change of what it has at a key
abbrev pub IsChangedAt : Key → Option ℤ → TargetRow → TargetRow → Type 0
IsChangedAt key o before after = (q : Key) → map_of.get after.weights q ≡ cond (eq_by_cmp key_cmp q key) o (map_of.get before.weights q)

-- Rows that store a table, and the row of a key before and after the change of what it has at that key.
pub record RowChanged (rows : List TargetRow) (activations : List PointId) (key : Key) (o : Option ℤ) (before after : TargetRow) : Type 0 where
  pub stored : AreStored rows activations
  pub is_key : IsKey (shape_with rows activations) key
  pub small : IfSome o IsWeight
  pub read : before ≡ get_or rows key.to.0 before
  pub ends : after.to ≡ before.to
  pub gets : IsChangedAt key o before after

module _ (rows : List TargetRow) (activations : List PointId) (key : Key) (o : Option ℤ) (before after : TargetRow) (change : RowChanged rows activations key o before after) where
  new : List TargetRow
  new = set rows key.to.0 after

  count : length (set rows key.to.0 after) ≡ length rows
  count = length-set rows key.to.0 after

  changed : (q : Key) → at_key (set rows key.to.0 after) q ≡ cond (eq_by_cmp key_cmp q key) o (at_key rows q)
  changed q = by (q.to.0 == key.to.0) refl
    where
      by : (b : Bool) → q.to.0 == key.to.0 ≡ b → at_key (set rows key.to.0 after) q ≡ cond (eq_by_cmp key_cmp q key) o (at_key rows q)
      by true is =
          let here : q.to.0 ≡ key.to.0 = eqb-true q.to.0 key.to.0 is in
          let now : get_or (set rows key.to.0 after) q.to.0 no_row ≡ after = ap (λ k. get_or (set rows key.to.0 after) k no_row) here ∙ get_or-set_same rows key.to.0 after no_row change.is_key.to_point in
          let then : get_or rows q.to.0 no_row ≡ before = ap (λ k. get_or rows k no_row) here ∙ get_or_default rows key.to.0 no_row before change.is_key.to_point ∙ sym change.read in
          ap (λ (r : TargetRow). map_of.get r.weights q) now ∙ change.gets q ∙ ap (λ (r : TargetRow). cond (eq_by_cmp key_cmp q key) o (map_of.get r.weights q)) (sym then)
      by false is =
          let apart : q.to.0 ≢ key.to.0 = grind (arith, nat_tests) in
          let kept : get_or (set rows key.to.0 after) q.to.0 no_row ≡ get_or rows q.to.0 no_row = grind (arith, get_or-set_other) in
          ap (λ (r : TargetRow). map_of.get r.weights q) kept ∙ sym (ap (λ b. cond b o (at_key rows q)) (test_apart q key (λ same. apart (ap (λ (k : Key). k.to.0) same))))

  same_shape : shape_with (set rows key.to.0 after) activations ≡ shape_with rows activations
  same_shape = λ i. record { points = count i; activations = activations }

  pub changed_graph : graph_with (set rows key.to.0 after) activations ≡ with_weight (graph_with rows activations) key o
  changed_graph = graph_with_weight rows (set rows key.to.0 after) activations change.stored.sound key change.is_key o count changed

  target_of_before : before.to ≡ key.to
  target_of_before = same_point before.to key.to (ap (λ (r : TargetRow). r.to.0) change.read ∙ change.stored.targets key.to.0 before change.is_key.to_point)

  keys_of_after : (q : Key) (w : ℤ) → map_of.get after.weights q ≡ Some w → (q.to ≡ after.to) × IsKey (shape_with rows activations) q
  keys_of_after q w has = by (eq_by_cmp key_cmp q key) refl (sym (change.gets q) ∙ has)
    where
      by : (b : Bool) → eq_by_cmp key_cmp q key ≡ b → cond b o (map_of.get before.weights q) ≡ Some w → (q.to ≡ after.to) × IsKey (shape_with rows activations) q
      by true is held = let same : q ≡ key = (key_test q key).0 is in (ap (λ (k : Key). k.to) same ∙ sym (change.ends ∙ target_of_before), subst (IsKey (shape_with rows activations)) (sym same) change.is_key)
      by false is held =
          let held_there : map_of.get (get_or rows key.to.0 before).weights q ≡ Some w = ap (λ (r : TargetRow). map_of.get r.weights q) (sym change.read) ∙ held in
          let (to, there) = change.stored.keys key.to.0 before change.is_key.to_point q w held_there in
          (to ∙ ap (λ (r : TargetRow). r.to) (sym change.read) ∙ sym change.ends, there)

  pub changed_stored : AreStored (set rows key.to.0 after) activations
  changed_stored = record {
    targets = targets;
    keys = subst (λ s. All (λ row. (q : Key) (w : ℤ) → map_of.get row.weights q ≡ Some w → (q.to ≡ row.to) × IsKey s q) (set rows key.to.0 after)) (sym same_shape)
        (All-set (λ (row : TargetRow). (q : Key) (w : ℤ) → map_of.get row.weights q ≡ Some w → (q.to ≡ row.to) × IsKey (shape_with rows activations) q) rows key.to.0 after keys_of_after change.stored.keys);
    sound = subst IsGraph (sym changed_graph) (sound_with_weight (graph_with rows activations) key o change.stored.sound change.is_key change.small);
  }
    where
      targets : (k : ℕ) (d : TargetRow) → k < length (set rows key.to.0 after) → (get_or (set rows key.to.0 after) k d).to.0 ≡ k
      targets k d inside = by (k == key.to.0) refl
        where
          by : (b : Bool) → k == key.to.0 ≡ b → (get_or (set rows key.to.0 after) k d).to.0 ≡ k
          by true is =
              let here : k ≡ key.to.0 = eqb-true k key.to.0 is in
              ap (λ j. (get_or (set rows key.to.0 after) j d).to.0) here ∙ ap (λ (r : TargetRow). r.to.0) (get_or-set_same rows key.to.0 after d change.is_key.to_point) ∙ ap (λ (p : PointId). p.0) (change.ends ∙ target_of_before) ∙ sym here
          by false is =
              let apart : k ≢ key.to.0 = grind (arith, nat_tests) in
              let kept : get_or (set rows key.to.0 after) k d ≡ get_or rows k d = grind (arith, get_or-set_other) in
              ap (λ (r : TargetRow). r.to.0) kept ∙ change.stored.targets k d (omega (arith, count))

-- ---- a table, as it is seen
-- rows and activations that store a table
abbrev pub AreTableOf : List TargetRow → List PointId → Graph → Type 0
AreTableOf rows activations graph = AreStored rows activations × (graph_with rows activations ≡ graph)

-- a key of the edges that end in the target of a row
abbrev pub key_into : TargetRow → PointId → Option LinkId → Key
key_into row from label = record { to = row.to; from = from; label = label }

module _ (rows : List TargetRow) (activations : List PointId) (stored : AreStored rows activations) (graph : Graph) (view : graph_with rows activations ≡ graph) where
  pub sound_graph : IsGraph graph
  sound_graph = subst IsGraph view stored.sound

  pub shape_is : shape_with rows activations ≡ graph.shape
  shape_is = ap (λ (g : Graph). g.shape) view

  key_there : (key : Key) → IsKey graph.shape key → IsKey (shape_with rows activations) key
  key_there key is = subst (λ s. IsKey s key) (sym shape_is) is

  pub row_there : (to : PointId) → to.0 < graph.shape.points → to.0 < length rows
  row_there to inside = subst (λ (s : Shape). to.0 < s.points) (sym shape_is) inside

  pub row_target : (to : PointId) → to.0 < graph.shape.points → (row : TargetRow) → row ≡ get_or rows to.0 row → row.to ≡ to
  row_target to inside row read = same_point row.to to (ap (λ (r : TargetRow). r.to.0) read ∙ stored.targets to.0 row (row_there to inside))

  pub row_reads : (key : Key) → IsKey graph.shape key → (row : TargetRow) → row ≡ get_or rows key.to.0 row → map_of.get row.weights key ≡ weight_of graph key
  row_reads key is row read =
      ap (λ (r : TargetRow). map_of.get r.weights key) (read ∙ get_or_default rows key.to.0 row no_row (key_there key is).to_point)
      ∙ sym (weight_at rows activations key (key_there key is))
      ∙ ap (λ g. weight_of g key) view

  pub reads_ordinary : (from to : PointId) → from.0 < graph.shape.points → to.0 < graph.shape.points → (row : TargetRow) → row ≡ get_or rows to.0 row → map_of.get row.weights (key_into row from None) ≡ weight_of graph (ordinary_key from to)
  reads_ordinary from to from_point to_point row read =
      (λ i. map_of.get row.weights (record { to = row_target to to_point row read i; from = from; label = None }))
      ∙ row_reads (ordinary_key from to) (record { to_point = to_point; from_point = from_point; labelled = tt }) row read

  -- the point in which a link begins
  pub activation_there : (link : LinkId) (begins : PointId) → link.0 < length graph.shape.activations → begins ≡ get_or activations link.0 begins → begins.0 < graph.shape.points
  activation_there link begins inside read =
      let there : link.0 < length activations = subst (λ (s : Shape). link.0 < length s.activations) (sym shape_is) inside in
      subst (λ (s : Shape). begins.0 < s.points) shape_is (subst (λ (p : PointId). p.0 < length rows) (sym read) (stored.sound.begins link.0 begins there))

  pub reads_labelled : (from to begins : PointId) (link : LinkId) → from.0 < graph.shape.points → link.0 < length graph.shape.activations → slice_get graph.shape.activations link.0 ≡ Some to → begins ≡ get_or activations link.0 begins
      → (row : TargetRow) → row ≡ get_or rows begins.0 row → map_of.get row.weights (key_into row from (Some link)) ≡ weight_of graph (labelled_key from to link)
  reads_labelled from to begins link from_point link_there at read row row_read =
      let at_here : slice_get activations link.0 ≡ Some to = subst (λ (s : Shape). slice_get s.activations link.0 ≡ Some to) (sym shape_is) at in
      let same : begins ≡ to = read ∙ get_or_from_slice_get activations link.0 to begins at_here in
      let there : begins.0 < graph.shape.points = activation_there link begins link_there read in
      let labelled : slice_get graph.shape.activations link.0 ≡ Some begins = at ∙ ap Some (sym same) in
      (λ i. map_of.get row.weights (record { to = row_target begins there row row_read i; from = from; label = Some link }))
      ∙ row_reads (labelled_key from begins link) (record { to_point = there; from_point = from_point; labelled = labelled }) row row_read
      ∙ (λ i. weight_of graph (labelled_key from (same i) link))

  -- the number of the label of a key takes two bytes
  pub short_label : (key : Key) → IsKey graph.shape key → IfSome key.label (λ label. label.0 < 2 ^ 16)
  short_label key is = by key.label is.labelled
    where
      few : length graph.shape.activations ≤ most_links
      few = sound_graph.few_links

      by : (label : Option LinkId) → IsLabelAt graph.shape key.to label → IfSome label (λ label. label.0 < 2 ^ 16)
      by None at = tt
      by (Some label) at = let inside = slice_get_within graph.shape.activations label.0 key.to at in omega (arith, few)

  pub one_changed : (key : Key) → IsKey graph.shape key → (o : Option ℤ) → IfSome o IsWeight → (before after : TargetRow) → before ≡ get_or rows key.to.0 before → after.to ≡ before.to
      → IsChangedAt key o before after → AreTableOf (set rows key.to.0 after) activations (with_weight graph key o)
  one_changed key is o small before after read ends gets = (
    changed_stored rows activations key o before after change,
    changed_graph rows activations key o before after change ∙ ap (λ g. with_weight g key o) view,
  )
    where
      change : RowChanged rows activations key o before after
      change = record { stored = stored; is_key = key_there key is; small = small; read = read; ends = ends; gets = gets }

  -- an edge of the table was set
  pub one_set : (key : Key) (w : ℤ) → IsKey graph.shape key → IsWeight w → (before after : TargetRow) → before ≡ get_or rows key.to.0 before → after ≡ record before { weights = map_of.insert before.weights key w }
      → AreTableOf (set rows key.to.0 after) activations (with_edge graph (edge_of key w))
  one_set key w is small before after read set_is =
      one_changed key is (Some w) small before after read (ap (λ (r : TargetRow). r.to) set_is) (λ q. ap (λ (r : TargetRow). map_of.get r.weights q) set_is ∙ map_of.get-insert key_total before.weights key w q)

  -- an edge of the table was taken out
  pub one_gone : (key : Key) → IsKey graph.shape key → (before after : TargetRow) → before ≡ get_or rows key.to.0 before → after ≡ record before { weights = map_of.remove before.weights key }
      → AreTableOf (set rows key.to.0 after) activations (without_key graph key)
  one_gone key is before after read gone_is =
      one_changed key is None tt before after read (ap (λ (r : TargetRow). r.to) gone_is) (λ q. ap (λ (r : TargetRow). map_of.get r.weights q) gone_is ∙ map_of.get-remove key_total before.weights key q)

-- rows of which one was written as it was store what they did
pub none_set : (rows : List TargetRow) (activations : List PointId) → AreStored rows activations → (graph : Graph) → graph_with rows activations ≡ graph → (place : ℕ) (before after : TargetRow) → before ≡ get_or rows place before
    → after ≡ before
    → AreTableOf (set rows place after) activations graph
none_set rows activations stored graph view place before after read is =
    let same : set rows place after ≡ rows = ap (set rows place) (is ∙ read) ∙ set-get_or rows place before in
    subst (λ (rs : List TargetRow). AreTableOf rs activations graph) (sym same) (stored, view)

-- what holds also holds if an answer is an error
pub on_error : {A E P : Type 0} → P → (r : Result A E) → OnErr r P
on_error holds (Ok done) = tt
on_error holds (Err error) = holds

-- a key that has a weight is one that there is
pub present_key : (graph : Graph) → IsGraph graph → (key : Key) → IsSome (weight_of graph key) → IsKey graph.shape key
present_key graph sound key present = by (weight_of graph key) refl present
  where
    by : (o : Option ℤ) → weight_of graph key ≡ o → IsSome o → IsKey graph.shape key
    by None is some = absurd cc
    by (Some w) is some = sound.keys (edge_of key w) is

-- an edge that the table had not, or at a greater weight, was set
pub lowered_set : (graph after : Graph) (edge : Edge) → has_at_most graph edge ≡ false → after ≡ with_edge graph edge → (true ≡ not (has_at_most graph edge)) × (after ≡ lowered graph edge)
lowered_set graph after edge test is = (sym (ap not test), is ∙ sym (ap (λ b. cond b graph (with_edge graph edge)) test))

-- an edge that the table had at no greater weight changes nothing
pub lowered_kept : (graph : Graph) (edge : Edge) → has_at_most graph edge ≡ true → (false ≡ not (has_at_most graph edge)) × (graph ≡ lowered graph edge)
lowered_kept graph edge test = (sym (ap not test), sym (ap (λ b. cond b graph (with_edge graph edge)) test))

-- ---- rows without edges
nothing_in : (a n k : ℕ) → (get_or (map empty_row (range_with_len a n)) k no_row).weights ≡ map_of.empty
nothing_in a zero k = refl
nothing_in a (suc n) zero = refl
nothing_in a (suc n) (suc k) = nothing_in (a + 1) n k

module _ (shape : Shape) (begins : All (λ (p : PointId). p.0 < shape.points) shape.activations) (few_points : shape.points ≤ most_points) (few_links : length shape.activations ≤ most_links) where
  rows : List TargetRow
  rows = map empty_row (range_with_len 0 shape.points)

  empty_stored : AreTableOf (map empty_row (range_with_len 0 shape.points)) shape.activations (no_edges shape)
  empty_stored = (
    record {
      targets = λ k d inside. (let count = length-map-range_with_len empty_row 0 shape.points in ap (λ (r : TargetRow). r.to.0) (get_or-map-range_with_len empty_row 0 shape.points k k d (omega arith) (omega arith)));
      keys = λ k d inside key w has. absurd (nowhere k d inside key w has);
      sound = subst IsGraph (sym is) (record {
        keys = λ edge has. absurd (no_edges-has_none shape edge has);
        weights = λ edge has. absurd (no_edges-has_none shape edge has);
        begins = begins;
        few_points = few_points;
        few_links = few_links;
      });
    },
    is,
  )
    where
      nothing : (key : Key) → at_key (map empty_row (range_with_len 0 shape.points)) key ≡ None
      nothing key = ap (λ (m : map_of.FinMap key_cmp ℤ). map_of.get m key) (nothing_in 0 shape.points key.to.0) ∙ map_of.get-empty key_cmp key

      nowhere : (k : ℕ) (d : TargetRow) → k < length (map empty_row (range_with_len 0 shape.points)) → (key : Key) (w : ℤ) → map_of.get (get_or (map empty_row (range_with_len 0 shape.points)) k d).weights key ≡ Some w → ⊥
      nowhere k d inside key w has =
          let none : map_of.get (get_or (map empty_row (range_with_len 0 shape.points)) k d).weights key ≡ None =
          ap (λ (r : TargetRow). map_of.get r.weights key) (get_or_default (map empty_row (range_with_len 0 shape.points)) k d no_row inside) ∙ ap (λ (m : map_of.FinMap key_cmp ℤ). map_of.get m key) (nothing_in 0 shape.points k)
          ∙ map_of.get-empty key_cmp key in
          absurd cc

      same : shape_with (map empty_row (range_with_len 0 shape.points)) shape.activations ≡ shape
      same = λ i. record { points = length-map-range_with_len empty_row 0 shape.points i; activations = shape.activations }

      empty : dense_map (shape_with (map empty_row (range_with_len 0 shape.points)) shape.activations) (at_key (map empty_row (range_with_len 0 shape.points))) ≡ map_of.empty
      empty = is_dense (shape_with (map empty_row (range_with_len 0 shape.points)) shape.activations) (at_key (map empty_row (range_with_len 0 shape.points))) map_of.empty (λ key in_shape. map_of.get-empty key_cmp key ∙ sym (nothing key))
          (λ key out. map_of.get-empty key_cmp key)

      is : graph_with (map empty_row (range_with_len 0 shape.points)) shape.activations ≡ no_edges shape
      is = λ i. record { shape = same i; weights = empty i }

-- no rows store the table of no points
pub none_stored : (rows : List TargetRow) (activations : List PointId) → rows ≡ [] → activations ≡ [] → AreTableOf rows activations (no_edges no_shape)
none_stored rows activations no_rows none =
    subst (λ (rs : List TargetRow). AreTableOf rs activations (no_edges no_shape)) (sym no_rows)
    (subst (λ (points : List PointId). AreTableOf [] points (no_edges no_shape)) (sym none) (empty_stored no_shape (λ k d inside. absurd (omega (arith, inside))) (omega arith) (omega arith)))

pub empty_made : (net : Plan) → IsPlan net → (points : List (List ℕ)) (links : List Link) (k : ℕ) → points ≡ net.points → links ≡ net.links → length links ≤ k → (rows : List TargetRow) (activations : List PointId)
    → rows ≡ map empty_row (range_with_len 0 (length points)) → activations ≡ map (λ (l : Link). l.from) (take k links) → AreTableOf rows activations (no_edges (shape_of net))
empty_made net sound points links k same_points same_links done rows activations rows_are begin_in =
    let shape : (base_table net).shape ≡ shape_of net = base_shape net sound in
    let base : IsGraph (base_table net) = base_sound net sound in
    let all_rows : rows ≡ map empty_row (range_with_len 0 (length net.points)) = rows_are ∙ ap (λ (ps : List (List ℕ)). map empty_row (range_with_len 0 (length ps))) same_points in
    let all_links : activations ≡ map (λ (l : Link). l.from) net.links = begin_in ∙ ap (map (λ (l : Link). l.from)) (take_all k links done ∙ same_links) in
    let (stored, is) = empty_stored (shape_of net)
    (subst (λ (s : Shape). All (λ (p : PointId). p.0 < s.points) s.activations) shape base.begins)
    (subst (λ (s : Shape). s.points ≤ most_points) shape base.few_points)
    (subst (λ (s : Shape). length s.activations ≤ most_links) shape base.few_links) in (
      subst (λ (rs : List TargetRow). AreStored rs activations) (sym all_rows) (subst (AreStored (map empty_row (range_with_len 0 (length net.points)))) (sym all_links) stored),
      (λ i. graph_with (all_rows i) (all_links i)) ∙ is,
    )
