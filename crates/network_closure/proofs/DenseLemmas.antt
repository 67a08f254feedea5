-- What the rows of a table have for a key, before and after one place is changed.
use Rattle.std.proofs.Common.{◌≡◌, ◌≢◌, ℕ, zero, suc, ◌==◌, ◌<◌, ℤ, Bool, true, false, cond, List, [], length, get_or, set, get_or-set_same, get_or-set_other, length-set, replicate, ◌≤◌, map, take, Option, Some, None, refl, ap, sym, subst}
use Rattle.std.proofs.Common.{◌∙◌, arith}
use Rattle.std.specs.Prelude.{slice_get}
use Rattle.std.specs.List.{All}
use Rattle.std.specs.Ordering.{eq_by_cmp}
use Rattle.std.specs.FinMap as map_of
use Rattle.std.proofs.lemmas.Bool.Decides.{nat_tests}
use Rattle.std.proofs.lemmas.Option.{slice_get_within, get_or_from_slice_get}
use Rattle.std.proofs.lemmas.List.Elements.{All-set, All-replicate}
use Rattle.std.proofs.lemmas.List.{get_or_default, length-replicate, take_all}
use Rattle.std.proofs.Math.ListN.{length-map}
use Rattle.net_model.specs.Network.{Plan, IsPlan}
use Rattle.net_model.specs.declared.part.Link.{Link}
use Rattle.closure_model.proofs.BaseLemmas.{base_shape, base_sound}
use Rattle.net_model.specs.Limits.{most_points, most_links, IsWeight}
use Rattle.net_model.specs.declared.ids.PointId.{PointId}
use Rattle.net_model.specs.declared.ids.LinkId.{LinkId}
use Rattle.closure_model.specs.Keys.{Key, edge_of, key_cmp, Shape, shape_of as shape_of_net, IsKey, IsLabelAt, labelled_key, ordinary_key}
use Rattle.closure_model.specs.Tables.{Graph, weight_of, with_edge, no_edges, base_table, IsGraph}
use Rattle.closure_model.proofs.KeyOrder.{key_test, test_apart}
use Rattle.closure_model.proofs.TableLemmas.{no_edges-has_none, weight_of-with_edge}
use Rattle.closure_model.proofs.KeyMaps.{dense_map, get-dense_in, is_dense}
use Rattle.closure_model.proofs.ListedEdges.{nothing_elsewhere}
use Rattle.closure_model.proofs.SoundTables.{IsGraph-with_edge}
use Rattle.labelled_graph.specs.Words.{FitsWord}
use Rattle.network_closure.specs.Dense.{shape_of, dense_weight_at, at_label, dense_weight_at_key, dense_graph_of, IsDense}
use Rattle.network_closure.specs.declared.dense.DenseTable.TheInside.{Inside}

-- a weight that a word holds is one that a table may hold
pub fits_weight : (weight : ℤ) → FitsWord weight → IsWeight weight
fits_weight weight small = omega (arith, small)

-- ---- reading
pub weight_at : (table : Inside) (key : Key) → IsKey (shape_of table) key → weight_of (dense_graph_of table) key ≡ dense_weight_at_key table key
weight_at table key is = get-dense_in (shape_of table) (dense_weight_at_key table) key is

-- ---- two keys
test_same : (first second : Key) → first ≡ second → eq_by_cmp key_cmp first second ≡ true
test_same first second is = (key_test first second).1 is

-- ---- a changed place of rows
place_changed : (rows : List (List (Option ℤ))) (r p i j : ℕ) (o : Option ℤ) → r < length rows → p < length (get_or rows r []) → i ≡ r → j ≡ p → dense_weight_at (set rows r (set (get_or rows r []) p o)) i j ≡ o
place_changed rows r p i j o row place is at =
    ap (λ k. get_or (get_or (set rows r (set (get_or rows r []) p o)) k []) j None) is
    ∙ ap (λ xs. get_or xs j None) (get_or-set_same rows r (set (get_or rows r []) p o) [] row)
    ∙ ap (λ k. get_or (set (get_or rows r []) p o) k None) at
    ∙ get_or-set_same (get_or rows r []) p o None place

other_row : (rows : List (List (Option ℤ))) (r p i j : ℕ) (o : Option ℤ) → i ≢ r → dense_weight_at (set rows r (set (get_or rows r []) p o)) i j ≡ dense_weight_at rows i j
other_row rows r p i j o apart = let same : get_or (set rows r (set (get_or rows r []) p o)) i [] ≡ get_or rows i [] = grind (arith, get_or-set_other) in ap (λ xs. get_or xs j None) same

other_place : (rows : List (List (Option ℤ))) (r p i j : ℕ) (o : Option ℤ) → r < length rows → j ≢ p → dense_weight_at (set rows r (set (get_or rows r []) p o)) i j ≡ dense_weight_at rows i j
other_place rows r p i j o row apart = by (i == r) refl
  where
    by : (b : Bool) → i == r ≡ b → dense_weight_at (set rows r (set (get_or rows r []) p o)) i j ≡ dense_weight_at rows i j
    by true is =
        let here : i ≡ r = grind (arith, nat_tests) in
        let kept : get_or (set (get_or rows r []) p o) j None ≡ get_or (get_or rows r []) j None = grind (arith, get_or-set_other) in
        ap (λ k. get_or (get_or (set rows r (set (get_or rows r []) p o)) k []) j None) here
        ∙ ap (λ xs. get_or xs j None) (get_or-set_same rows r (set (get_or rows r []) p o) [] row)
        ∙ kept
        ∙ ap (λ k. get_or (get_or rows k []) j None) (sym here)
    by false is = let other : i ≢ r = grind (arith, nat_tests) in other_row rows r p i j o other

-- ---- the table with one key changed
-- a table is another with one key changed if it is for the same points and links and has that at each key
module _ (old new : Inside) (dense : IsDense old) (key : Key) (is_key : IsKey (shape_of old) key) (o : Option ℤ) (same : shape_of new ≡ shape_of old)
    (changed : (q : Key) → IsKey (shape_of old) q → dense_weight_at_key new q ≡ cond (eq_by_cmp key_cmp q key) o (dense_weight_at_key old q)) where
  graph_changed : (graph : Graph) → graph.shape ≡ shape_of old → ((q : Key) → weight_of graph q ≡ cond (eq_by_cmp key_cmp q key) o (weight_of (dense_graph_of old) q)) → dense_graph_of new ≡ graph
  graph_changed graph shape is =
      let weights : dense_map (shape_of new) (dense_weight_at_key new) ≡ graph.weights = is_dense (shape_of new) (dense_weight_at_key new) graph.weights here elsewhere in
      λ i. record { shape = (same ∙ sym shape) i; weights = weights i }
    where
      here : (q : Key) → IsKey (shape_of new) q → map_of.get graph.weights q ≡ dense_weight_at_key new q
      here q in_new =
          let in_old : IsKey (shape_of old) q = subst (λ s. IsKey s q) same in_new in
          is q ∙ ap (cond (eq_by_cmp key_cmp q key) o) (weight_at old q in_old) ∙ sym (changed q in_old)

      elsewhere : (q : Key) → (IsKey (shape_of new) q → ⊥) → map_of.get graph.weights q ≡ None
      elsewhere q out =
          let out_old : IsKey (shape_of old) q → ⊥ = λ inside. out (subst (λ s. IsKey s q) (sym same) inside) in
          let apart : q ≢ key = λ equal. out_old (subst (IsKey (shape_of old)) (sym equal) is_key) in
          is q ∙ ap (λ b. cond b o (weight_of (dense_graph_of old) q)) (test_apart q key apart) ∙ nothing_elsewhere (dense_graph_of old) dense.sound q out_old

pub graph_with_weight : (old new : Inside) → IsDense old → (key : Key) → IsKey (shape_of old) key → (w : ℤ) → shape_of new ≡ shape_of old
    → ((q : Key) → IsKey (shape_of old) q → dense_weight_at_key new q ≡ cond (eq_by_cmp key_cmp q key) (Some w) (dense_weight_at_key old q)) → dense_graph_of new ≡ with_edge (dense_graph_of old) (edge_of key w)
graph_with_weight old new dense key is_key w same changed =
    graph_changed old new dense key is_key (Some w) same changed (with_edge (dense_graph_of old) (edge_of key w)) refl (weight_of-with_edge (dense_graph_of old) (edge_of key w))

-- ---- a word set in the rows
apart_by_label : (first second : Key) → first.label ≢ second.label → first ≢ second
apart_by_label first second apart same = apart (ap (λ (k : Key). k.label) same)

apart_by_source : (first second : Key) → first.from.0 ≢ second.from.0 → first ≢ second
apart_by_source first second apart same = apart (ap (λ (k : Key). k.from.0) same)

apart_by_target : (first second : Key) → first.to.0 ≢ second.to.0 → first ≢ second
apart_by_target first second apart same = apart (ap (λ (k : Key). k.to.0) same)

same_number : (p q : PointId) → p.0 ≡ q.0 → p ≡ q
same_number p q is = ap (λ (k : ℕ). record { 0 = k }) is

same_link : (p q : LinkId) → p.0 ≡ q.0 → p ≡ q
same_link p q is = ap (λ (k : ℕ). record { 0 = k }) is

same_parts : (first second : Key) → first.to ≡ second.to → first.from ≡ second.from → first.label ≡ second.label → first ≡ second
same_parts first second to from label = λ i. record { to = to i; from = from i; label = label i }

-- what the test of two keys says, as an equation of what is chosen by it
chosen : (q key : Key) (o rest : Option ℤ) → q ≡ key → o ≡ cond (eq_by_cmp key_cmp q key) o rest
chosen q key o rest is = sym (ap (λ b. cond b o rest) (test_same q key is))

left : (q key : Key) (o rest : Option ℤ) → q ≢ key → rest ≡ cond (eq_by_cmp key_cmp q key) o rest
left q key o rest apart = sym (ap (λ b. cond b o rest) (test_apart q key apart))

no_label : (l : LinkId) → None ≢ Some l
no_label l is = absurd cc

module _ (old new : Inside) (dense : IsDense old) (key : Key) (is_key : IsKey (shape_of old) key) (w : ℤ) (small : IsWeight w) where
  ordinary_changed : key.label ≡ None → new.labelled.items ≡ old.labelled.items → new.ordinary.items ≡ set old.ordinary.items key.to.0 (set (get_or old.ordinary.items key.to.0 []) key.from.0 (Some w))
      → (q : Key) → dense_weight_at_key new q ≡ cond (eq_by_cmp key_cmp q key) (Some w) (dense_weight_at_key old q)
  ordinary_changed none labelled ordinary q = by q.label refl
    where
      inside : key.from.0 < length (get_or old.ordinary.items key.to.0 [])
      inside = let long = dense.ordinary_rows key.to.0 [] is_key.to_point in omega (arith, is_key.from_point)

      at_place_new : dense_weight_at new.ordinary.items q.to.0 q.from.0 ≡ dense_weight_at (set old.ordinary.items key.to.0 (set (get_or old.ordinary.items key.to.0 []) key.from.0 (Some w))) q.to.0 q.from.0
      at_place_new = ap (λ rows. dense_weight_at rows q.to.0 q.from.0) ordinary

      by_place : q.label ≡ None → (b c : Bool) → q.to.0 == key.to.0 ≡ b → q.from.0 == key.from.0 ≡ c → dense_weight_at new.ordinary.items q.to.0 q.from.0 ≡ cond (eq_by_cmp key_cmp q key) (Some w)
          (dense_weight_at old.ordinary.items q.to.0 q.from.0)
      by_place is true true to from =
          let to_is : q.to.0 ≡ key.to.0 = grind (arith, nat_tests) in
          let from_is : q.from.0 ≡ key.from.0 = grind (arith, nat_tests) in
          at_place_new ∙ place_changed old.ordinary.items key.to.0 key.from.0 q.to.0 q.from.0 (Some w) is_key.to_point inside to_is from_is
          ∙ chosen q key (Some w) (dense_weight_at old.ordinary.items q.to.0 q.from.0) (same_parts q key (same_number q.to key.to to_is) (same_number q.from key.from from_is) (is ∙ sym none))
      by_place is false c to from =
          let apart : q.to.0 ≢ key.to.0 = grind (arith, nat_tests) in
          at_place_new ∙ other_row old.ordinary.items key.to.0 key.from.0 q.to.0 q.from.0 (Some w) apart
          ∙ left q key (Some w) (dense_weight_at old.ordinary.items q.to.0 q.from.0) (apart_by_target q key apart)
      by_place is true false to from =
          let apart : q.from.0 ≢ key.from.0 = grind (arith, nat_tests) in
          at_place_new ∙ other_place old.ordinary.items key.to.0 key.from.0 q.to.0 q.from.0 (Some w) is_key.to_point apart
          ∙ left q key (Some w) (dense_weight_at old.ordinary.items q.to.0 q.from.0) (apart_by_source q key apart)

      by : (label : Option LinkId) → q.label ≡ label → at_label new q label ≡ cond (eq_by_cmp key_cmp q key) (Some w) (at_label old q label)
      by None is = by_place is (q.to.0 == key.to.0) (q.from.0 == key.from.0) refl refl
      by (Some l) is =
          let apart : q.label ≢ key.label = λ same. no_label l (sym none ∙ sym same ∙ is) in
          ap (λ rows. dense_weight_at rows l.0 q.from.0) labelled ∙ left q key (Some w) (dense_weight_at old.labelled.items l.0 q.from.0) (apart_by_label q key apart)

  labelled_changed : (l : LinkId) → key.label ≡ Some l → new.ordinary.items ≡ old.ordinary.items → new.labelled.items ≡ set old.labelled.items l.0 (set (get_or old.labelled.items l.0 []) key.from.0 (Some w))
      → (q : Key) → IsKey (shape_of old) q → dense_weight_at_key new q ≡ cond (eq_by_cmp key_cmp q key) (Some w) (dense_weight_at_key old q)
  labelled_changed l some ordinary labelled q is_q = by q.label refl
    where
      begins : slice_get old.activations.items l.0 ≡ Some key.to
      begins = subst (IsLabelAt (shape_of old) key.to) some is_key.labelled

      row : l.0 < length old.labelled.items
      row = omega (arith, slice_get_within old.activations.items l.0 key.to begins, dense.label_count)

      inside : key.from.0 < length (get_or old.labelled.items l.0 [])
      inside = let long = dense.labelled_rows l.0 [] row in omega (arith, is_key.from_point)

      at_place_new : (m : LinkId) → dense_weight_at new.labelled.items m.0 q.from.0 ≡ dense_weight_at (set old.labelled.items l.0 (set (get_or old.labelled.items l.0 []) key.from.0 (Some w))) m.0 q.from.0
      at_place_new m = ap (λ rows. dense_weight_at rows m.0 q.from.0) labelled

      by_place : (m : LinkId) → q.label ≡ Some m → (b c : Bool) → m.0 == l.0 ≡ b → q.from.0 == key.from.0 ≡ c
          → dense_weight_at new.labelled.items m.0 q.from.0 ≡ cond (eq_by_cmp key_cmp q key) (Some w) (dense_weight_at old.labelled.items m.0 q.from.0)
      by_place m is true true label from =
          let label_is : m.0 ≡ l.0 = grind (arith, nat_tests) in
          let from_is : q.from.0 ≡ key.from.0 = grind (arith, nat_tests) in
          let q_begins : slice_get old.activations.items m.0 ≡ Some q.to = subst (IsLabelAt (shape_of old) q.to) is is_q.labelled in
          let targets : Some q.to ≡ Some key.to = sym q_begins ∙ ap (slice_get old.activations.items) label_is ∙ begins in
          let to_is : q.to ≡ key.to = cc in
          at_place_new m ∙ place_changed old.labelled.items l.0 key.from.0 m.0 q.from.0 (Some w) row inside label_is from_is
          ∙ chosen q key (Some w) (dense_weight_at old.labelled.items m.0 q.from.0) (same_parts q key to_is (same_number q.from key.from from_is) (is ∙ ap Some (same_link m l label_is) ∙ sym some))
      by_place m is false c label from =
          let apart : m.0 ≢ l.0 = grind (arith, nat_tests) in
          let labels : q.label ≢ key.label = λ same. let both : Some m ≡ Some l = sym is ∙ same ∙ some in let one : m ≡ l = cc in apart (ap (λ (k : LinkId). k.0) one) in
          at_place_new m ∙ other_row old.labelled.items l.0 key.from.0 m.0 q.from.0 (Some w) apart
          ∙ left q key (Some w) (dense_weight_at old.labelled.items m.0 q.from.0) (apart_by_label q key labels)
      by_place m is true false label from =
          let apart : q.from.0 ≢ key.from.0 = grind (arith, nat_tests) in
          at_place_new m ∙ other_place old.labelled.items l.0 key.from.0 m.0 q.from.0 (Some w) row apart
          ∙ left q key (Some w) (dense_weight_at old.labelled.items m.0 q.from.0) (apart_by_source q key apart)

      by : (label : Option LinkId) → q.label ≡ label → at_label new q label ≡ cond (eq_by_cmp key_cmp q key) (Some w) (at_label old q label)
      by None is =
          let apart : q.label ≢ key.label = λ same. no_label l (sym is ∙ same ∙ some) in
          ap (λ rows. dense_weight_at rows q.to.0 q.from.0) ordinary ∙ left q key (Some w) (dense_weight_at old.ordinary.items q.to.0 q.from.0) (apart_by_label q key apart)
      by (Some m) is = by_place m is (m.0 == l.0) (q.from.0 == key.from.0) refl refl

  -- an ordinary key was changed
  put_ordinary : key.label ≡ None → new.activations.items ≡ old.activations.items → new.labelled.items ≡ old.labelled.items
      → new.ordinary.items ≡ set old.ordinary.items key.to.0 (set (get_or old.ordinary.items key.to.0 []) key.from.0 (Some w)) → IsDense new × (dense_graph_of new ≡ with_edge (dense_graph_of old) (edge_of key w))
  put_ordinary none activations labelled ordinary = (
    record {
      ordinary_rows = subst (λ rows. All (λ (row : List (Option ℤ)). length row ≡ length rows) rows) (sym ordinary) rows;
      labelled_rows = λ k d inside. subst (λ rows. length (get_or rows k d) ≡ length old.ordinary.items) (sym labelled) (dense.labelled_rows k d (subst (λ rows. k < length rows) labelled inside)) ∙ sym count;
      label_count = ap length labelled ∙ dense.label_count ∙ sym (ap length activations);
      sound = subst IsGraph (sym is) (IsGraph-with_edge (dense_graph_of old) (edge_of key w) dense.sound is_key small);
    },
    is,
  )
    where
      count : length new.ordinary.items ≡ length old.ordinary.items
      count = ap length ordinary ∙ length-set old.ordinary.items key.to.0 (set (get_or old.ordinary.items key.to.0 []) key.from.0 (Some w))

      shape : shape_of new ≡ shape_of old
      shape = λ i. record { points = count i; activations = activations i }

      is : dense_graph_of new ≡ with_edge (dense_graph_of old) (edge_of key w)
      is = graph_with_weight old new dense key is_key w shape (λ q is_q. ordinary_changed none labelled ordinary q)

      row : length (set (get_or old.ordinary.items key.to.0 []) key.from.0 (Some w)) ≡ length old.ordinary.items
      row = length-set (get_or old.ordinary.items key.to.0 []) key.from.0 (Some w) ∙ dense.ordinary_rows key.to.0 [] is_key.to_point

      rows : All (λ (row : List (Option ℤ)). length row ≡ length (set old.ordinary.items key.to.0 (set (get_or old.ordinary.items key.to.0 []) key.from.0 (Some w))))
          (set old.ordinary.items key.to.0 (set (get_or old.ordinary.items key.to.0 []) key.from.0 (Some w)))
      rows k d inside =
          All-set (λ (row : List (Option ℤ)). length row ≡ length old.ordinary.items) old.ordinary.items key.to.0 (set (get_or old.ordinary.items key.to.0 []) key.from.0 (Some w)) row dense.ordinary_rows k d inside
          ∙ sym (length-set old.ordinary.items key.to.0 (set (get_or old.ordinary.items key.to.0 []) key.from.0 (Some w)))

  -- a labelled key was changed
  put_labelled : (l : LinkId) → key.label ≡ Some l → new.activations.items ≡ old.activations.items → new.ordinary.items ≡ old.ordinary.items
      → new.labelled.items ≡ set old.labelled.items l.0 (set (get_or old.labelled.items l.0 []) key.from.0 (Some w)) → IsDense new × (dense_graph_of new ≡ with_edge (dense_graph_of old) (edge_of key w))
  put_labelled l some activations ordinary labelled = (
    record {
      ordinary_rows = subst (λ rows. All (λ (row : List (Option ℤ)). length row ≡ length rows) rows) (sym ordinary) dense.ordinary_rows;
      labelled_rows = λ k d inside. subst (λ rows. length (get_or rows k d) ≡ length old.ordinary.items) (sym labelled) (rows k d (subst (λ rows. k < length rows) labelled inside)) ∙ sym (ap length ordinary);
      label_count = ap length labelled ∙ length-set old.labelled.items l.0 (set (get_or old.labelled.items l.0 []) key.from.0 (Some w)) ∙ dense.label_count ∙ sym (ap length activations);
      sound = subst IsGraph (sym is) (IsGraph-with_edge (dense_graph_of old) (edge_of key w) dense.sound is_key small);
    },
    is,
  )
    where
      shape : shape_of new ≡ shape_of old
      shape = λ i. record { points = (ap length ordinary) i; activations = activations i }

      is : dense_graph_of new ≡ with_edge (dense_graph_of old) (edge_of key w)
      is = graph_with_weight old new dense key is_key w shape (λ q is_q. labelled_changed l some ordinary labelled q is_q)

      begins : l.0 < length old.labelled.items
      begins = omega (arith, slice_get_within old.activations.items l.0 key.to (subst (IsLabelAt (shape_of old) key.to) some is_key.labelled), dense.label_count)

      row : length (set (get_or old.labelled.items l.0 []) key.from.0 (Some w)) ≡ length old.ordinary.items
      row = length-set (get_or old.labelled.items l.0 []) key.from.0 (Some w) ∙ dense.labelled_rows l.0 [] begins

      rows : All (λ (row : List (Option ℤ)). length row ≡ length old.ordinary.items) (set old.labelled.items l.0 (set (get_or old.labelled.items l.0 []) key.from.0 (Some w)))
      rows = All-set (λ (row : List (Option ℤ)). length row ≡ length old.ordinary.items) old.labelled.items l.0 (set (get_or old.labelled.items l.0 []) key.from.0 (Some w)) row dense.labelled_rows

-- a dense table that is seen as a graph
abbrev pub IsDenseOf : Inside → Graph → Type 0
IsDenseOf table graph = IsDense table × (dense_graph_of table ≡ graph)

-- the row in which the edges of a key have their word, by what is read of it
pub record IsPut (old : Inside) (graph : Graph) (key : Key) (w : ℤ) : Type 0 where
  pub dense : IsDense old
  pub view : dense_graph_of old ≡ graph
  pub is_key : IsKey graph.shape key
  pub small : IsWeight w

in_old : (old : Inside) (graph : Graph) (key : Key) → dense_graph_of old ≡ graph → IsKey graph.shape key → IsKey (shape_of old) key
in_old old graph key view is = subst (λ (g : Graph). IsKey g.shape key) (sym view) is

pub row_of_target : (old : Inside) (graph : Graph) (key : Key) (w : ℤ) → IsPut old graph key w → key.to.0 < length old.ordinary.items
row_of_target old graph key w put = (in_old old graph key put.view put.is_key).to_point

pub row_of_label : (old : Inside) (graph : Graph) (key : Key) (w : ℤ) → IsPut old graph key w → (l : LinkId) → key.label ≡ Some l → l.0 < length old.labelled.items
row_of_label old graph key w put l some =
    let is_key = in_old old graph key put.view put.is_key in
    omega (arith, slice_get_within old.activations.items l.0 key.to (subst (IsLabelAt (shape_of old) key.to) some is_key.labelled), put.dense.label_count)

pub place_of_target : (old : Inside) (graph : Graph) (key : Key) (w : ℤ) → IsPut old graph key w → (row : List (Option ℤ)) → row ≡ get_or old.ordinary.items key.to.0 row → key.from.0 < length row
place_of_target old graph key w put row read =
    let is_key = in_old old graph key put.view put.is_key in
    let long : length row ≡ length old.ordinary.items = ap length read ∙ put.dense.ordinary_rows key.to.0 row is_key.to_point in
    omega (arith, is_key.from_point)

pub place_of_label : (old : Inside) (graph : Graph) (key : Key) (w : ℤ) → IsPut old graph key w → (l : LinkId) → key.label ≡ Some l → (row : List (Option ℤ)) → row ≡ get_or old.labelled.items l.0 row → key.from.0 < length row
place_of_label old graph key w put l some row read =
    let is_key = in_old old graph key put.view put.is_key in
    let long : length row ≡ length old.ordinary.items = ap length read ∙ put.dense.labelled_rows l.0 row (row_of_label old graph key w put l some) in
    omega (arith, is_key.from_point)

module _ (old new : Inside) (graph : Graph) (key : Key) (w : ℤ) (put : IsPut old graph key w) where
  pub ordinary_put : (before after : List (Option ℤ)) → key.label ≡ None → before ≡ get_or old.ordinary.items key.to.0 before → after ≡ set before key.from.0 (Some w)
      → new.activations.items ≡ old.activations.items → new.labelled.items ≡ old.labelled.items → new.ordinary.items ≡ set old.ordinary.items key.to.0 after → IsDenseOf new (with_edge graph (edge_of key w))
  ordinary_put before after none read written activations labelled ordinary =
      let is_key = in_old old graph key put.view put.is_key in
      let row : before ≡ get_or old.ordinary.items key.to.0 [] = read ∙ get_or_default old.ordinary.items key.to.0 before [] is_key.to_point in
      let (dense, is) = put_ordinary old new put.dense key is_key w put.small none activations labelled (ordinary ∙ ap (set old.ordinary.items key.to.0) (written ∙ ap (λ xs. set xs key.from.0 (Some w)) row)) in
      (dense, is ∙ ap (λ g. with_edge g (edge_of key w)) put.view)

  pub labelled_put : (l : LinkId) (before after : List (Option ℤ)) → key.label ≡ Some l → before ≡ get_or old.labelled.items l.0 before → after ≡ set before key.from.0 (Some w)
      → new.activations.items ≡ old.activations.items → new.ordinary.items ≡ old.ordinary.items → new.labelled.items ≡ set old.labelled.items l.0 after → IsDenseOf new (with_edge graph (edge_of key w))
  labelled_put l before after some read written activations ordinary labelled =
      let is_key = in_old old graph key put.view put.is_key in
      let row : before ≡ get_or old.labelled.items l.0 [] = read ∙ get_or_default old.labelled.items l.0 before [] (row_of_label old graph key w put l some) in
      let (dense, is) = put_labelled old new put.dense key is_key w put.small l some activations ordinary (labelled ∙ ap (set old.labelled.items l.0) (written ∙ ap (λ xs. set xs key.from.0 (Some w)) row)) in
      (dense, is ∙ ap (λ g. with_edge g (edge_of key w)) put.view)

-- ---- what is read
pub ordinary_read : (table : Inside) (graph : Graph) → IsDense table → dense_graph_of table ≡ graph → (from to : PointId) → from.0 < graph.shape.points → to.0 < graph.shape.points → (row : List (Option ℤ))
    → row ≡ get_or table.ordinary.items to.0 row
    → get_or row from.0 None ≡ weight_of graph (ordinary_key from to)
ordinary_read table graph dense view from to from_point to_point row read =
    let is_key : IsKey (shape_of table) (ordinary_key from to) = in_old table graph (ordinary_key from to) view (record { to_point = to_point; from_point = from_point; labelled = tt }) in
    ap (λ xs. get_or xs from.0 None) (read ∙ get_or_default table.ordinary.items to.0 row [] is_key.to_point)
    ∙ sym (weight_at table (ordinary_key from to) is_key)
    ∙ ap (λ g. weight_of g (ordinary_key from to)) view

pub labelled_read : (table : Inside) (graph : Graph) → IsDense table → dense_graph_of table ≡ graph → (from to : PointId) (l : LinkId) → from.0 < graph.shape.points → slice_get graph.shape.activations l.0 ≡ Some to → (row : List (Option ℤ))
    → row ≡ get_or table.labelled.items l.0 row → get_or row from.0 None ≡ weight_of graph (labelled_key from to l)
labelled_read table graph dense view from to l from_point begins row read =
    let begins_here : slice_get table.activations.items l.0 ≡ Some to = subst (λ (g : Graph). slice_get g.shape.activations l.0 ≡ Some to) (sym view) begins in
    let to_point : to.0 < length table.ordinary.items = subst (λ (p : PointId). p.0 < length table.ordinary.items) (get_or_from_slice_get table.activations.items l.0 to to begins_here)
    (dense.sound.begins l.0 to (slice_get_within table.activations.items l.0 to begins_here)) in
    let point : from.0 < length table.ordinary.items = subst (λ (g : Graph). from.0 < g.shape.points) (sym view) from_point in
    let is_key : IsKey (shape_of table) (labelled_key from to l) = record { to_point = to_point; from_point = point; labelled = begins_here } in
    let row_there : l.0 < length table.labelled.items = omega (arith, slice_get_within table.activations.items l.0 to begins_here, dense.label_count) in
    ap (λ xs. get_or xs from.0 None) (read ∙ get_or_default table.labelled.items l.0 row [] row_there)
    ∙ sym (weight_at table (labelled_key from to l) is_key)
    ∙ ap (λ g. weight_of g (labelled_key from to l)) view

-- ---- rows without weights
nothing_in_row : (m p : ℕ) (o : Option ℤ) → o ≡ None → get_or (replicate m o) p o ≡ None
nothing_in_row zero p o is = is
nothing_in_row (suc m) zero o is = is
nothing_in_row (suc m) (suc p) o is = nothing_in_row m p o is

nothing_in_rows : (n m r p : ℕ) (o : Option ℤ) → o ≡ None → get_or (get_or (replicate n (replicate m o)) r []) p o ≡ None
nothing_in_rows zero m r p o is = is
nothing_in_rows (suc n) m zero p o is = nothing_in_row m p o is
nothing_in_rows (suc n) m (suc r) p o is = nothing_in_rows n m r p o is

nothing_at : (rows : List (List (Option ℤ))) (n m r p : ℕ) → rows ≡ replicate n (replicate m None) → dense_weight_at rows r p ≡ None
nothing_at rows n m r p is = ap (λ rs. dense_weight_at rs r p) is ∙ nothing_in_rows n m r p None refl

module _ (table : Inside) (shape : Shape) (points : length table.ordinary.items ≡ shape.points) (activations : table.activations.items ≡ shape.activations)
    (ordinary : table.ordinary.items ≡ replicate shape.points (replicate shape.points None)) (labelled : table.labelled.items ≡ replicate (length shape.activations) (replicate shape.points None)) where
  long_rows : (n m : ℕ) → All (λ (row : List (Option ℤ)). length row ≡ m) (replicate n (replicate m None))
  long_rows n m = All-replicate (λ (row : List (Option ℤ)). length row ≡ m) n (replicate m None) (simp length-replicate)

  without_weights : All (λ point. point.0 < shape.points) shape.activations → shape.points ≤ most_points → length shape.activations ≤ most_links → IsDenseOf table (no_edges shape)
  without_weights begins few_points few_links = (
    record {
      ordinary_rows = λ k d inside. subst (λ rows. All (λ (row : List (Option ℤ)). length row ≡ shape.points) rows) (sym ordinary) (long_rows shape.points shape.points) k d inside ∙ sym points;
      labelled_rows = λ k d inside. subst (λ rows. All (λ (row : List (Option ℤ)). length row ≡ shape.points) rows) (sym labelled) (long_rows (length shape.activations) shape.points) k d inside ∙ sym points;
      label_count = ap length labelled ∙ count ∙ sym (ap length activations);
      sound = subst IsGraph (sym is) (record {
        keys = λ edge has. absurd (no_edges-has_none shape edge has);
        weights = λ edge has. absurd (no_edges-has_none shape edge has);
        begins = begins;
        few_points = few_points;
        few_links = few_links;
      });
    },
    is,
  )
    where
      count : length (replicate (length shape.activations) (replicate {A = Option ℤ} shape.points None)) ≡ length shape.activations
      count = simp length-replicate

      nothing : (key : Key) → dense_weight_at_key table key ≡ None
      nothing key = by key.label
        where
          by : (label : Option LinkId) → at_label table key label ≡ None
          by None = nothing_at table.ordinary.items shape.points shape.points key.to.0 key.from.0 ordinary
          by (Some label) = nothing_at table.labelled.items (length shape.activations) shape.points label.0 key.from.0 labelled

      same : shape_of table ≡ shape
      same = λ i. record { points = points i; activations = activations i }

      empty : dense_map (shape_of table) (dense_weight_at_key table) ≡ map_of.empty
      empty = is_dense (shape_of table) (dense_weight_at_key table) map_of.empty (λ key in_shape. map_of.get-empty key_cmp key ∙ sym (nothing key)) (λ key out. map_of.get-empty key_cmp key)

      is : dense_graph_of table ≡ no_edges shape
      is = λ i. record { shape = same i; weights = empty i }

-- so many rows of so many absent words
abbrev pub absent_words : ℕ → ℕ → List (List (Option ℤ))
absent_words rows places = replicate rows (replicate places None)

-- the points in which links begin
abbrev pub begins_of : List Link → List PointId
begins_of links = map (λ (l : Link). l.from) links

-- a table of absent words alone
pub record HasAbsentWords (table : Inside) (begins : List PointId) (points links : ℕ) : Type 0 where
  pub activations : table.activations.items ≡ begins
  pub ordinary : table.ordinary.items ≡ absent_words points points
  pub labelled : table.labelled.items ≡ absent_words links points

pub absent_table : (table : Inside) (shape : Shape) → HasAbsentWords table shape.activations shape.points (length shape.activations)
    → All (λ point. point.0 < shape.points) shape.activations → shape.points ≤ most_points → length shape.activations ≤ most_links
    → IsDenseOf table (no_edges shape)
absent_table table shape absent begins few_points few_links =
    let points : length table.ordinary.items ≡ shape.points = (let count : length (replicate shape.points (replicate {A = Option ℤ} shape.points None)) ≡ shape.points = simp length-replicate in ap length absent.ordinary ∙ count) in
    without_weights table shape points absent.activations absent.ordinary absent.labelled begins few_points few_links

pub absent_made : (net : Plan) → IsPlan net → (table : Inside) (points : List (List ℕ)) (links : List Link) (k : ℕ) → points ≡ net.points → links ≡ net.links → length links ≤ k
    → HasAbsentWords table (begins_of (take k links)) (length points) (length links)
    → IsDenseOf table (no_edges (shape_of_net net))
absent_made net sound table points links k same_points same_links done absent =
    let shape : (base_table net).shape ≡ shape_of_net net = base_shape net sound in
    let base : IsGraph (base_table net) = base_sound net sound in
    let count : length (map (λ (l : Link). l.from) net.links) ≡ length net.links = simp length-map in
    absent_table table (shape_of_net net)
    (record {
      activations = absent.activations ∙ ap (map (λ (l : Link). l.from)) (take_all k links done ∙ same_links);
      ordinary = absent.ordinary ∙ ap (λ (ps : List (List ℕ)). replicate (length ps) (replicate {A = Option ℤ} (length ps) None)) same_points;
      labelled = absent.labelled ∙ (λ i. replicate (length (same_links i)) (replicate {A = Option ℤ} (length (same_points i)) None)) ∙ ap (λ n. replicate n (replicate {A = Option ℤ} (length net.points) None)) (sym count);
    })
    (subst (λ (s : Shape). All (λ (p : PointId). p.0 < s.points) s.activations) shape base.begins)
    (subst (λ (s : Shape). s.points ≤ most_points) shape base.few_points)
    (subst (λ (s : Shape). length s.activations ≤ most_links) shape base.few_links)
