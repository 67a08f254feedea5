-- The edges that a row made come into a table all at once.
use Rattle.std.proofs.Common.{◌≡◌, ◌≢◌, ◌<◌, ◌⊎◌, inl, inr, ℤ, ◌≤ℤ◌, Bool, true, false, cond, List, [], ◌∷◌, length, map, fold, get_or, set, get_or-set_same, length-set, Option, Some, None, Result, Ok, Err, refl, ap, sym, subst, ◌∙◌, arith}
use Rattle.std.specs.Prelude.{OnOk, OnErr}
use Rattle.std.specs.List.{Contains}
use Rattle.std.specs.declared.cmp.Ordering.TheVariants.{Less, Equal}
use Rattle.std.specs.FinMap as map_of
use Rattle.std.proofs.lemmas.Int.{ints}
use Rattle.std.proofs.lemmas.List.{set-set, set-get_or}
use Rattle.std.proofs.lemmas.List.Elements.{All-contains}
use Rattle.std.proofs.lemmas.List.Sorted.{Contains-permutation, IsPermutation-sym}
use Rattle.net_model.specs.declared.ids.PointId.{PointId}
use Rattle.net_model.specs.declared.part.Edge.{Edge}
use Rattle.closure_model.specs.Keys.{Key, key_cmp, key_of, edge_of}
use Rattle.closure_model.specs.ReferenceRow.{with_made, IsBelow}
use Rattle.closure_model.specs.Tables.{Graph, weight_of, with_edge, lowered, has_at_most, HasAtMost, IsAtMost}
use Rattle.closure_model.specs.declared.rows.Made.{Made}
use Rattle.closure_model.proofs.Entries.{both}
use Rattle.closure_model.proofs.KeyOrder.{key_total, same_key, key_itself}
use Rattle.closure_model.proofs.Lists.{Contains-head, Contains-tail, Contains-map, Contains-map_from}
use Rattle.closure_model.proofs.TableLemmas.{at_most_gives, at_most_tested, all_lowered-at_most, all_lowered-has, all_lowered-cases, all_lowered-shape, with_edge-other}
use Rattle.closure_model.proofs.Weights.{not_below, le_then_lt}
use Rattle.labelled_graph.specs.Changes.{IsEdgeFor}
use Rattle.labelled_graph.specs.Entries.{edge_into, key_into}
use Rattle.labelled_graph.specs.MergedRows.{edges_made, row_set, weights_set, AreEntriesOf, AreMadeFor}
use Rattle.labelled_graph.specs.Rows.{TargetRow, AreRising}
use Rattle.labelled_graph.specs.StoredRows.{AreStored, graph_with}
use Rattle.labelled_graph.specs.declared.entry.Entry.{Entry}
use Rattle.labelled_graph.proofs.RowLemmas.{below_at}
use Rattle.labelled_graph.proofs.StoredLemmas.{AreTableOf, one_set, row_target, row_there}

-- ---- a table that edges lower, in whatever order they come
two_weights : (w v : ℤ) → w ≤ℤ v → v ≤ℤ w → w ≡ v
two_weights w v one other = grind (arith, ints)

same_weights : (one other : Graph) → IsAtMost one other → IsAtMost other one → (key : Key) → weight_of one key ≡ weight_of other key
same_weights one other low high key = by (weight_of one key) refl (weight_of other key) refl
  where
    by : (o : Option ℤ) → weight_of one key ≡ o → (p : Option ℤ) → weight_of other key ≡ p → weight_of one key ≡ weight_of other key
    by None is None there = is ∙ sym there
    by None is (Some v) there = let (w, has, less) = at_most_gives one (edge_of key v) (low (edge_of key v) there) in let no : Some w ≡ None = sym has ∙ is in absurd cc
    by (Some w) is None there = let (v, has, less) = at_most_gives other (edge_of key w) (high (edge_of key w) is) in let no : Some v ≡ None = sym has ∙ there in absurd cc
    by (Some w) is (Some v) there =
        let (a, has_a, less_a) = at_most_gives one (edge_of key v) (low (edge_of key v) there) in
        let (b, has_b, less_b) = at_most_gives other (edge_of key w) (high (edge_of key w) is) in
        let one_is : Some a ≡ Some w = sym has_a ∙ is in
        let other_is : Some b ≡ Some v = sym has_b ∙ there in
        let a_is : a ≡ w = cc in
        let b_is : b ≡ v = cc in
        is ∙ (ap Some (two_weights w v (subst (λ (x : ℤ). x ≤ℤ v) a_is less_a) (subst (λ (x : ℤ). x ≤ℤ w) b_is less_b)) ∙ sym there)

at_most_given : (graph : Graph) (one other : List Edge) → ((edge : Edge) → Contains other edge → Contains one edge) → IsAtMost (fold lowered graph one) (fold lowered graph other)
at_most_given graph one other covers edge has = by (all_lowered-cases graph other edge has)
  where
    by : (Contains other edge) ⊎ (weight_of graph (key_of edge) ≡ Some edge.weight) → HasAtMost (fold lowered graph one) edge
    by (inl inside) = all_lowered-has graph one edge (covers edge inside)
    by (inr there) = all_lowered-at_most graph one edge there

pub same_given : (graph : Graph) (one other : List Edge) → ((edge : Edge) → Contains one edge → Contains other edge) → ((edge : Edge) → Contains other edge → Contains one edge) → fold lowered graph one ≡ fold lowered graph other
same_given graph one other forth back =
    let shape : (fold lowered graph one).shape ≡ (fold lowered graph other).shape = all_lowered-shape graph one ∙ sym (all_lowered-shape graph other) in
    let weights : (fold lowered graph one).weights ≡ (fold lowered graph other).weights =
    map_of.same_map key_total same_key (fold lowered graph one).weights (fold lowered graph other).weights
    (same_weights (fold lowered graph one) (fold lowered graph other) (at_most_given graph one other back) (at_most_given graph other one forth)) in
    λ i. record { shape = shape i; weights = weights i }

-- ---- edges of different keys that improve
set_lowers : (graph : Graph) (edge : Edge) → IsBelow graph edge → with_edge graph edge ≡ lowered graph edge
set_lowers graph edge below = by (has_at_most graph edge) refl
  where
    by : (b : Bool) → has_at_most graph edge ≡ b → with_edge graph edge ≡ lowered graph edge
    by false not = sym (ap (λ (b : Bool). cond b graph (with_edge graph edge)) not)
    by true is =
        let (weight, has, less) = at_most_gives graph edge (at_most_tested graph edge is) in
        absurd (not_below weight weight refl (le_then_lt weight edge.weight weight less (below weight has)))

all_set_lower : (to : PointId) (graph : Graph) (new : List Entry) → AreRising to new → ((entry : Entry) → Contains new entry → IsBelow graph (edge_into to entry))
    → fold with_edge graph (map (edge_into to) new) ≡ fold lowered graph (map (edge_into to) new)
all_set_lower to graph [] rises below = refl
all_set_lower to graph (entry ∷ new) rises below =
    all_set_lower to (with_edge graph (edge_into to entry)) new (both _ _ rises).1 still
    ∙ ap (λ (g : Graph). fold lowered g (map (edge_into to) new)) (set_lowers graph (edge_into to entry) (below entry (Contains-head entry new)))
  where
    apart : (other : Entry) → Contains new other → key_into to other ≢ key_into to entry
    apart other (i, inside, at) same =
        let less : key_cmp (key_into to entry) (key_into to other) ≡ Less = subst (λ (e : Entry). key_cmp (key_into to entry) (key_into to e) ≡ Less) at (below_at to (key_into to entry) new (both _ _ rises).0 i other inside) in
        let no : Less ≡ Equal = sym less ∙ (ap (key_cmp (key_into to entry)) same ∙ key_itself (key_into to entry)) in
        absurd cc

    still : (other : Entry) → Contains new other → IsBelow (with_edge graph (edge_into to entry)) (edge_into to other)
    still other inside weight has = below other (Contains-tail entry new other inside) weight (sym (with_edge-other graph (edge_into to entry) (key_into to other) (apart other inside)) ∙ has)

-- ---- the rows that store the table
all_set : (new : List Entry) (rows : List TargetRow) (activations : List PointId) (stored : AreStored rows activations) (graph : Graph) (view : graph_with rows activations ≡ graph) (before : TargetRow) → before.to.0 < length rows
    → before ≡ get_or rows before.to.0 before → ((entry : Entry) → Contains new entry → IsEdgeFor graph.shape (edge_into before.to entry))
    → AreTableOf (set rows before.to.0 (row_set before new)) activations (fold with_edge graph (map (edge_into before.to) new))
all_set [] rows activations stored graph view before inside read each =
    let same : set rows before.to.0 before ≡ rows = ap (set rows before.to.0) read ∙ set-get_or rows before.to.0 before in
    subst (λ (rs : List TargetRow). AreTableOf rs activations graph) (sym same) (stored, view)
all_set (entry ∷ new) rows activations stored graph view before inside read each =
    let after : TargetRow = record before { weights = weights_set before.to before.weights entry } in
    let for = each entry (Contains-head entry new) in
    let (stored_now, view_now) = one_set rows activations stored graph view (key_into before.to entry) entry.weight for.0 for.1 before after read refl in
    subst (λ (rs : List TargetRow). AreTableOf rs activations (fold with_edge (with_edge graph (edge_into before.to entry)) (map (edge_into before.to) new))) (set-set rows before.to.0 after (row_set after new))
    (all_set new (set rows before.to.0 after) activations stored_now (with_edge graph (edge_into before.to entry)) view_now after (subst (λ n. before.to.0 < n) (sym (length-set rows before.to.0 after)) inside)
    (sym (get_or-set_same rows before.to.0 after after inside))
    (λ other there. each other (Contains-tail entry new other there)))

-- ---- what a row made
module _ (graph : Graph) (to : PointId) (made : List Made) (for : AreMadeFor graph to made) (entries : List Entry) (of : AreEntriesOf made entries) where
  made_there : (entry : Entry) → Contains entries entry → (one : Made) × Contains made one × (one.edge ≡ edge_into to entry)
  made_there entry inside =
      Contains-map_from (λ (one : Made). one.edge) made (edge_into to entry)
      (subst (λ (edges : List Edge). Contains edges (edge_into to entry)) (of.each to for.ends) (Contains-map (edge_into to) of.all entry (Contains-permutation entries of.all entry (IsPermutation-sym of.all entries of.same) inside)))

  entry_for : (entry : Entry) → Contains entries entry → IsEdgeFor graph.shape (edge_into to entry)
  entry_for entry inside = let (one, there, is) = made_there entry inside in subst (IsEdgeFor graph.shape) is (All-contains (λ (m : Made). IsEdgeFor graph.shape m.edge) made one for.edges there)

  entry_improves : (entry : Entry) → Contains entries entry → IsBelow graph (edge_into to entry)
  entry_improves entry inside = let (one, there, is) = made_there entry inside in subst (IsBelow graph) is (All-contains (λ (m : Made). IsBelow graph m.edge) made one for.descends there)

  lowered_alike : fold lowered graph (map (edge_into to) entries) ≡ with_made graph made
  lowered_alike = same_given graph (map (edge_into to) entries) (edges_made made) forth back
    where
      forth : (edge : Edge) → Contains (map (edge_into to) entries) edge → Contains (edges_made made) edge
      forth edge inside =
          let (entry, there, is) = Contains-map_from (edge_into to) entries edge inside in
          let (one, at, same) = made_there entry there in
          subst (Contains (edges_made made)) (same ∙ is) (Contains-map (λ (m : Made). m.edge) made one at)

      back : (edge : Edge) → Contains (edges_made made) edge → Contains (map (edge_into to) entries) edge
      back edge inside =
          let (entry, there, is) = Contains-map_from (edge_into to) of.all edge (subst (λ (edges : List Edge). Contains edges edge) (sym (of.each to for.ends)) inside) in
          subst (Contains (map (edge_into to) entries)) is (Contains-map (edge_into to) entries entry (Contains-permutation of.all entries entry of.same there))

  pub table_merged : AreRising to entries → (rows : List TargetRow) (activations : List PointId) (stored : AreStored rows activations) (view : graph_with rows activations ≡ graph) (before after : TargetRow)
      → before ≡ get_or rows to.0 before → after ≡ row_set before entries
      → AreTableOf (set rows to.0 after) activations (with_made graph made)
  table_merged rises rows activations stored view before after read is =
      let ends : before.to ≡ to = row_target rows activations stored graph view to for.target before read in
      let inside : to.0 < length rows = row_there rows activations stored graph view to for.target in
      let there = all_set entries rows activations stored graph view before (subst (λ (p : PointId). p.0 < length rows) (sym ends) inside) (read ∙ ap (λ (p : PointId). get_or rows p.0 before) (sym ends))
      (λ entry at. subst (λ (p : PointId). IsEdgeFor graph.shape (edge_into p entry)) (sym ends) (entry_for entry at)) in
      let here : AreTableOf (set rows to.0 (row_set before entries)) activations (fold with_edge graph (map (edge_into to) entries)) =
      subst (λ (p : PointId). AreTableOf (set rows p.0 (row_set before entries)) activations (fold with_edge graph (map (edge_into p) entries))) ends there in
      let whole : fold with_edge graph (map (edge_into to) entries) ≡ with_made graph made = all_set_lower to graph entries rises entry_improves ∙ lowered_alike in
      subst (λ (r : TargetRow). AreTableOf (set rows to.0 r) activations (with_made graph made)) (sym is) (subst (AreTableOf (set rows to.0 (row_set before entries)) activations) whole here)

  -- the rows store a table also if there is no memory
  pub merged_stored : {E : Type 0} → AreRising to entries → (rows : List TargetRow) (activations : List PointId) (stored : AreStored rows activations) (view : graph_with rows activations ≡ graph) (before after : TargetRow)
      → before ≡ get_or rows to.0 before
      → (r : Result (Unit {0}) E) → OnOk r (after ≡ row_set before entries) → OnErr r (after ≡ before) → AreStored (set rows to.0 after) activations
  merged_stored rises rows activations stored view before after read (Ok done) is unchanged = (table_merged rises rows activations stored view before after read is).0
  merged_stored rises rows activations stored view before after read (Err error) is unchanged =
      let same : set rows to.0 after ≡ rows = ap (set rows to.0) (unchanged ∙ read) ∙ set-get_or rows to.0 before in
      subst (λ (rs : List TargetRow). AreStored rs activations) (sym same) stored

  pub merged_table : {E : Type 0} → AreRising to entries → (rows : List TargetRow) (activations : List PointId) (stored : AreStored rows activations) (view : graph_with rows activations ≡ graph) (before after : TargetRow)
      → before ≡ get_or rows to.0 before
      → (r : Result (Unit {0}) E) → OnOk r (after ≡ row_set before entries) → OnOk r (graph_with (set rows to.0 after) activations ≡ with_made graph made)
  merged_table rises rows activations stored view before after read (Ok done) is = (table_merged rises rows activations stored view before after read is).1
  merged_table rises rows activations stored view before after read (Err error) is = is
