-- The edges of a sound table and of its rows, by the keys in their order.
use Rattle.std.proofs.Common.{◌≡◌, ℕ, zero, suc, ◌+◌, ◌==◌, ℤ, ◌≤◌, ◌<◌, Bool, true, false, cond, List, [], ◌∷◌, ◌++◌, map, filter, Option, Some, None, refl, ap, sym, ◌∙◌, arith}
use Rattle.std.specs.Option.{option_map}
use Rattle.std.specs.List.{AllByRecursion, cons_option, flat_map, range_with_len}
use Rattle.std.specs.FinMap as map_of
use Rattle.std.proofs.lemmas.Bool.Decides.{nat_tests}
use Rattle.std.proofs.lemmas.List.{append-nil}
use Rattle.std.proofs.lemmas.List.Elements.{filter-append}
use Rattle.net_model.specs.declared.ids.PointId.{PointId}
use Rattle.net_model.specs.declared.part.Edge.{Edge}
use Rattle.closure_model.specs.Keys.{Key, edge_of, Shape, IsKey, row_keys, all_keys}
use Rattle.closure_model.specs.Tables.{Graph, weight_of, edges_of, row_of, edges_at, IsGraph}
use Rattle.closure_model.specs.TableLaws.{RowsAreListed}
use Rattle.closure_model.proofs.KeyLists.{row_keys_owned}
use Rattle.closure_model.proofs.KeyMaps.{tabulated, dense_map, is_dense, entries-dense}

-- a sound table has nothing elsewhere than at the keys that there are
pub nothing_elsewhere : (graph : Graph) → IsGraph graph → (key : Key) → (IsKey graph.shape key → ⊥) → weight_of graph key ≡ None
nothing_elsewhere graph sound key no_key = by (weight_of graph key) refl
  where
    by : (o : Option ℤ) → weight_of graph key ≡ o → weight_of graph key ≡ None
    by None is = is
    by (Some w) is = absurd (no_key (sound.keys (edge_of key w) is))

listed_tabulated : (graph : Graph) (keys : List Key) → map (λ (entry : Key × ℤ). edge_of entry.0 entry.1) (tabulated (weight_of graph) keys) ≡ edges_at graph keys
listed_tabulated graph [] = refl
listed_tabulated graph (key ∷ keys) = by (weight_of graph key) (listed_tabulated graph keys)
  where
    by : (o : Option ℤ) → map (λ (entry : Key × ℤ). edge_of entry.0 entry.1) (tabulated (weight_of graph) keys) ≡ edges_at graph keys
        → map (λ (entry : Key × ℤ). edge_of entry.0 entry.1) (cons_option (option_map (λ w. (key, w)) o) (tabulated (weight_of graph) keys)) ≡ cons_option (option_map (edge_of key) o) (edges_at graph keys)
    by None rest = rest
    by (Some w) rest = ap (λ edges. edge_of key w ∷ edges) rest

pub edges_listed : (graph : Graph) → IsGraph graph → edges_of graph ≡ edges_at graph (all_keys graph.shape)
edges_listed graph sound =
    let whole : dense_map graph.shape (weight_of graph) ≡ graph.weights = is_dense graph.shape (weight_of graph) graph.weights (λ key is. refl) (nothing_elsewhere graph sound) in
    ap (λ m. map (λ (entry : Key × ℤ). edge_of entry.0 entry.1) (map_of.entries m)) (sym whole)
    ∙ ap (map (λ (entry : Key × ℤ). edge_of entry.0 entry.1)) (entries-dense graph.shape (weight_of graph))
    ∙ listed_tabulated graph (all_keys graph.shape)

-- ---- rows
-- the edges, and the keys, that end in a point
abbrev ending_in : PointId → List Edge → List Edge
ending_in to edges = filter (λ (edge : Edge). edge.to.0 == to.0) edges

abbrev keys_to : PointId → List Key → List Key
keys_to to keys = filter (λ (key : Key). key.to.0 == to.0) keys

filter-edges_at : (graph : Graph) (to : PointId) (keys : List Key) → ending_in to (edges_at graph keys) ≡ edges_at graph (keys_to to keys)
filter-edges_at graph to [] = refl
filter-edges_at graph to (key ∷ keys) = by (weight_of graph key) refl (key.to.0 == to.0) refl (filter-edges_at graph to keys)
  where
    by : (o : Option ℤ) → weight_of graph key ≡ o → (b : Bool) → key.to.0 == to.0 ≡ b → ending_in to (edges_at graph keys) ≡ edges_at graph (keys_to to keys)
        → ending_in to (cons_option (option_map (edge_of key) o) (edges_at graph keys)) ≡ edges_at graph (cond b (key ∷ keys_to to keys) (keys_to to keys))
    by None is true at rest = rest ∙ ap (λ o. cons_option (option_map (edge_of key) o) (edges_at graph (keys_to to keys))) (sym is)
    by None is false at rest = rest
    by (Some w) is true at rest =
        ap (λ b. cond b (edge_of key w ∷ ending_in to (edges_at graph keys)) (ending_in to (edges_at graph keys))) at
        ∙ ap (λ edges. edge_of key w ∷ edges) rest
        ∙ ap (λ o. cons_option (option_map (edge_of key) o) (edges_at graph (keys_to to keys))) (sym is)
    by (Some w) is false at rest = ap (λ b. cond b (edge_of key w ∷ ending_in to (edges_at graph keys)) (ending_in to (edges_at graph keys))) at ∙ rest

filter_own : (to : PointId) (keys : List Key) → AllByRecursion (λ k. k.to ≡ to) keys → filter (λ (key : Key). key.to.0 == to.0) keys ≡ keys
filter_own to [] own = refl
filter_own to (key ∷ keys) (one, more) =
    let test : key.to.0 == to.0 ≡ true = let same : key.to.0 ≡ to.0 = ap (λ (p : PointId). p.0) one in grind (arith, nat_tests) in
    ap (λ b. cond b (key ∷ filter (λ (key : Key). key.to.0 == to.0) keys) (filter (λ (key : Key). key.to.0 == to.0) keys)) test ∙ ap (λ ks. key ∷ ks) (filter_own to keys more)

filter_others : (to from : PointId) (keys : List Key) → (from.0 ≡ to.0 → ⊥) → AllByRecursion (λ k. k.to ≡ from) keys → filter (λ (key : Key). key.to.0 == to.0) keys ≡ []
filter_others to from [] apart own = refl
filter_others to from (key ∷ keys) apart (one, more) =
    let test : key.to.0 == to.0 ≡ false = let same : key.to.0 ≡ from.0 = ap (λ (p : PointId). p.0) one in grind (arith, nat_tests) in
    ap (λ b. cond b (key ∷ filter (λ (key : Key). key.to.0 == to.0) keys) (filter (λ (key : Key). key.to.0 == to.0) keys)) test ∙ filter_others to from keys apart more

module _ (shape : Shape) (to : PointId) where
  abbrev of_target : ℕ → ℕ → List Key
  of_target a n = filter (λ (key : Key). key.to.0 == to.0) (flat_map (row_keys shape) (map (λ k. record { 0 = k }) (range_with_len a n)))

  filter_later : (a n : ℕ) → to.0 < a → of_target a n ≡ []
  filter_later a zero before = refl
  filter_later a (suc n) before =
      filter-append (λ (key : Key). key.to.0 == to.0) (row_keys shape (record { 0 = a })) (flat_map (row_keys shape) (map (λ k. record { 0 = k }) (range_with_len (a + 1) n)))
      ∙ ap (λ ks. ks ++ of_target (a + 1) n) (filter_others to (record { 0 = a }) (row_keys shape (record { 0 = a })) (λ same. omega arith) (row_keys_owned shape (record { 0 = a })))
      ∙ filter_later (a + 1) n (omega arith)

  filter_row : (a n : ℕ) → a ≤ to.0 → to.0 < a + n → of_target a n ≡ row_keys shape to
  filter_row a zero low high = absurd (omega arith)
  filter_row a (suc n) low high = split ∙ by (a == to.0) refl (λ later. filter_row (a + 1) n later (omega arith))
    where
      split : of_target a (suc n) ≡ filter (λ (key : Key). key.to.0 == to.0) (row_keys shape (record { 0 = a })) ++ of_target (a + 1) n
      split = filter-append (λ (key : Key). key.to.0 == to.0) (row_keys shape (record { 0 = a })) (flat_map (row_keys shape) (map (λ k. record { 0 = k }) (range_with_len (a + 1) n)))

      by : (b : Bool) → a == to.0 ≡ b → (a + 1 ≤ to.0 → of_target (a + 1) n ≡ row_keys shape to) → filter (λ (key : Key). key.to.0 == to.0) (row_keys shape (record { 0 = a })) ++ of_target (a + 1) n ≡ row_keys shape to
      by true at later =
          let here : a ≡ to.0 = grind (arith, nat_tests) in
          let none : of_target (a + 1) n ≡ [] = filter_later (a + 1) n (omega arith) in
          let own : filter (λ (key : Key). key.to.0 == to.0) (row_keys shape (record { 0 = a })) ≡ row_keys shape to = ap (λ (k : ℕ). filter (λ (key : Key). key.to.0 == to.0) (row_keys shape (record { 0 = k }))) here
          ∙ filter_own to (row_keys shape to) (row_keys_owned shape to) in
          ap (λ ks. filter (λ (key : Key). key.to.0 == to.0) (row_keys shape (record { 0 = a })) ++ ks) none ∙ append-nil (filter (λ (key : Key). key.to.0 == to.0) (row_keys shape (record { 0 = a }))) ∙ own
      by false at later =
          let apart : a ≡ to.0 → ⊥ = λ same. let is : a == to.0 ≡ true = grind (arith, nat_tests) in absurd cc in
          ap (λ ks. ks ++ of_target (a + 1) n) (filter_others to (record { 0 = a }) (row_keys shape (record { 0 = a })) apart (row_keys_owned shape (record { 0 = a })))
          ∙ later (grind (arith, nat_tests))

pub row_listed : (graph : Graph) → IsGraph graph → (to : PointId) → to.0 < graph.shape.points → row_of graph to ≡ edges_at graph (row_keys graph.shape to)
row_listed graph sound to inside =
    ap (filter (λ (edge : Edge). edge.to.0 == to.0)) (edges_listed graph sound)
    ∙ filter-edges_at graph to (all_keys graph.shape)
    ∙ ap (edges_at graph) (filter_row graph.shape to 0 graph.shape.points (omega arith) (omega arith))

pub law_rows_are_listed : RowsAreListed
law_rows_are_listed graph sound = (edges_listed graph sound, row_listed graph sound)
