-- What a table holds: after one edge more, and made of a list of edges.
use Rattle.std.proofs.Common.{◌≡◌, ◌≢◌, ℤ, ◌≤ℤ◌, Bool, true, false, cond, ◌⊎◌, List, [], ◌∷◌, fold, get_or, Option, Some, None, refl, ap, sym, subst, ◌∙◌, inl, inr, arith}
use Rattle.std.specs.Prelude.{int_le, IsSomeAnd}
use Rattle.std.specs.Option.{option_map_or}
use Rattle.std.specs.List.{All, Contains}
use Rattle.std.specs.Ordering.{eq_by_cmp}
use Rattle.std.specs.FinMap as map_of
use Rattle.std.proofs.lemmas.Int.{ints}
use Rattle.std.proofs.lemmas.List.Elements.{All-contains, Contains-get_or}
use Rattle.net_model.specs.declared.part.Edge.{Edge}
use Rattle.closure_model.specs.Keys.{Key, key_of, edge_of, key_cmp, Shape}
use Rattle.closure_model.specs.Tables.{Graph, weight_of, HasEdge, edges_of, with_edge, without_key, no_edges, has_at_most, HasAtMost, lowered, table_of, IsLeast, IsAtMost}
use Rattle.closure_model.proofs.KeyOrder.{key_total, same_key, key_test}
use Rattle.closure_model.proofs.Entries.{contained_entry, entry_found}
use Rattle.closure_model.proofs.Lists.{Contains-cases, Contains-none, Contains-head, Contains-tail, Contains-map, Contains-map_from}

-- ---- the edges of a table as a list
pub edge_listed : (graph : Graph) (edge : Edge) → HasEdge graph edge → Contains (edges_of graph) edge
edge_listed graph edge has =
    Contains-map (λ (entry : Key × ℤ). edge_of entry.0 entry.1) (map_of.entries graph.weights) (key_of edge, edge.weight) (contained_entry key_total same_key graph.weights (key_of edge) edge.weight has)

pub listed_edge : (graph : Graph) (edge : Edge) → Contains (edges_of graph) edge → HasEdge graph edge
listed_edge graph edge inside =
    let ((key, weight), at, is) = Contains-map_from (λ (entry : Key × ℤ). edge_of entry.0 entry.1) (map_of.entries graph.weights) edge inside in
    let found : weight_of graph key ≡ Some weight = entry_found key_total same_key graph.weights key weight at in
    subst (HasEdge graph) is found

-- ---- one edge more, one key less
pub weight_of-with_edge : (graph : Graph) (edge : Edge) (key : Key) → weight_of (with_edge graph edge) key ≡ cond (eq_by_cmp key_cmp key (key_of edge)) (Some edge.weight) (weight_of graph key)
weight_of-with_edge graph edge key = map_of.get-insert key_total graph.weights (key_of edge) edge.weight key

pub weight_of-without_key : (graph : Graph) (gone key : Key) → weight_of (without_key graph gone) key ≡ cond (eq_by_cmp key_cmp key gone) None (weight_of graph key)
weight_of-without_key graph gone key = map_of.get-remove key_total graph.weights gone key

pub with_edge-has : (graph : Graph) (edge : Edge) → HasEdge (with_edge graph edge) edge
with_edge-has graph edge = let test = (key_test (key_of edge) (key_of edge)).1 refl in weight_of-with_edge graph edge (key_of edge) ∙ ap (λ b. cond b (Some edge.weight) (weight_of graph (key_of edge))) test

pub with_edge-other : (graph : Graph) (edge : Edge) (key : Key) → key ≢ key_of edge → weight_of (with_edge graph edge) key ≡ weight_of graph key
with_edge-other graph edge key apart = weight_of-with_edge graph edge key ∙ by (eq_by_cmp key_cmp key (key_of edge)) refl
  where
    by : (b : Bool) → eq_by_cmp key_cmp key (key_of edge) ≡ b → cond b (Some edge.weight) (weight_of graph key) ≡ weight_of graph key
    by true is = absurd (apart ((key_test key (key_of edge)).0 is))
    by false is = refl

pub with_edge-cases : (graph : Graph) (edge other : Edge) → HasEdge (with_edge graph edge) other → (other ≡ edge) ⊎ HasEdge graph other
with_edge-cases graph edge other has = by (eq_by_cmp key_cmp (key_of other) (key_of edge)) refl (sym (weight_of-with_edge graph edge (key_of other)) ∙ has)
  where
    by : (b : Bool) → eq_by_cmp key_cmp (key_of other) (key_of edge) ≡ b → cond b (Some edge.weight) (weight_of graph (key_of other)) ≡ Some other.weight → (other ≡ edge) ⊎ HasEdge graph other
    by true is held =
        let key : key_of other ≡ key_of edge = (key_test (key_of other) (key_of edge)).0 is in
        let weight : other.weight ≡ edge.weight = cc in
        inl (λ i. edge_of (key i) (weight i))
    by false is held = inr held

-- ---- having an edge at a weight that is no greater
pub at_most_gives : (graph : Graph) (edge : Edge) → HasAtMost graph edge → (weight : ℤ) × (weight_of graph (key_of edge) ≡ Some weight) × (weight ≤ℤ edge.weight)
at_most_gives graph edge has = by (weight_of graph (key_of edge)) refl has
  where
    by : (o : Option ℤ) → weight_of graph (key_of edge) ≡ o → IsSomeAnd o (λ weight. weight ≤ℤ edge.weight) → (weight : ℤ) × (weight_of graph (key_of edge) ≡ Some weight) × (weight ≤ℤ edge.weight)
    by None is has' = absurd has'
    by (Some weight) is less = (weight, is, less)

pub at_most_from : (graph : Graph) (edge : Edge) (weight : ℤ) → weight_of graph (key_of edge) ≡ Some weight → weight ≤ℤ edge.weight → HasAtMost graph edge
at_most_from graph edge weight is less = let P : Option ℤ → Type 0 = λ o. IsSomeAnd o (λ w. w ≤ℤ edge.weight) in subst P (sym is) less

pub at_most_tested : (graph : Graph) (edge : Edge) → has_at_most graph edge ≡ true → HasAtMost graph edge
at_most_tested graph edge test = by (weight_of graph (key_of edge)) refl test
  where
    by : (o : Option ℤ) → weight_of graph (key_of edge) ≡ o → option_map_or (λ weight. int_le weight edge.weight) o false ≡ true → HasAtMost graph edge
    by None is holds = absurd cc
    by (Some weight) is holds = at_most_from graph edge weight is (grind (arith, ints))

pub at_most_test : (graph : Graph) (edge : Edge) → HasAtMost graph edge → has_at_most graph edge ≡ true
at_most_test graph edge has =
    let (weight, is, less) = at_most_gives graph edge has in
    let test : int_le weight edge.weight ≡ true = grind (arith, ints) in
    ap (λ o. option_map_or (λ (w : ℤ). int_le w edge.weight) o false) is ∙ test

pub has_at_most_itself : (graph : Graph) (edge : Edge) → HasEdge graph edge → HasAtMost graph edge
has_at_most_itself graph edge has = at_most_from graph edge edge.weight has (omega (arith, ints))

pub IsAtMost-itself : (graph : Graph) → IsAtMost graph graph
IsAtMost-itself graph edge has = has_at_most_itself graph edge has

pub at_most_below : (low high : Graph) (edge : Edge) → IsAtMost low high → HasAtMost high edge → HasAtMost low edge
at_most_below low high edge below has =
    let (weight, is, less) = at_most_gives high edge has in
    let (lower, holds, under) = at_most_gives low (edge_of (key_of edge) weight) (below (edge_of (key_of edge) weight) is) in
    at_most_from low edge lower holds (omega (arith, ints))

pub IsAtMost-trans : (low middle high : Graph) → IsAtMost low middle → IsAtMost middle high → IsAtMost low high
IsAtMost-trans low middle high one two edge has = at_most_below low middle edge one (two edge has)

-- ---- a table that an edge lowers
pub lowered-has : (graph : Graph) (edge : Edge) → HasAtMost (lowered graph edge) edge
lowered-has graph edge = by (has_at_most graph edge) refl
  where
    by : (b : Bool) → has_at_most graph edge ≡ b → HasAtMost (cond b graph (with_edge graph edge)) edge
    by true is = at_most_tested graph edge is
    by false is = has_at_most_itself (with_edge graph edge) edge (with_edge-has graph edge)

pub lowered-at_most : (graph : Graph) (edge : Edge) → IsAtMost (lowered graph edge) graph
lowered-at_most graph edge = by (has_at_most graph edge) refl
  where
    by : (b : Bool) → has_at_most graph edge ≡ b → IsAtMost (cond b graph (with_edge graph edge)) graph
    by true is other has = has_at_most_itself graph other has
    by false is other has = at (eq_by_cmp key_cmp (key_of other) (key_of edge)) refl
      where
        at : (b : Bool) → eq_by_cmp key_cmp (key_of other) (key_of edge) ≡ b → HasAtMost (with_edge graph edge) other
        at true same =
            let key : key_of other ≡ key_of edge = (key_test (key_of other) (key_of edge)).0 same in
            let here : weight_of (with_edge graph edge) (key_of other) ≡ Some edge.weight = ap (weight_of (with_edge graph edge)) key ∙ with_edge-has graph edge in
            let there : weight_of graph (key_of edge) ≡ Some other.weight = ap (weight_of graph) (sym key) ∙ has in
            let test : int_le other.weight edge.weight ≡ false = ap (λ o. option_map_or (λ (w : ℤ). int_le w edge.weight) o false) (sym there) ∙ is in
            at_most_from (with_edge graph edge) other edge.weight here (grind (arith, ints))
        at false apart =
            let kept : weight_of (with_edge graph edge) (key_of other) ≡ Some other.weight = weight_of-with_edge graph edge (key_of other) ∙ ap (λ b. cond b (Some edge.weight) (weight_of graph (key_of other))) apart ∙ has in
            has_at_most_itself (with_edge graph edge) other kept

pub lowered-cases : (graph : Graph) (edge other : Edge) → HasEdge (lowered graph edge) other → (other ≡ edge) ⊎ HasEdge graph other
lowered-cases graph edge other has = by (has_at_most graph edge) has
  where
    by : (b : Bool) → HasEdge (cond b graph (with_edge graph edge)) other → (other ≡ edge) ⊎ HasEdge graph other
    by true held = inr held
    by false held = with_edge-cases graph edge other held

pub lowered-shape : (graph : Graph) (edge : Edge) → (lowered graph edge).shape ≡ graph.shape
lowered-shape graph edge = by (has_at_most graph edge)
  where
    by : (b : Bool) → (cond b graph (with_edge graph edge)).shape ≡ graph.shape
    by true = refl
    by false = refl

-- ---- a table that a list of edges lowers
pub all_lowered-at_most : (graph : Graph) (given : List Edge) → IsAtMost (fold lowered graph given) graph
all_lowered-at_most graph [] = IsAtMost-itself graph
all_lowered-at_most graph (edge ∷ given) = IsAtMost-trans (fold lowered (lowered graph edge) given) (lowered graph edge) graph (all_lowered-at_most (lowered graph edge) given) (lowered-at_most graph edge)

pub all_lowered-has : (graph : Graph) (given : List Edge) (edge : Edge) → Contains given edge → HasAtMost (fold lowered graph given) edge
all_lowered-has graph [] edge inside = absurd (Contains-none edge inside)
all_lowered-has graph (first ∷ given) edge inside = by (all_lowered-has (lowered graph first) given edge) (Contains-cases first given edge inside)
  where
    by : (Contains given edge → HasAtMost (fold lowered (lowered graph first) given) edge) → (first ≡ edge) ⊎ Contains given edge → HasAtMost (fold lowered (lowered graph first) given) edge
    by later (inl is) = at_most_below (fold lowered (lowered graph first) given) (lowered graph first) edge (all_lowered-at_most (lowered graph first) given) (subst (HasAtMost (lowered graph first)) is (lowered-has graph first))
    by later (inr there) = later there

pub all_lowered-cases : (graph : Graph) (given : List Edge) (other : Edge) → HasEdge (fold lowered graph given) other → Contains given other ⊎ HasEdge graph other
all_lowered-cases graph [] other has = inr has
all_lowered-cases graph (edge ∷ given) other has = by (all_lowered-cases (lowered graph edge) given other has)
  where
    by : Contains given other ⊎ HasEdge (lowered graph edge) other → Contains (edge ∷ given) other ⊎ HasEdge graph other
    by (inl there) = inl (Contains-tail edge given other there)
    by (inr held) = at (lowered-cases graph edge other held)
      where
        at : (other ≡ edge) ⊎ HasEdge graph other → Contains (edge ∷ given) other ⊎ HasEdge graph other
        at (inl is) = inl (subst (Contains (edge ∷ given)) (sym is) (Contains-head edge given))
        at (inr before) = inr before

pub all_lowered-shape : (graph : Graph) (given : List Edge) → (fold lowered graph given).shape ≡ graph.shape
all_lowered-shape graph [] = refl
all_lowered-shape graph (edge ∷ given) = all_lowered-shape (lowered graph edge) given ∙ lowered-shape graph edge

-- ---- the table of a list of edges
pub no_edges-has_none : (shape : Shape) (edge : Edge) → HasEdge (no_edges shape) edge → ⊥
no_edges-has_none shape edge has = let none : Some edge.weight ≡ None = sym has ∙ map_of.get-empty key_cmp (key_of edge) in absurd cc

pub table_of-given : (shape : Shape) (given : List Edge) (edge : Edge) → HasEdge (table_of shape given) edge → Contains given edge
table_of-given shape given edge has = by (all_lowered-cases (no_edges shape) given edge has)
  where
    by : Contains given edge ⊎ HasEdge (no_edges shape) edge → Contains given edge
    by (inl there) = there
    by (inr held) = absurd (no_edges-has_none shape edge held)

pub table_of-has : (shape : Shape) (given : List Edge) (edge : Edge) → Contains given edge → HasAtMost (table_of shape given) edge
table_of-has shape given edge inside = all_lowered-has (no_edges shape) given edge inside

pub table_of-least : (shape : Shape) (given : List Edge) (edge : Edge) → HasEdge (table_of shape given) edge → IsLeast given edge
table_of-least shape given edge has = record { is_given = table_of-given shape given edge has; least = least }
  where
    least : All (λ other. key_of other ≡ key_of edge → edge.weight ≤ℤ other.weight) given
    least k d inside same =
        let other : Edge = get_or given k d in
        let (weight, is, less) = at_most_gives (table_of shape given) other (table_of-has shape given other (Contains-get_or given k d inside)) in
        let both : Some weight ≡ Some edge.weight = sym is ∙ ap (weight_of (table_of shape given)) same ∙ has in
        let equal : weight ≡ edge.weight = cc in
        omega (arith, ints)

pub least-in_table_of : (shape : Shape) (given : List Edge) (edge : Edge) → IsLeast given edge → HasEdge (table_of shape given) edge
least-in_table_of shape given edge least =
    let (weight, is, less) = at_most_gives (table_of shape given) edge (table_of-has shape given edge least.is_given) in
    let held : Contains given (edge_of (key_of edge) weight) = table_of-given shape given (edge_of (key_of edge) weight) is in
    let under : edge.weight ≤ℤ weight = All-contains (λ (other : Edge). key_of other ≡ key_of edge → edge.weight ≤ℤ other.weight) given (edge_of (key_of edge) weight) least.least held refl in
    let equal : weight ≡ edge.weight = omega (arith, ints) in
    is ∙ ap Some equal
