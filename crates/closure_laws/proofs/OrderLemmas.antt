-- The closure of a network with an order has no cycle of negative ordinary edges, and a cycle of a table of derivable edges is one.
use Rattle.std.proofs.Common.{◌≡◌, ◌≢◌, ℕ, suc, ◌+◌, ◌-◌, ◌<◌, ◌≤◌, ℤ, true, false, List, [], ◌∷◌, length, get_or, Option, Some, None, ◌⊎◌, IsTrue, refl, sym, ap, ◌∙◌, subst, arith, inl, inr}
use Rattle.std.specs.Prelude.{int_lt, pos}
use Rattle.std.specs.List.{AllByRecursion, Contains}
use Rattle.std.specs.Option.{option_map_or}
use Rattle.std.proofs.lemmas.Bool.{cases_lt}
use Rattle.std.proofs.lemmas.List.{get_or_default}
use Rattle.std.proofs.lemmas.List.Elements.{All-from_recursion, recursion_from_All}
use Rattle.net_model.specs.Rules.{is_ordinary}
use Rattle.net_model.specs.declared.ids.LinkId.{LinkId}
use Rattle.net_model.specs.declared.ids.PointId.{PointId}
use Rattle.net_model.specs.declared.part.Edge.{Edge}
use Rattle.closure_model.specs.Keys.{Key, Shape, ordinary_key}
use Rattle.closure_model.specs.Orders.{goes, IsOrder, IsCycle}
use Rattle.closure_model.specs.Derivable.{IsDerivable}
use Rattle.closure_model.specs.Tables.{Graph, HasEdge, edges_of, weight_of}
use Rattle.closure_model.proofs.LawProofs.{law_derivable_are_edges, law_standing_is_derivable}
use Rattle.closure_model.proofs.Lists.{each-weaker}
use Rattle.closure_model.proofs.TableLemmas.{listed_edge}
use Rattle.strategy_model.specs.Edges.{IsWalk, IsNegativeOrdinary, HasNoNegativeCycle}
use Rattle.closure_laws.specs.Laws.{OrderedClosuresAreControllable, CyclesOfTablesExclude, StandingCyclesExclude}
use Rattle.closure_laws.proofs.ClosureLemmas.{closure_derivable, law_closures_decide, law_derivable_cycles_exclude}

-- a negative ordinary edge of a table goes from its first point to its second
went_by : (table : Graph) (edge : Edge) (label : Option LinkId) → edge.label ≡ label → HasEdge table edge → IsNegativeOrdinary edge → goes table edge.from edge.to ≡ true
went_by table edge None is has negative =
    let key : Option LinkId → Key = λ l. record { to = edge.to; from = edge.from; label = l } in
    ap (λ o. option_map_or (λ weight. int_lt weight (pos 0)) o false) (ap (λ l. weight_of table (key l)) (sym is) ∙ has) ∙ negative.1
went_by table edge (Some label) is has negative = let none : false ≡ true = subst (λ (l : Option LinkId). IsTrue (is_ordinary (record edge { label = l }))) is negative.0 in absurd cc

-- the place of a point in an order
record IsPlace (order : List PointId) (point : PointId) (k : ℕ) : Type 0 where
  pub inside : k < length order
  pub at : (d : PointId) → get_or order k d ≡ point

place_of : (order : List PointId) (point : PointId) → Contains order point → (k : ℕ) × IsPlace order point k
place_of order point among = (among.0, record { inside = among.1; at = λ d. get_or_default order among.0 d point among.1 ∙ among.2 })

descends_by : (table : Graph) (order : List PointId) (from to : PointId) (i j : ℕ) → IsOrder table order → goes table from to ≡ true → IsPlace order from i → IsPlace order to j → (j < i) ⊎ (i ≤ j) → j < i
descends_by table order from to i j is went one two (inl less) = less
descends_by table order from to i j is went one two (inr most) =
    let same : goes table from to ≡ false = ap (λ (p : PointId). goes table p to) (sym (one.at from)) ∙ (ap (λ (p : PointId). goes table (get_or order i from) p) (sym (two.at from)) ∙ is.descends i j from most two.inside) in
    absurd (cc)

descends : (table : Graph) (order : List PointId) (from to : PointId) (i j : ℕ) → IsOrder table order → goes table from to ≡ true → IsPlace order from i → IsPlace order to j → j < i
descends table order from to i j is went one two = descends_by table order from to i j is went one two (cases_lt j i)

-- a walk of such edges ends at an earlier place
module _ (table : Graph) (order : List PointId) (is : IsOrder table order) (sound : (edge : Edge) → HasEdge table edge → edge.to.0 < table.shape.points) where
  walk_descends : (edges : List Edge) (edge : Edge) (from to : PointId) (i j : ℕ) → AllByRecursion (HasEdge table) (edge ∷ edges) → AllByRecursion IsNegativeOrdinary (edge ∷ edges) → IsWalk from (edge ∷ edges) to → IsPlace order from i
      → IsPlace order to j → j < i
  walk_descends [] edge from to i j has negative walk one two =
      descends table order from to i j is
      (subst (λ (p : PointId). goes table from p ≡ true) walk.1 (subst (λ (p : PointId). goes table p edge.to ≡ true) walk.0 (went_by table edge edge.label refl has.0 negative.0)))
      one two
  walk_descends (next ∷ edges) edge from to i j has negative walk one two =
      let between = place_of order edge.to (is.whole edge.to (sound edge has.0)) in
      let rest = walk_descends edges next edge.to to between.0 j has.1 negative.1 walk.1 between.1 two in
      let here = descends table order from edge.to i between.0 is (subst (λ (p : PointId). goes table p edge.to ≡ true) walk.0 (went_by table edge edge.label refl has.0 negative.0)) one between.1 in
      omega (arith, rest, here)

has_all : (table : Graph) (edges : List Edge) → AllByRecursion (Contains (edges_of table)) edges → AllByRecursion (HasEdge table) edges
has_all table [] all = tt
has_all table (edge ∷ edges) all = (listed_edge table edge all.0, has_all table edges all.1)

-- the closure of a network with an order has none, so the network is controllable
order_excludes : (table : Graph) (order : List PointId) → ((edge : Edge) → HasEdge table edge → (edge.from.0 < table.shape.points) × (edge.to.0 < table.shape.points)) → IsOrder table order → HasNoNegativeCycle (edges_of table)
order_excludes table order points is [] among cycle = cycle.2 refl
order_excludes table order points is (edge ∷ edges) among cycle =
    let has = has_all table (edge ∷ edges) (recursion_from_All (Contains (edges_of table)) (edge ∷ edges) among) in
    let from : cycle.0.0 < table.shape.points = subst (λ (p : PointId). p.0 < table.shape.points) cycle.1.0 (points edge has.0).0 in
    let place = place_of order cycle.0 (is.whole cycle.0 from) in
    let less = walk_descends table order is (λ e its. (points e its).1) edges edge cycle.0 cycle.0 place.0 place.0 has cycle.3 cycle.1 place.1 place.1 in
    absurd (omega (arith, less))

pub law_ordered_closures_are_controllable : OrderedClosuresAreControllable
law_ordered_closures_are_controllable net table order instant closure is = (law_closures_decide net table instant closure).1 (order_excludes table order inside is)
  where
    inside : (edge : Edge) → HasEdge table edge → (edge.from.0 < table.shape.points) × (edge.to.0 < table.shape.points)
    inside edge has =
        let known = law_derivable_are_edges net edge instant.sound (closure_derivable net table closure edge has) in
        subst (λ (shape : Shape). (edge.from.0 < shape.points) × (edge.to.0 < shape.points)) (sym closure.for_network) (known.from_point, known.to_point)

-- ---- a cycle of points by the edges between them
record IsGone (table : Graph) (from to : PointId) : Type 0 where
  edges : List Edge
  walk : IsWalk from edges to
  some : edges ≢ []
  has : AllByRecursion (HasEdge table) edges
  negative : AllByRecursion IsNegativeOrdinary edges

gone_on : (table : Graph) (from next to : PointId) → goes table from next ≡ true → (edges : List Edge) → IsWalk next edges to → AllByRecursion (HasEdge table) edges → AllByRecursion IsNegativeOrdinary edges → IsGone table from to
gone_on table from next to test edges walk has negative = by (weight_of table (ordinary_key from next)) refl test
  where
    by : (o : Option ℤ) → weight_of table (ordinary_key from next) ≡ o → option_map_or (λ (w : ℤ). int_lt w (pos 0)) o false ≡ true → IsGone table from to
    by None is holds = absurd cc
    by (Some weight) is holds = record {
      edges = record { from = from; to = next; label = None; weight = weight } ∷ edges;
      walk = (refl, walk);
      some = λ none. absurd cc;
      has = (is, has);
      negative = ((refl, holds), negative);
    }

gone_from : (table : Graph) (points : List PointId) (first last : PointId)
    → ((i : ℕ) (d : PointId) → i + 1 < length (last ∷ points) → goes table (get_or (last ∷ points) i d) (get_or (last ∷ points) (i + 1) d) ≡ true)
    → ((d : PointId) → goes table (get_or (last ∷ points) (length (last ∷ points) - 1) d) first ≡ true)
    → IsGone table last first
gone_from table [] first last steps closes = gone_on table last first first (closes last) [] refl tt tt
gone_from table (next ∷ points) first last steps closes = let rest = gone_from table points first next later ends in gone_on table last next first (steps 0 last (omega arith)) rest.edges rest.walk rest.has rest.negative
  where
    later : (i : ℕ) (d : PointId) → i + 1 < length (next ∷ points) → goes table (get_or (next ∷ points) i d) (get_or (next ∷ points) (i + 1) d) ≡ true
    later i d inside =
        let same : suc i + 1 ≡ suc (i + 1) = omega arith in
        subst (λ (n : ℕ). goes table (get_or (next ∷ points) i d) (get_or (last ∷ next ∷ points) n d) ≡ true) same (steps (suc i) d (omega arith))

    ends : (d : PointId) → goes table (get_or (next ∷ points) (length (next ∷ points) - 1) d) first ≡ true
    ends d =
        let same : length (last ∷ next ∷ points) - 1 ≡ suc (length (next ∷ points) - 1) = omega arith in
        subst (λ (n : ℕ). goes table (get_or (last ∷ next ∷ points) n d) first ≡ true) same (closes d)

gone_round : (table : Graph) (cycle : List PointId) → IsCycle table cycle → (point : PointId) × IsGone table point point
gone_round table [] is = absurd (omega (arith, is.some))
gone_round table (first ∷ points) is = (first, gone_from table points first first is.steps is.closes)

pub law_cycles_of_tables_exclude : CyclesOfTablesExclude
law_cycles_of_tables_exclude net table cycle instant derivable is controllable =
    let (point, gone) = gone_round table cycle is in
    let all = All-from_recursion (IsDerivable net) gone.edges (each-weaker (HasEdge table) (IsDerivable net) derivable gone.edges gone.has) in
    law_derivable_cycles_exclude net gone.edges instant all (point, gone.walk, gone.some, gone.negative) controllable

pub law_standing_cycles_exclude : StandingCyclesExclude
law_standing_cycles_exclude net support cycle instant stands is = law_cycles_of_tables_exclude net support.table cycle instant (law_standing_is_derivable net support stands) is
