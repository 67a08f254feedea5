-- A partial closure stays one if derivable edges lower it, and is the closure if whatever follows is saturated.
use Rattle.std.proofs.Common.{◌≡◌, ℕ, ◌+◌, ◌<◌, ◌≤◌, ℤ, ◌<ℤ◌, ◌⊎◌, Bool, true, false, List, map, Option, Some, None, refl, ap, sym, subst, ◌∙◌, inl, inr, arith}
use Rattle.std.specs.Prelude.{unsigned_abs, int_le, IfSome}
use Rattle.std.specs.Option.{option_map, option_map_or}
use Rattle.std.specs.List.{Contains, enumerate_from}
use Rattle.std.proofs.lemmas.Int.{ints}
use Rattle.std.proofs.lemmas.Option.{slice_get-map}
use Rattle.std.proofs.lemmas.List.Elements.{All-contains, Contains-append_left, Contains-append_right}
use Rattle.net_model.specs.Limits.{most_size, IsWeight}
use Rattle.net_model.specs.Network.{Plan, IsPlan, greatest}
use Rattle.net_model.specs.Edges.{IsEdge, IsLabelled}
use Rattle.net_model.specs.Rules.{bound_edge, link_edge, no_case, upper_case, lower_case, cross_case, removal}
use Rattle.net_model.specs.Rules as rules
use Rattle.net_model.specs.declared.ids.LinkId.{LinkId}
use Rattle.net_model.specs.declared.ids.PointId.{PointId}
use Rattle.net_model.specs.declared.part.Edge.{Edge}
use Rattle.net_model.specs.declared.part.Link.{Link}
use Rattle.net_model.proofs.NetworkLemmas.{greatest-le}
use Rattle.closure_model.specs.Closure.{IsClosure, HoldsDerivable}
use Rattle.closure_model.specs.Derivable.{IsDerivable, IsDerivableFor}
use Rattle.closure_model.specs.Keys.{Key, edge_of, key_of, shape_of, Shape, IsKey, IsLabelAt}
use Rattle.closure_model.specs.ReferenceRow.{IsBelow}
use Rattle.closure_model.specs.Tables.{Graph, HasEdge, HasAtMost, IsFor, IsClosed, HasBase, base_edges, base_table, lowered, has_at_most, weight_of}
use Rattle.closure_model.proofs.BaseLemmas.{all_contained, numbered_contained, law_base_table_is_weakest}
use Rattle.closure_model.proofs.LawProofs.{law_derivable_are_edges, law_derivable_are_bounded, law_closed_and_derivable_is_closure, law_reached_are_derivable}
use Rattle.closure_model.proofs.Lists.{Contains-map}
use Rattle.closure_model.proofs.Nodes.{listed_at}
use Rattle.closure_model.proofs.WeightMeasure.{measure, measure_decreases}
use Rattle.closure_model.proofs.TableLemmas.{listed_edge, lowered-at_most, lowered-cases, lowered-shape, lowered-has, at_most_below}
use Rattle.closure_model.specs.Closure as closure
use Rattle.closure_model.specs.Orders.{lowest_unplaced, placed_points}
use Rattle.loop_finder.specs.OrderOrCycle.{found_in, found_from}
use Rattle.loop_finder.specs.declared.order_or_cycle.Found.TheVariants.{Order}
use Rattle.network_closure.specs.Saturation.{IsPartialClosure, IsUnsaturated, SaturatesAll}

-- ---- a derivable edge
module _ (net : Plan) (plan : IsPlan net) (edge : Edge) (derivable : IsDerivable net edge) where
  pub derivable_is : IsEdge net edge
  derivable_is = law_derivable_are_edges net edge plan derivable

  pub derivable_within : unsigned_abs edge.weight ≤ greatest net
  derivable_within = law_derivable_are_bounded net edge plan derivable

  pub derivable_size : unsigned_abs edge.weight ≤ most_size
  derivable_size = let small = greatest-le net plan in omega (arith, derivable_within, small)

  pub derivable_weight : IsWeight edge.weight
  derivable_weight = omega (arith, derivable_size)

  pub derivable_key : (table : Graph) → IsFor net table → IsKey table.shape (key_of edge)
  derivable_key table fits = subst (λ (s : Shape). IsKey s (key_of edge)) (sym fits) (record { to_point = derivable_is.to_point; from_point = derivable_is.from_point; labelled = labelled edge.label derivable_is.labelled })
    where
      labelled : (label : Option LinkId) → IsLabelled net edge label → IsLabelAt (shape_of net) edge.to label
      labelled None known = tt
      labelled (Some label) (link, declared, ends) = slice_get-map (λ (l : Link). l.from) net.links label.0 ∙ (ap (option_map (λ (l : Link). l.from)) declared ∙ ap Some (sym ends))

-- what a table of derivable edges has for a key is derivable
pub derivable_at : (net : Plan) (table : Graph) (key : Key) (weight : Option ℤ) → HoldsDerivable net table → weight ≡ weight_of table key → IfSome weight (IsDerivableFor net key)
derivable_at net table key None holds is = tt
derivable_at net table key (Some weight) holds is = holds (edge_of key weight) (sym is)

-- ---- partial closures: the first one, after each step, and that the steps end
pub base_is_partial_closure : (net : Plan) (table : Graph) → IsPlan net → table ≡ base_table net → IsFor net table → IsPartialClosure net table
base_is_partial_closure net table plan is fits = record {
  plan = plan;
  fits = fits;
  base = subst (HasBase net) (sym is) (λ k d inside. (law_base_table_is_weakest net plan).1 k d inside);
  derivable = law_reached_are_derivable net table (closure.base table is);
}

pub lowered_is_partial_closure : (net : Plan) (table next : Graph) (edge : Edge) → IsPartialClosure net table → IsDerivable net edge → next ≡ lowered table edge → IsPartialClosure net next
lowered_is_partial_closure net table next edge partial_closure derivable is = subst (IsPartialClosure net) (sym is) (record {
  plan = partial_closure.plan;
  fits = lowered-shape table edge ∙ partial_closure.fits;
  base = all_contained (HasAtMost (lowered table edge)) (base_edges net) (λ other inside. at_most_below (lowered table edge) table other (lowered-at_most table edge)
      (All-contains (HasAtMost table) (base_edges net) other partial_closure.base inside));
  derivable = λ other has. by other (lowered-cases table edge other has);
})
  where
    by : (other : Edge) → (other ≡ edge) ⊎ HasEdge table other → IsDerivable net other
    by other (inl same) = subst (IsDerivable net) (sym same) derivable
    by other (inr has) = partial_closure.derivable other has

missed_below : (table : Graph) (edge : Edge) → has_at_most table edge ≡ false → IsBelow table edge
missed_below table edge missed weight has = by (int_le weight edge.weight) refl (sym (ap (λ (o : Option ℤ). option_map_or (λ w. int_le w edge.weight) o false) has) ∙ missed)
  where
    by : (b : Bool) → int_le weight edge.weight ≡ b → int_le weight edge.weight ≡ false → edge.weight <ℤ weight
    by true is no_more = absurd cc
    by false is no_more = grind (arith, ints)

pub unsaturated_leaves_less : (net : Plan) (table next : Graph) (edge : Edge) → IsPartialClosure net table → IsUnsaturated net table edge → next ≡ lowered table edge → measure net next < measure net table
unsaturated_leaves_less net table next edge partial_closure unsaturated is =
    let on = lowered_is_partial_closure net table (lowered table edge) edge partial_closure unsaturated.derivable refl in
    subst (λ (t : Graph). measure net t < measure net table) (sym is)
    (measure_decreases net (lowered table edge) table (λ other has. derivable_within net partial_closure.plan other (on.derivable other has))
    (λ other has. derivable_within net partial_closure.plan other (partial_closure.derivable other has)) (lowered-at_most table edge)
    edge (subst (λ (s : Shape). IsKey s (key_of edge)) partial_closure.fits (derivable_key net partial_closure.plan edge unsaturated.derivable table partial_closure.fits)) (lowered-has table edge)
    (missed_below table edge unsaturated.missed))

-- ---- a table in which whatever follows is saturated is closed
module _ (net : Plan) (table : Graph) (partial_closure : IsPartialClosure net table) (saturates : (edge : Edge) → HasEdge table edge → SaturatesAll net table edge) where
  base_meets : (edge : Edge) → Contains (base_edges net) edge → HasAtMost table edge
  base_meets edge inside = All-contains (HasAtMost table) (base_edges net) edge partial_closure.base inside

  pub saturated_is_closed : IsClosed net table
  saturated_is_closed edge (rules.by_bound place bound declared is) =
      subst (HasAtMost table) is (base_meets (bound_edge bound) (Contains-append_left (map bound_edge net.bounds) (map (λ (e : ℕ × Link). link_edge (record { 0 = e.0 }) e.1) (enumerate_from 0 net.links)) (bound_edge bound)
      (Contains-map bound_edge net.bounds bound (listed_at net.bounds place bound declared))))
  saturated_is_closed edge (rules.by_link name link declared is) =
      subst (HasAtMost table) is (base_meets (link_edge name link) (Contains-append_right (map bound_edge net.bounds) (map (λ (e : ℕ × Link). link_edge (record { 0 = e.0 }) e.1) (enumerate_from 0 net.links)) (link_edge name link)
      (Contains-map (λ (e : ℕ × Link). link_edge (record { 0 = e.0 }) e.1) (enumerate_from 0 net.links) (name.0, link) (let same : 0 + name.0 ≡ name.0 = omega arith in
      subst (λ (k : ℕ). Contains {X = ℕ × Link} (enumerate_from 0 net.links) (k, link)) same (numbered_contained 0 net.links name.0 link declared)))))
  saturated_is_closed edge (rules.by_no_case first second one two is) = ((saturates second (listed_edge table second two)).firsts first (listed_edge table first one)).no_case edge is
  saturated_is_closed edge (rules.by_upper_case first second one two is) = ((saturates second (listed_edge table second two)).firsts first (listed_edge table first one)).upper_case edge is
  saturated_is_closed edge (rules.by_lower_case name second one is) = (saturates second (listed_edge table second one)).over_links.lower_case name edge is
  saturated_is_closed edge (rules.by_cross_case name second one is) = (saturates second (listed_edge table second one)).over_links.cross_case name edge is
  saturated_is_closed edge (rules.by_removal premise one is) = (saturates premise (listed_edge table premise one)).removal edge is

  pub saturated_is_closure : IsClosure net table
  saturated_is_closure = law_closed_and_derivable_is_closure net table partial_closure.fits saturated_is_closed partial_closure.derivable

pub closed_partial_closure_is_closure : (net : Plan) (table : Graph) → IsPartialClosure net table → IsClosed net table → IsClosure net table
closed_partial_closure_is_closure net table partial_closure is_closed = law_closed_and_derivable_is_closure net table partial_closure.fits is_closed partial_closure.derivable

-- ---- what is found
pub found_order : (graph : Graph) (order : List PointId) → Order order ≡ found_in graph → order ≡ placed_points graph
found_order graph order is = by (lowest_unplaced graph) refl is
  where
    by : (o : Option PointId) → lowest_unplaced graph ≡ o → Order order ≡ found_from graph o → order ≡ placed_points graph
    by None none is = cc
    by (Some first) some is = absurd cc
