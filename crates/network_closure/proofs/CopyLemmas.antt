-- Tables that are lowered to the edges of one another.
use Rattle.std.proofs.Common.{◌≡◌, ℕ, ◌+◌, ◌<◌, ◌≤◌, ℤ, ◌==◌, ◌⊎◌, List, [], ◌∷◌, length, take, get_or, Bool, true, false, Option, Some, None, IfSome, refl, ap, sym, subst, ◌∙◌, inl, inr, arith}
use Rattle.std.specs.Prelude.{MatchOption, slice_get}
use Rattle.std.specs.List.{All, Contains, enumerate_from, fold}
use Rattle.std.specs.Prelude.{filter}
use Rattle.std.proofs.Common.{◌-◌}
use Rattle.std.proofs.lemmas.Bool.Decides.{nat_tests}
use Rattle.std.proofs.lemmas.List.{take_more, get_or_default}
use Rattle.std.proofs.lemmas.Bool.{eqb-true}
use Rattle.std.proofs.lemmas.List.Elements.{All-contains, Contains-get_or}
use Rattle.std.proofs.lemmas.List.Sums.{fold-append}
use Rattle.net_model.specs.Network.{Plan, IsPlan, links_from}
use Rattle.net_model.specs.Edges.{IsLabelled}
use Rattle.net_model.specs.Rules.{Follows}
use Rattle.net_model.specs.declared.ids.LinkId.{LinkId}
use Rattle.net_model.specs.declared.ids.PointId.{PointId}
use Rattle.net_model.specs.declared.part.Edge.{Edge}
use Rattle.net_model.specs.declared.part.Link.{Link}
use Rattle.closure_model.specs.Closure.{IsClosure, HoldsDerivable}
use Rattle.closure_model.specs.Derivable.{IsDerivable, IsDerivableFor, IsLeastDerivable}
use Rattle.closure_model.specs.Keys.{Shape, IsKey, shape_of, key_of}
use Rattle.closure_model.specs.Tables.{Graph, weight_of, HasEdge, HasAtMost, IsAtMost, base_edges, edges_of, row_of, no_edges, lowered, has_at_most, IsFor}
use Rattle.closure_model.proofs.BaseLemmas.{all_contained, numbered, numbered_contained}
use Rattle.closure_model.proofs.LawProofs.{law_rules_keep_derivable, law_closed_and_derivable_is_closure}
use Rattle.closure_model.proofs.Lists.{Contains-filter, Contains-filter_from, Contains-filter_passes, Contains-map, Contains-map_from}
use Rattle.closure_model.proofs.TableLemmas.{listed_edge, edge_listed, no_edges-has_none, lowered-at_most, lowered-cases, lowered-shape, lowered-has, all_lowered-at_most, all_lowered-has, all_lowered-cases, all_lowered-shape, at_most_below}
use Rattle.closure_model.proofs.TableLemmas.{at_most_from, at_most_test, at_most_tested, has_at_most_itself, IsAtMost-itself, IsAtMost-trans}
use Rattle.network_closure.proofs.ConsequenceLemmas.{held_one, activation_at}
use Rattle.network_closure.proofs.PartialClosureLemmas.{closed_partial_closure_is_closure, derivable_is, derivable_key, derivable_size}
use Rattle.network_closure.specs.Saturation.{IsPartialClosure, IsOfDerivable, IsDenseOf, IsLoweredTo, IsEdgeTo, IsEdgeFromTo, IsEdgeBetween, IsStorable, TestsTo, lowered_if}

-- ---- a table that was lowered
pub lowered_none : (net : Plan) (table : Graph) (among : Edge → Type 0) → IsOfDerivable net table → ((edge : Edge) → among edge → ⊥) → IsLoweredTo net among table table
lowered_none net table among of nothing = record { of_derivable = of; at_most = IsAtMost-itself table; has = λ edge inside. absurd (nothing edge inside) }

-- a derivable edge is one that a table of the network may have
pub storable : (net : Plan) (table : Graph) (edge : Edge) → IsOfDerivable net table → IsDerivable net edge → IsStorable table.shape edge
storable net table edge of derivable = record { key = derivable_key net of.plan edge derivable table of.fits; weight = derivable_size net of.plan edge derivable }

-- first to some edges, then to others
pub lowered_then : (net : Plan) (old middle new : Graph) (first second both : Edge → Type 0) → IsLoweredTo net first old middle → IsLoweredTo net second middle new → ((edge : Edge) → both edge → first edge ⊎ second edge)
    → IsLoweredTo net both old new
lowered_then net old middle new first second both one two either = record { of_derivable = two.of_derivable; at_most = IsAtMost-trans new middle old two.at_most one.at_most; has = λ edge inside. by edge (either edge inside) }
  where
    by : (edge : Edge) → first edge ⊎ second edge → HasAtMost new edge
    by edge (inl before) = at_most_below new middle edge two.at_most (one.has edge before)
    by edge (inr here) = two.has edge here

pub lowered_among : (net : Plan) (old new : Graph) (among all : Edge → Type 0) → IsLoweredTo net among old new → ((edge : Edge) → all edge → among edge) → IsLoweredTo net all old new
lowered_among net old new among all lower each = record { of_derivable = lower.of_derivable; at_most = lower.at_most; has = λ edge inside. lower.has edge (each edge inside) }

pub lowered_to_one : (net : Plan) (old new : Graph) (edge : Edge) → IsOfDerivable net old → IsDerivable net edge → new ≡ lowered old edge → IsLoweredTo net (λ other. Some edge ≡ Some other) old new
lowered_to_one net old new edge of derivable is = subst (λ (table : Graph). IsLoweredTo net (λ other. Some edge ≡ Some other) old table) (sym is) (record {
  of_derivable = record { plan = of.plan; fits = lowered-shape old edge ∙ of.fits; derivable = λ other has. by other (lowered-cases old edge other has) };
  at_most = lowered-at_most old edge;
  has = λ other same. subst (HasAtMost (lowered old edge)) (edge_is other same) (lowered-has old edge);
})
  where
    by : (other : Edge) → (other ≡ edge) ⊎ HasEdge old other → IsDerivable net other
    by other (inl same) = subst (IsDerivable net) (sym same) derivable
    by other (inr has) = of.derivable other has

    edge_is : (other : Edge) → Some edge ≡ Some other → edge ≡ other
    edge_is other same = cc

-- the same of each edge of a row
pub row_storable : (net : Plan) (table : Graph) (row : List Edge) → IsOfDerivable net table → All (IsDerivable net) row → All (IsStorable table.shape) row
row_storable net table row of all k d inside = storable net table _ of (all k d inside)

pub row_key : (old new : Graph) (row : List Edge) (edge : Edge) → new ≡ fold lowered old row → IsStorable old.shape edge → IsKey new.shape (key_of edge)
row_key old new row edge is may = subst (λ (s : Shape). IsKey s (key_of edge)) (sym (ap (λ (g : Graph). g.shape) is ∙ all_lowered-shape old row)) may.key

pub row_on : (old middle new : Graph) (row : List Edge) (place : ℕ) (d : Edge) → place < length row → middle ≡ fold lowered old (take place row) → new ≡ lowered middle (get_or row place d) → new ≡ fold lowered old (take (place + 1) row)
row_on old middle new row place d inside before is =
    is ∙ ap (λ (g : Graph). lowered g (get_or row place d)) before ∙ sym (fold-append lowered old (take place row) (get_or row place d ∷ [])) ∙ ap (fold lowered old) (sym (take_more row place d inside))

pub row_lowered : (net : Plan) (old new : Graph) (row : List Edge) → IsOfDerivable net old → All (IsDerivable net) row → new ≡ fold lowered old row → IsLoweredTo net (Contains row) old new
row_lowered net old new row of all is = subst (IsLoweredTo net (Contains row) old) (sym is) (record {
  of_derivable = record { plan = of.plan; fits = all_lowered-shape old row ∙ of.fits; derivable = λ other has. by other (all_lowered-cases old row other has) };
  at_most = all_lowered-at_most old row;
  has = all_lowered-has old row;
})
  where
    by : (other : Edge) → Contains row other ⊎ HasEdge old other → IsDerivable net other
    by other (inl inside) = All-contains (IsDerivable net) row other all inside
    by other (inr has) = of.derivable other has

-- the same of an edge that was found
pub found_storable : (net : Plan) (table dense : Graph) → IsOfDerivable net table → IsPartialClosure net dense → (from : PointId) (to : PointId) (label : Option LinkId) (found : Option Edge)
    → MatchOption found (weight_of dense (record { to = to; from = from; label = label }) ≡ None) (IsEdgeBetween dense from to label) → IfSome found (IsStorable table.shape)
found_storable net table dense of partial_closure from to label None none = tt
found_storable net table dense of partial_closure from to label (Some edge) held = storable net table edge of (partial_closure.derivable edge held.has)

pub found_lowered : (net : Plan) (table next dense : Graph) → IsOfDerivable net table → IsPartialClosure net dense → (from : PointId) (to : PointId) (label : Option LinkId) (found : Option Edge)
    → MatchOption found (weight_of dense (record { to = to; from = from; label = label }) ≡ None) (IsEdgeBetween dense from to label) → next ≡ lowered_if table found → IsLoweredTo net (λ edge. found ≡ Some edge) table next
found_lowered net table next dense of partial_closure from to label None none is = subst (IsLoweredTo net (λ (edge : Edge). None ≡ Some edge) table) (sym is)
    (lowered_none net table (λ (edge : Edge). None ≡ Some edge) of (λ edge same. absurd cc))
found_lowered net table next dense of partial_closure from to label (Some edge) held is = lowered_to_one net table next edge of (partial_closure.derivable edge held.has) is

-- ---- partial closures
pub partial_closure_is_of_derivable : (net : Plan) (table : Graph) → IsPartialClosure net table → IsOfDerivable net table
partial_closure_is_of_derivable net table partial_closure = record { plan = partial_closure.plan; fits = partial_closure.fits; derivable = partial_closure.derivable }

pub partial_closure_by : (net : Plan) (table other : Graph) → IsPartialClosure net other → IsOfDerivable net table → IsAtMost table other → IsPartialClosure net table
partial_closure_by net table other partial_closure of less = record {
  plan = of.plan;
  fits = of.fits;
  base = all_contained (HasAtMost table) (base_edges net) (λ edge inside. at_most_below table other edge less (All-contains (HasAtMost other) (base_edges net) edge partial_closure.base inside));
  derivable = of.derivable;
}

pub no_edges_of_derivable : (net : Plan) (table : Graph) → IsPlan net → table ≡ no_edges (shape_of net) → IsOfDerivable net table
no_edges_of_derivable net table plan is = record { plan = plan; fits = ap (λ (g : Graph). g.shape) is; derivable = λ edge has. absurd (no_edges-has_none (shape_of net) edge (subst (λ (g : Graph). HasEdge g edge) is has)) }

-- ---- rows
pub in_row : (table : Graph) (to : PointId) (edge : Edge) → HasEdge table edge → edge.to.0 ≡ to.0 → Contains (row_of table to) edge
in_row table to edge has ends = Contains-filter (λ (e : Edge). e.to.0 == to.0) (edges_of table) edge (edge_listed table edge has) (grind (arith, nat_tests))

pub row_derivable : (net : Plan) (table : Graph) (to : PointId) (row : List Edge) → row ≡ row_of table to → HoldsDerivable net table → All (IsDerivable net) row
row_derivable net table to row is derivable = subst (All (IsDerivable net)) (sym is) (all_contained (IsDerivable net) (row_of table to)
    (λ edge inside. derivable edge (listed_edge table edge (Contains-filter_from (λ (e : Edge). e.to.0 == to.0) (edges_of table) edge inside))))

-- ---- one edge, row or label more
cases_below : (k n : ℕ) → k < n + 1 → (k < n) ⊎ (k ≡ n)
cases_below k n below = grind arith

abbrev pub IsBelow : Graph → ℕ → Edge → Type 0
IsBelow table end edge = HasEdge table edge × (edge.to.0 < end)

pub target_more : (table : Graph) (to : PointId) (row : List Edge) (edge : Edge) → row ≡ row_of table to → IsBelow table (to.0 + 1) edge → IsBelow table to.0 edge ⊎ Contains row edge
target_more table to row edge is below = by (cases_below edge.to.0 to.0 below.1)
  where
    by : (edge.to.0 < to.0) ⊎ (edge.to.0 ≡ to.0) → IsBelow table to.0 edge ⊎ Contains row edge
    by (inl less) = inl (below.0, less)
    by (inr same) = inr (subst (λ (edges : List Edge). Contains edges edge) (sym is) (in_row table to edge below.0 same))

-- the edge that was found is the one of its source, target and label
pub found_is : (dense : Graph) (from to : PointId) (label : Option LinkId) (found : Option Edge)
    → MatchOption found (weight_of dense (record { to = to; from = from; label = label }) ≡ None) (IsEdgeBetween dense from to label) → (edge : Edge) → IsEdgeBetween dense from to label edge → found ≡ Some edge
found_is dense from to label None none edge is =
    let keys : key_of edge ≡ record { to = to; from = from; label = label } = λ i. record { to = is.to_is i; from = is.from_is i; label = is.label_is i } in
    let both : None ≡ Some edge.weight = sym none ∙ (ap (weight_of dense) (sym keys) ∙ is.has) in
    absurd cc
found_is dense from to label (Some one) held edge is = ap Some (held_one dense from to label one edge held is.has is.from_is is.to_is is.label_is)

-- an edge of a table into a point, from a point below a number
abbrev pub IsEdgeToBelow : Graph → PointId → ℕ → Edge → Type 0
IsEdgeToBelow table to end edge = IsEdgeTo table to edge × (edge.from.0 < end)

pub source_more : (dense : Graph) (to : PointId) (place : ℕ) (edge : Edge) → IsEdgeToBelow dense to (place + 1) edge → IsEdgeToBelow dense to place edge ⊎ IsEdgeFromTo dense (record { 0 = place }) to edge
source_more dense to place edge into = by (cases_below edge.from.0 place into.1)
  where
    by : (edge.from.0 < place) ⊎ (edge.from.0 ≡ place) → IsEdgeToBelow dense to place edge ⊎ IsEdgeFromTo dense (record { 0 = place }) to edge
    by (inl less) = inl (into.0, less)
    by (inr same) = inr (record { has = into.0.has; from_is = ap (λ (k : ℕ). record { 0 = k }) same; to_is = into.0.to_is })

pub into_more : (dense : Graph) (place : ℕ) (edge : Edge) → IsBelow dense (place + 1) edge → IsBelow dense place edge ⊎ IsEdgeTo dense (record { 0 = place }) edge
into_more dense place edge below = by (cases_below edge.to.0 place below.1)
  where
    by : (edge.to.0 < place) ⊎ (edge.to.0 ≡ place) → IsBelow dense place edge ⊎ IsEdgeTo dense (record { 0 = place }) edge
    by (inl less) = inl (below.0, less)
    by (inr same) = inr (record { has = below.0; to_is = ap (λ (k : ℕ). record { 0 = k }) same })

-- a label, if there is one, is among so many first ones
abbrev pub IsAmongFirst : List LinkId → ℕ → Option LinkId → Type 0
IsAmongFirst labels end label = IfSome label (λ name. (k : ℕ) × (k < end) × (get_or labels k name ≡ name))

-- an edge of a source and a target without a label, or with one of so many first ones
abbrev pub IsEdgeLabelled : Graph → (from to : PointId) → List LinkId → ℕ → Edge → Type 0
IsEdgeLabelled table from to labels end edge = IsEdgeFromTo table from to edge × IsAmongFirst labels end edge.label

pub ordinary_first : (dense : Graph) (from to : PointId) (labels : List LinkId) (edge : Edge) → IsEdgeLabelled dense from to labels 0 edge → IsEdgeBetween dense from to None edge
ordinary_first dense from to labels edge is = record { has = is.0.has; from_is = is.0.from_is; to_is = is.0.to_is; label_is = by edge.label is.1 }
  where
    by : (label : Option LinkId) → IsAmongFirst labels 0 label → label ≡ None
    by None among = refl
    by (Some name) (k, below, at) = absurd (omega (arith, below))

pub label_more : (dense : Graph) (from to : PointId) (labels : List LinkId) (place : ℕ) (d : LinkId) → place < length labels → (edge : Edge) → IsEdgeLabelled dense from to labels (place + 1) edge
    → IsEdgeLabelled dense from to labels place edge ⊎ IsEdgeBetween dense from to (Some (get_or labels place d)) edge
label_more dense from to labels place d inside edge is = by edge.label refl is.1
  where
    by : (label : Option LinkId) → edge.label ≡ label → IsAmongFirst labels (place + 1) label → IsEdgeLabelled dense from to labels place edge ⊎ IsEdgeBetween dense from to (Some (get_or labels place d)) edge
    by None none among = inl (is.0, subst (IsAmongFirst labels place) (sym none) tt)
    by (Some name) some (k, below, at) = which (cases_below k place below)
      where
        which : (k < place) ⊎ (k ≡ place) → IsEdgeLabelled dense from to labels place edge ⊎ IsEdgeBetween dense from to (Some (get_or labels place d)) edge
        which (inl less) = inl (is.0, subst (IsAmongFirst labels place) (sym some) (k, less, at))
        which (inr same) =
            let here : name ≡ get_or labels place d = sym at ∙ (ap (λ (n : ℕ). get_or labels n name) same ∙ get_or_default labels place name d inside) in
            inr (record { has = is.0.has; from_is = is.0.from_is; to_is = is.0.to_is; label_is = some ∙ ap Some here })

-- the links that begin in a point label edges into it, and no others do
pub label_begins : (net : Plan) (table : Graph) (to : PointId) (labels : List LinkId) (place : ℕ) (d : LinkId) → IsFor net table → labels ≡ links_from net to → place < length labels
    → slice_get table.shape.activations (get_or labels place d).0 ≡ Some to
label_begins net table to labels place d fits is inside =
    let begins : ℕ × Link → Bool = λ (l : ℕ × Link). l.1.from.0 == to.0 in
    let all = enumerate_from 0 net.links in
    let among : Contains (links_from net to) (get_or labels place d) = subst (λ (l : List LinkId). Contains l (get_or labels place d)) is (Contains-get_or labels place d inside) in
    let (entry, kept, name) = Contains-map_from (λ (l : ℕ × Link). let link : LinkId = record { 0 = l.0 } in link) (filter begins all) (get_or labels place d) among in
    let from : entry.1.from ≡ to = ap (λ (k : ℕ). record { 0 = k }) (eqb-true entry.1.from.0 to.0 (Contains-filter_passes begins all entry kept)) in
    let number : entry.0 - 0 ≡ (get_or labels place d).0 = (let same = ap (λ (l : LinkId). l.0) name in omega (arith, same)) in
    activation_at net table (get_or labels place d).0 entry.1 fits (ap (slice_get net.links) (sym number) ∙ (numbered 0 net.links entry (Contains-filter_from begins all entry kept)).1) ∙ ap Some from

pub label_listed : (net : Plan) (dense : Graph) (from to : PointId) (labels : List LinkId) (end : ℕ) → IsPartialClosure net dense → labels ≡ links_from net to → length labels ≤ end → (edge : Edge) → IsEdgeFromTo dense from to edge
    → IsEdgeLabelled dense from to labels end edge
label_listed net dense from to labels end partial_closure is done edge held = (held, by edge.label (derivable_is net partial_closure.plan edge (partial_closure.derivable edge held.has)).labelled)
  where
    by : (label : Option LinkId) → IsLabelled net edge label → IsAmongFirst labels end label
    by None known = tt
    by (Some name) (link, declared, ends) =
        let begins : ℕ × Link → Bool = λ (l : ℕ × Link). l.1.from.0 == to.0 in
        let all = enumerate_from 0 net.links in
        let number : 0 + name.0 ≡ name.0 = omega arith in
        let listed : Contains all (name.0, link) = subst (λ (k : ℕ). Contains {X = ℕ × Link} (enumerate_from 0 net.links) (k, link)) number (numbered_contained 0 net.links name.0 link declared) in
        let same : link.from.0 ≡ to.0 = ap (λ (p : PointId). p.0) (sym ends ∙ held.to_is) in
        let kept : Contains (filter begins all) (name.0, link) = Contains-filter begins all (name.0, link) listed (grind (arith, nat_tests)) in
        let (k, below, at) = subst (λ (l : List LinkId). Contains l name) (sym is) (Contains-map (λ (l : ℕ × Link). let link : LinkId = record { 0 = l.0 } in link) (filter begins all) (name.0, link) kept) in
        (k, omega (arith, below, done), at)

module _ (net : Plan) (dense : Graph) (partial_closure : IsPartialClosure net dense) where
  pub within_points : (end : ℕ) → length net.points ≤ end → (edge : Edge) → HasEdge dense edge → edge.from.0 < end
  within_points end done edge has = let begins = (derivable_is net partial_closure.plan edge (partial_closure.derivable edge has)).from_point in omega (arith, begins, done)

  pub within_targets : (end : ℕ) → length net.points ≤ end → (edge : Edge) → HasEdge dense edge → IsBelow dense end edge
  within_targets end done edge has = (has, let ends = (derivable_is net partial_closure.plan edge (partial_closure.derivable edge has)).to_point in omega (arith, ends, done))

-- the dense table of a partial closure is one
pub copy_is_partial_closure : (net : Plan) (table dense : Graph) (end : ℕ) → IsPartialClosure net table → length net.points ≤ end → IsLoweredTo net (IsBelow table end) (no_edges (shape_of net)) dense → IsPartialClosure net dense
copy_is_partial_closure net table dense end partial_closure done lower = partial_closure_by net dense table partial_closure lower.of_derivable
    (λ edge has. lower.has edge (has, let ends = (derivable_is net partial_closure.plan edge (partial_closure.derivable edge has)).to_point in omega (arith, ends, done)))

-- ---- a table that has each edge of another stays so if the other is lowered to edges that the first one has, at weights that are no
-- greater
pub bounded_none : (net : Plan) (low table : Graph) → table ≡ no_edges (shape_of net) → IsAtMost low table
bounded_none net low table is edge has = absurd (no_edges-has_none (shape_of net) edge (subst (λ (g : Graph). HasEdge g edge) is has))

pub bounded_on : (low old new : Graph) (row : List Edge) → new ≡ fold lowered old row → IsAtMost low old → All (HasAtMost low) row → IsAtMost low new
bounded_on low old new row is under each = subst (IsAtMost low) (sym is) (λ other has. by other (all_lowered-cases old row other has))
  where
    by : (other : Edge) → Contains row other ⊎ HasEdge old other → HasAtMost low other
    by other (inl inside) = All-contains (HasAtMost low) row other each inside
    by other (inr has) = under other has

pub row_bounded : (table : Graph) (to : PointId) (row : List Edge) → row ≡ row_of table to → All (HasAtMost table) row
row_bounded table to row is = subst (All (HasAtMost table)) (sym is)
    (all_contained (HasAtMost table) (row_of table to) (λ edge inside. has_at_most_itself table edge (listed_edge table edge (Contains-filter_from (λ (e : Edge). e.to.0 == to.0) (edges_of table) edge inside))))

-- the dense table of a partial closure
pub dense_below : (net : Plan) (table dense : Graph) (end : ℕ) → IsPartialClosure net table → length net.points ≤ end → IsLoweredTo net (IsBelow table end) (no_edges (shape_of net)) dense → IsAtMost table dense → IsDenseOf net table dense
dense_below net table dense end partial_closure done lower under = record {
  partial_closure = copy_is_partial_closure net table dense end partial_closure done lower;
  at_most = λ edge has. lower.has edge (has, let ends = (derivable_is net partial_closure.plan edge (partial_closure.derivable edge has)).to_point in omega (arith, ends, done));
  no_less = under;
}

-- ---- a table that was lowered to a closure is the closure
pub still_partial_closure : (net : Plan) (among : Edge → Type 0) (old new : Graph) → IsPartialClosure net old → IsLoweredTo net among old new → IsPartialClosure net new
still_partial_closure net among old new partial_closure lower = partial_closure_by net new old partial_closure lower.of_derivable lower.at_most

closure_has : (net : Plan) (closure : Graph) → IsClosure net closure → (edge : Edge) → IsDerivable net edge → HasAtMost closure edge
closure_has net closure is edge derivable = by (weight_of closure (key_of edge)) refl (is.weights (key_of edge))
  where
    by : (o : Option ℤ) → weight_of closure (key_of edge) ≡ o → MatchOption o ((w : ℤ) → ¬ IsDerivableFor net (key_of edge) w) (IsLeastDerivable net (key_of edge)) → HasAtMost closure edge
    by None none never = absurd (never edge.weight derivable)
    by (Some least) some is_least = at_most_from closure edge least some (is_least.least edge.weight derivable)

pub lowered_to_closure : (net : Plan) (closure old table : Graph) → IsClosure net closure → IsLoweredTo net (HasEdge closure) old table → IsClosure net table
lowered_to_closure net closure old table is lower = law_closed_and_derivable_is_closure net table lower.of_derivable.fits closes lower.of_derivable.derivable
  where
    closes : (edge : Edge) → Follows net (edges_of table) edge → HasAtMost table edge
    closes edge follows =
        at_most_below table closure edge lower.has
        (closure_has net closure is edge (law_rules_keep_derivable net (edges_of table) edge (all_contained (IsDerivable net) (edges_of table) (λ other inside. lower.of_derivable.derivable other (listed_edge table other inside))) follows))

-- what the dense table comes to, the table does
pub tested_dense : (net : Plan) (table dense : Graph) (found : Option Edge) → IsPartialClosure net table → IsDenseOf net table dense → TestsTo net dense found → TestsTo net table found
tested_dense net table dense None partial_closure is closes = λ edge follows.
    at_most_below table dense edge is.no_less
    (closure_has net dense (closed_partial_closure_is_closure net dense is.partial_closure closes) edge (law_rules_keep_derivable net (edges_of table) edge
    (all_contained (IsDerivable net) (edges_of table) (λ other inside. partial_closure.derivable other (listed_edge table other inside))) follows))
tested_dense net table dense (Some edge) partial_closure is unsaturated = record { derivable = unsaturated.derivable; missed = by (has_at_most table edge) refl }
  where
    by : (b : Bool) → has_at_most table edge ≡ b → has_at_most table edge ≡ false
    by false is_so = is_so
    by true met = let there : has_at_most dense edge ≡ true = at_most_test dense edge (at_most_below dense table edge is.at_most (at_most_tested table edge met)) in let missed = unsaturated.missed in absurd cc
