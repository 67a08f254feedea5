-- A table that stands on a network and whose rows improve nothing is the closure of the network.
use Rattle.std.proofs.Common.{◌≡◌, ℕ, ◌+◌, ◌<◌, ◌≤◌, ℤ, pos, ◌+ℤ◌, ◌-ℤ◌, ◌≤ℤ◌, ◌<ℤ◌, ◌⊎◌, List, [], ◌∷◌, ◌++◌, length, map, Option, Some, None, refl, ap, sym, subst, ◌∙◌, inl, inr, arith}
use Rattle.std.specs.Prelude.{unsigned_abs}
use Rattle.std.specs.Int.{int_max}
use Rattle.std.specs.Option.{option_map}
use Rattle.std.specs.List.{Contains, flat_map, All, enumerate_from}
use Rattle.std.proofs.lemmas.Int.{ints, int_max_is}
use Rattle.std.proofs.lemmas.Option.{slice_get-map}
use Rattle.std.proofs.lemmas.List.Elements.{All-contains, Contains-append_left, Contains-append_right}
use Rattle.std.proofs.Math.ListN.{length-map}
use Rattle.net_model.specs.Limits.{most_points, most_links}
use Rattle.net_model.specs.Network.{Plan, IsPlan, IsLink, greatest}
use Rattle.net_model.specs.Edges.{IsLinkOf, IsEdge, IsLabelled}
use Rattle.net_model.specs.Rules.{bound_edge, link_edge}
use Rattle.net_model.specs.Rules as rules
use Rattle.net_model.specs.declared.ids.LinkId.{LinkId}
use Rattle.net_model.specs.declared.ids.PointId.{PointId}
use Rattle.net_model.specs.declared.part.Edge.{Edge}
use Rattle.net_model.specs.declared.part.Link.{Link}
use Rattle.net_model.proofs.NetworkLemmas.{greatest-le}
use Rattle.net_model.proofs.RuleLemmas.{no_case_gives, upper_case_gives, lower_case_gives, cross_case_gives, removal_gives}
use Rattle.closure_model.specs.Closure.{IsClosure}
use Rattle.closure_model.specs.Derivations.{Support, StandsOn, base_nodes, edges_of_nodes}
use Rattle.closure_model.specs.Keys.{key_of, all_points, shape_of, Shape, IsKey, IsLabelAt}
use Rattle.closure_model.specs.ReferenceRow.{reference_row, with_made, IsInRow, of_table, by_no_case, by_upper_case, by_lower_case, by_cross_case, by_removal}
use Rattle.closure_model.specs.ReferenceRound.{round_made}
use Rattle.closure_model.specs.Tables.{Graph, HasEdge, HasAtMost, IsGraph, IsFor, IsClosed, HasBase, base_edges, no_edges}
use Rattle.closure_model.specs.declared.derivation.Node.{Node}
use Rattle.closure_model.specs.declared.rows.Made.{Made}
use Rattle.closure_model.proofs.BaseLemmas.{all_contained, numbered_contained}
use Rattle.closure_model.proofs.Consequences.{all_points_stand}
use Rattle.closure_model.proofs.DerivableEdges.{longest_within}
use Rattle.closure_model.proofs.LawProofs.{law_standing_is_derivable, law_derivable_are_edges, law_derivable_are_bounded, law_closed_and_derivable_is_closure}
use Rattle.closure_model.proofs.Lists.{Contains-none, Contains-cases, Contains-map, Contains-map_from}
use Rattle.closure_model.proofs.Nodes.{listed_at}
use Rattle.closure_model.proofs.RowLaw.{row_result}
use Rattle.closure_model.proofs.SupportLemmas.{base_node_edges}
use Rattle.closure_model.proofs.TableLemmas.{table_of-has, all_lowered-shape, listed_edge}

-- ---- a table that stands on a network is sound
module _ (net : Plan) (plan : IsPlan net) (support : Support) (stands : StandsOn net support) where
  pub standing_fits : IsFor net support.table
  standing_fits = ap (λ (t : Graph). t.shape) stands.table ∙ all_lowered-shape (no_edges (shape_of net)) (edges_of_nodes support.nodes)

  edge_is : (edge : Edge) → HasEdge support.table edge → IsEdge net edge
  edge_is edge has = law_derivable_are_edges net edge plan (law_standing_is_derivable net support stands edge has)

  key_is : (edge : Edge) → IsEdge net edge → IsKey (shape_of net) (key_of edge)
  key_is edge is = record { to_point = is.to_point; from_point = is.from_point; labelled = labelled edge.label is.labelled }
    where
      labelled : (label : Option LinkId) → IsLabelled net edge label → IsLabelAt (shape_of net) edge.to label
      labelled None known = tt
      labelled (Some label) (link, declared, ends) = slice_get-map (λ (l : Link). l.from) net.links label.0 ∙ (ap (option_map (λ (l : Link). l.from)) declared ∙ ap Some (sym ends))

  pub standing_within : (edge : Edge) → HasEdge support.table edge → unsigned_abs edge.weight ≤ greatest net
  standing_within edge has = law_derivable_are_bounded net edge plan (law_standing_is_derivable net support stands edge has)

  begins_in : (p : PointId) → Contains (shape_of net).activations p → p.0 < (shape_of net).points
  begins_in p inside =
      let (link, at, is) = Contains-map_from (λ (l : Link). l.from) net.links p inside in
      subst (λ (q : PointId). q.0 < length net.points) is (All-contains (IsLink net) net.links link plan.links_sound at).from_point

  pub standing_sound : IsGraph support.table
  standing_sound = record {
    keys = λ edge has. subst (λ (s : Shape). IsKey s (key_of edge)) (sym standing_fits) (key_is edge (edge_is edge has));
    weights = λ edge has. (let within = standing_within edge has in let small = greatest-le net plan in omega (arith, within, small));
    begins = subst (λ (s : Shape). All (λ (p : PointId). p.0 < s.points) s.activations) (sym standing_fits) (all_contained (λ (p : PointId). p.0 < (shape_of net).points) (shape_of net).activations begins_in);
    few_points = subst (λ (s : Shape). s.points ≤ most_points) (sym standing_fits) plan.few_points;
    few_links = subst (λ (s : Shape). length s.activations ≤ most_links) (sym standing_fits) (omega (arith, length-map net.links (λ (l : Link). l.from), plan.few_links));
  }

  pub standing_base : HasBase net support.table
  standing_base = all_contained (HasAtMost support.table) (base_edges net) has
    where
      has : (edge : Edge) → Contains (base_edges net) edge → HasAtMost support.table edge
      has edge inside =
          let among : Contains (edges_of_nodes (base_nodes net)) edge = subst (λ (list : List Edge). Contains list edge) (sym (base_node_edges net)) inside in
          let (node, at, is) = Contains-map_from (λ (node : Node). node.edge) (base_nodes net) edge among in
          let listed : Contains support.nodes node = All-contains (Contains support.nodes) (base_nodes net) node stands.based at in
          let one : Contains (edges_of_nodes support.nodes) edge = subst (Contains (edges_of_nodes support.nodes)) is (Contains-map (λ (node : Node). node.edge) support.nodes node listed) in
          subst (λ (t : Graph). HasAtMost t edge) (sym stands.table) (table_of-has (shape_of net) (edges_of_nodes support.nodes) edge one)

-- ---- nothing improves
nothing_in : {X Y : Type 0} (f : X → List Y) (xs : List X) (x : X) → flat_map f xs ≡ [] → Contains xs x → f x ≡ []
nothing_in f [] x none inside = absurd (Contains-none x inside)
nothing_in f (y ∷ ys) x none inside = by (λ rest there. nothing_in f ys x rest there) (f y) refl none (Contains-cases y ys x inside)
  where
    by : (flat_map f ys ≡ [] → Contains ys x → f x ≡ []) → (zs : List _) → f y ≡ zs → zs ++ flat_map f ys ≡ [] → (y ≡ x) ⊎ Contains ys x → f x ≡ []
    by later [] here none (inl is) = ap f (sym is) ∙ here
    by later [] here none (inr there) = later none there
    by later (z ∷ zs) here none inside = absurd cc

module _ (net : Plan) (plan : IsPlan net) (support : Support) (stands : StandsOn net support) (none : round_made net support.table ≡ []) where
  abbrev table : Graph
  table = support.table

  row_meets : (to : PointId) → to.0 < table.shape.points → (edge : Edge) → IsInRow net table to edge → HasAtMost table edge
  row_meets to inside edge derived =
      let empty : reference_row net table to ≡ [] = nothing_in (reference_row net table) (all_points table.shape) to none (all_points_stand table.shape to inside) in
      let least = (row_result net table to plan (standing_fits net plan support stands) (standing_sound net plan support stands)).least in
      subst (λ (made : List Made). HasAtMost (with_made table made) edge) empty (least.least edge derived)

  saturates : (second edge : Edge) → HasEdge table second → IsInRow net table second.to edge → HasAtMost table edge
  saturates second edge has derived = row_meets second.to ((standing_sound net plan support stands).keys second has).to_point edge derived

  base_meets : (edge : Edge) → Contains (base_edges net) edge → HasAtMost table edge
  base_meets edge inside = All-contains (HasAtMost table) (base_edges net) edge (standing_base net plan support stands) inside

  pub round_closed : IsClosed net table
  round_closed edge (rules.by_bound place bound declared is) =
      subst (HasAtMost table) is (base_meets (bound_edge bound) (Contains-append_left (map bound_edge net.bounds) (map (λ (e : ℕ × Link). link_edge (record { 0 = e.0 }) e.1) (enumerate_from 0 net.links)) (bound_edge bound)
      (Contains-map bound_edge net.bounds bound (listed_at net.bounds place bound declared))))
  round_closed edge (rules.by_link name link declared is) =
      subst (HasAtMost table) is (base_meets (link_edge name link) (Contains-append_right (map bound_edge net.bounds) (map (λ (e : ℕ × Link). link_edge (record { 0 = e.0 }) e.1) (enumerate_from 0 net.links)) (link_edge name link)
      (Contains-map (λ (e : ℕ × Link). link_edge (record { 0 = e.0 }) e.1) (enumerate_from 0 net.links) (name.0, link) (let same : 0 + name.0 ≡ name.0 = omega arith in
      subst (λ (k : ℕ). Contains {X = ℕ × Link} (enumerate_from 0 net.links) (k, link)) same (numbered_contained 0 net.links name.0 link declared)))))
  round_closed edge (rules.by_no_case first second one two is) =
      let has = listed_edge table second two in saturates second edge has (by_no_case first second edge (listed_edge table first one) (of_table second has refl) is)
  round_closed edge (rules.by_upper_case first second one two is) =
      let has = listed_edge table second two in saturates second edge has (by_upper_case first second edge (listed_edge table first one) (of_table second has refl) is)
  round_closed edge (rules.by_lower_case name second one is) =
      let has = listed_edge table second one in saturates second edge has (by_lower_case name second edge (of_table second has refl) is)
  round_closed edge (rules.by_cross_case name second one is) =
      let has = listed_edge table second one in saturates second edge has (by_cross_case name second edge (of_table second has refl) is)
  round_closed edge (rules.by_removal premise one is) =
      let has = listed_edge table premise one in saturates premise edge has (by_removal premise edge (of_table premise has refl) is)

  pub round_gives_closure : IsClosure net table
  round_gives_closure = law_closed_and_derivable_is_closure net table (standing_fits net plan support stands) round_closed (law_standing_is_derivable net support stands)

-- ---- weights stay from -M to M
joined_within : (most : ℕ) (v u : ℤ) → unsigned_abs v ≤ most → unsigned_abs u ≤ most → u <ℤ pos 0 → unsigned_abs (int_max v (pos 0) +ℤ u) ≤ most
joined_within most v u first second negative = grind (arith, ints, int_max_is)

moved_within : (most : ℕ) (x y u : ℤ) → pos 1 ≤ℤ x → x ≤ℤ y → unsigned_abs y ≤ most → unsigned_abs u ≤ most → u <ℤ pos 0 → unsigned_abs (x +ℤ u) ≤ most
moved_within most x y u positive interval longest second negative = grind (arith, ints)

without_label_within : (most : ℕ) (x y z : ℤ) → pos 1 ≤ℤ x → x ≤ℤ y → unsigned_abs y ≤ most → unsigned_abs z ≤ most → unsigned_abs (int_max z (pos 0 -ℤ x)) ≤ most
without_label_within most x y z positive interval longest premise = grind (arith, ints, int_max_is)

module _ (net : Plan) (plan : IsPlan net) (table : Graph) (within : (edge : Edge) → HasEdge table edge → unsigned_abs edge.weight ≤ greatest net) (to : PointId) where
  longest : (name : LinkId) (link : Link) → IsLinkOf net name link → (pos 1 ≤ℤ link.low) × (link.low ≤ℤ link.high) × (unsigned_abs link.high ≤ greatest net)
  longest name link declared =
      let is = All-contains (IsLink net) net.links link plan.links_sound (listed_at net.links name.0 link declared) in
      (is.positive, is.interval, longest_within net name link declared)

  pub in_row_within : (edge : Edge) → IsInRow net table to edge → unsigned_abs edge.weight ≤ greatest net
  in_row_within _ (of_table edge has ends) = within edge has
  in_row_within _ (by_no_case first second edge has derived is) =
      let gives = no_case_gives first second edge is in
      subst (λ (e : Edge). unsigned_abs e.weight ≤ greatest net) gives.is (joined_within (greatest net) first.weight second.weight (within first has) (in_row_within second derived) gives.negative)
  in_row_within _ (by_upper_case first second edge has derived is) =
      let gives = upper_case_gives first second edge is in
      subst (λ (e : Edge). unsigned_abs e.weight ≤ greatest net) gives.is (joined_within (greatest net) first.weight second.weight (within first has) (in_row_within second derived) gives.negative)
  in_row_within _ (by_lower_case name second edge derived is) =
      let gives = lower_case_gives net name second edge is in
      let (positive, interval, most) = longest name gives.link gives.declared in
      subst (λ (e : Edge). unsigned_abs e.weight ≤ greatest net) gives.is (moved_within (greatest net) gives.link.low gives.link.high second.weight positive interval most (in_row_within second derived) gives.negative)
  in_row_within _ (by_cross_case name second edge derived is) =
      let gives = cross_case_gives net name second edge is in
      let (positive, interval, most) = longest name gives.link gives.declared in
      subst (λ (e : Edge). unsigned_abs e.weight ≤ greatest net) gives.is (moved_within (greatest net) gives.link.low gives.link.high second.weight positive interval most (in_row_within second derived) gives.negative)
  in_row_within _ (by_removal premise edge derived is) =
      let gives = removal_gives net premise edge is in
      let (positive, interval, most) = longest gives.name gives.link gives.declared in
      subst (λ (e : Edge). unsigned_abs e.weight ≤ greatest net) gives.is (without_label_within (greatest net) gives.link.low gives.link.high premise.weight positive interval most (in_row_within premise derived))
