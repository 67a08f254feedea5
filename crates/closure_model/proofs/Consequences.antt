-- The list of the consequences of an edge of a row holds what the rules give, and nothing else.
use Rattle.std.proofs.Common.{◌≡◌, ◌≢◌, ℕ, zero, suc, ◌+◌, ◌<◌, ◌≤◌, ℤ, ◌==◌, Bool, true, false, ◌⊎◌, List, [], ◌++◌, length, map, get_or, Option, Some, None, refl, ap, sym, subst, ◌∙◌, inl, inr, arith}
use Rattle.std.specs.List.{position_or_len}
use Rattle.std.proofs.lemmas.List.Sums.{position_or_len_is}
use Rattle.std.specs.Option.{option_map, option_map_or}
use Rattle.std.specs.List.{Contains, flat_map, range_with_len}
use Rattle.std.proofs.lemmas.Bool.{eqb-true}
use Rattle.std.proofs.lemmas.Bool.Decides.{nat_tests}
use Rattle.std.proofs.lemmas.Option.{slice_get_within, get_or_from_slice_get}
use Rattle.std.proofs.lemmas.List.Elements.{Contains-append_cases, Contains-append_left, Contains-append_right}
use Rattle.net_model.specs.Network.{Plan, IsPlan, activation}
use Rattle.net_model.specs.Edges.{IsLinkOf}
use Rattle.net_model.specs.Rules.{no_case, upper_case, lower_case, cross_case, removal}
use Rattle.net_model.specs.declared.ids.LinkId.{LinkId}
use Rattle.net_model.specs.declared.ids.PointId.{PointId}
use Rattle.net_model.specs.declared.part.Edge.{Edge}
use Rattle.net_model.specs.declared.part.Link.{Link}
use Rattle.net_model.proofs.RuleLemmas.{no_case_gives, upper_case_gives, lower_case_gives, cross_case_gives}
use Rattle.closure_model.specs.Keys.{edge_of, ordinary_key, all_points, Shape, key_of}
use Rattle.closure_model.specs.Tables.{Graph, HasEdge, weight_of, IsGraph}
use Rattle.closure_model.specs.ReferenceRow.{given, ordinary_into, from_removal, over_link, from_link, from_first, consequences}
use Rattle.closure_model.specs.declared.rows.Made.{Made}
use Rattle.closure_model.specs.declared.rows.Why.{Why}
use Rattle.closure_model.specs.declared.rows.Why.TheVariants.{No, Up, Low, Cross, Drop}
use Rattle.closure_model.proofs.Lists.{Contains-tail, Contains-none, Contains-flat_map, Contains-flat_map_from, Contains-filter_map, Contains-filter_map_from}

-- every point of a shape stands among its points
points_from : ℕ → ℕ → List PointId
points_from first count = map (λ k. record { 0 = k }) (range_with_len first count)

point_stands : (first count : ℕ) (p : PointId) → first ≤ p.0 → p.0 < first + count → Contains (points_from first count) p
unfolding points_from
point_stands first zero p low high = absurd (omega arith)
point_stands first (suc count) p low high = by (λ more. point_stands (first + 1) count p more (omega arith)) (first == p.0) refl
  where
    by : (first + 1 ≤ p.0 → Contains (points_from (first + 1) count) p) → (b : Bool) → first == p.0 ≡ b → Contains (points_from first (suc count)) p
    by rest true is = (0, omega arith, ap (λ (k : ℕ). record { 0 = k }) (eqb-true first p.0 is))
    by rest false is = Contains-tail (record { 0 = first }) (points_from (first + 1) count) p (rest (grind (arith, nat_tests)))

pub all_points_stand : (shape : Shape) (p : PointId) → p.0 < shape.points → Contains (all_points shape) p
unfolding points_from
all_points_stand shape p inside = point_stands 0 shape.points p (omega arith) (omega (arith, inside))

-- ---- what a rule gave
given_holds : (why : Why) (o : Option Edge) (edge : Edge) → o ≡ Some edge → Contains (given why o) (record { edge = edge; why = why })
given_holds why None edge is = absurd cc
given_holds why (Some other) edge is = let same : other ≡ edge = cc in (0, omega arith, ap (λ (e : Edge). record { edge = e; why = why }) same)

given_from : (why : Why) (o : Option Edge) (made : Made) → Contains (given why o) made → (o ≡ Some made.edge) × (why ≡ made.why)
given_from why None made inside = absurd (Contains-none made inside)
given_from why (Some other) made (zero, inside, at) = (ap (λ (m : Made). Some m.edge) at, ap (λ (m : Made). m.why) at)
given_from why (Some other) made (suc k, inside, at) = absurd (omega arith)

-- ---- the edges that a table has before a point
ordinary_edge : Edge → Type 0
ordinary_edge edge = edge.label ≡ None

module _ (table : Graph) (point : PointId) where
  abbrev edge_from : PointId → Option Edge
  edge_from from = option_map (edge_of (ordinary_key from point)) (weight_of table (ordinary_key from point))

  pub ordinary_stands : IsGraph table → (first : Edge) → HasEdge table first → first.label ≡ None → first.to ≡ point → Contains (ordinary_into table point) first
  ordinary_stands sound first has none ends =
      let key : key_of first ≡ ordinary_key first.from point = λ i. record { to = ends i; from = first.from; label = none i } in
      let here : weight_of table (ordinary_key first.from point) ≡ Some first.weight = subst (λ k. weight_of table k ≡ Some first.weight) key has in
      let same : edge_of (ordinary_key first.from point) first.weight ≡ first = λ i. record { from = first.from; to = sym ends i; label = sym none i; weight = first.weight } in
      Contains-filter_map edge_from (all_points table.shape) first.from first
      (all_points_stand table.shape first.from (sound.keys first has).from_point) (ap (option_map (edge_of (ordinary_key first.from point))) here ∙ ap Some same)

  pub ordinary_from : (first : Edge) → Contains (ordinary_into table point) first → HasEdge table first × (first.label ≡ None) × (first.to ≡ point)
  ordinary_from first inside = let (from, at, is) = Contains-filter_map_from edge_from (all_points table.shape) first inside in by from (weight_of table (ordinary_key from point)) refl is
    where
      by : (from : PointId) (o : Option ℤ) → weight_of table (ordinary_key from point) ≡ o → edge_from from ≡ Some first → HasEdge table first × (first.label ≡ None) × (first.to ≡ point)
      by from None none is = let absent : edge_from from ≡ None = ap (option_map (edge_of (ordinary_key from point))) none in absurd cc
      by from (Some weight) some is =
          let made : edge_from from ≡ Some (edge_of (ordinary_key from point) weight) = ap (option_map (edge_of (ordinary_key from point))) some in
          let same : edge_of (ordinary_key from point) weight ≡ first = cc in
          (subst (HasEdge table) same some, ap (λ (e : Edge). e.label) (sym same), ap (λ (e : Edge). e.to) (sym same))

-- ---- the links that end where an edge begins
-- a link that ends in a point is the one that ends there
pub ends_there : (net : Plan) → IsPlan net → (name : LinkId) (link : Link) (point : PointId) → IsLinkOf net name link → point ≡ link.to → activation net point ≡ Some name
ends_there net sound name link point declared ends = first (position_or_len_is (λ (l : Link). l.to.0 == point.0) net.links name.0 link (let inside = within in omega arith) before (λ inside. here))
  where
    within : name.0 < length net.links
    within = slice_get_within net.links name.0 link declared

    is_link : get_or net.links name.0 link ≡ link
    is_link = get_or_from_slice_get net.links name.0 link link declared

    here : (get_or net.links name.0 link).to.0 == point.0 ≡ true
    here = let same : link.to.0 ≡ point.0 = ap (λ (p : PointId). p.0) (sym ends) in rw is_link (grind (arith, nat_tests))

    before : (k : ℕ) → k < name.0 → (get_or net.links k link).to.0 == point.0 ≡ false
    before k earlier =
        let same : point.0 ≡ link.to.0 = ap (λ (p : PointId). p.0) ends in
        let other : (get_or net.links k link).to.0 ≢ (get_or net.links name.0 link).to.0 = sound.links_apart k name.0 link earlier within in
        let other' : (get_or net.links k link).to.0 ≢ link.to.0 = rw is_link at other in
        grind (arith, nat_tests)

    first : position_or_len (λ (l : Link). l.to.0 == point.0) net.links ≡ name.0 → activation net point ≡ Some name
    first place = let inside = within in rw place (grind (arith, nat_tests))

-- ---- the consequences
-- what a rule gives from an edge of a row, with an edge of the table before it if the rule takes two
pub data IsConsequence (net : Plan) (table : Graph) (premise : Edge) (made : Made) : Type 0 where
  removed : removal net premise ≡ Some made.edge → Drop premise ≡ made.why → IsConsequence net table premise made
  moved : (name : LinkId) → lower_case net name premise ≡ Some made.edge → Low name premise ≡ made.why → IsConsequence net table premise made
  crossed : (name : LinkId) → cross_case net name premise ≡ Some made.edge → Cross name premise ≡ made.why → IsConsequence net table premise made
  joined : (first : Edge) → HasEdge table first → no_case first premise ≡ Some made.edge → No first premise ≡ made.why → IsConsequence net table premise made
  joined_labelled : (first : Edge) → HasEdge table first → upper_case first premise ≡ Some made.edge → Up first premise ≡ made.why → IsConsequence net table premise made

module _ (net : Plan) (table : Graph) (premise : Edge) where
  over_link_is : (name : LinkId) (made : Made) → Contains (over_link net premise name) made → IsConsequence net table premise made
  over_link_is name made inside = by (Contains-append_cases (given (Low name premise) (lower_case net name premise)) (given (Cross name premise) (cross_case net name premise)) made inside)
    where
      by : Contains (given (Low name premise) (lower_case net name premise)) made ⊎ Contains (given (Cross name premise) (cross_case net name premise)) made → IsConsequence net table premise made
      by (inl here) = let (is, why) = given_from (Low name premise) (lower_case net name premise) made here in moved name is why
      by (inr here) = let (is, why) = given_from (Cross name premise) (cross_case net name premise) made here in crossed name is why

  from_link_is : (made : Made) → Contains (from_link net premise) made → IsConsequence net table premise made
  from_link_is made inside = by (activation net premise.from) inside
    where
      by : (o : Option LinkId) → Contains (option_map_or (over_link net premise) o []) made → IsConsequence net table premise made
      by None inside = absurd (Contains-none made inside)
      by (Some name) inside = over_link_is name made inside

  from_first_is : (first : Edge) (made : Made) → HasEdge table first → Contains (from_first premise first) made → IsConsequence net table premise made
  from_first_is first made has inside = by (Contains-append_cases (given (No first premise) (no_case first premise)) (given (Up first premise) (upper_case first premise)) made inside)
    where
      by : Contains (given (No first premise) (no_case first premise)) made ⊎ Contains (given (Up first premise) (upper_case first premise)) made → IsConsequence net table premise made
      by (inl here) = let (is, why) = given_from (No first premise) (no_case first premise) made here in joined first has is why
      by (inr here) = let (is, why) = given_from (Up first premise) (upper_case first premise) made here in joined_labelled first has is why

  pub consequence_is : (made : Made) → Contains (consequences net table premise) made → IsConsequence net table premise made
  consequence_is made inside = by (Contains-append_cases (from_removal net premise) (from_link net premise ++ flat_map (from_first premise) (ordinary_into table premise.from)) made inside)
    where
      later : Contains (from_link net premise) made ⊎ Contains (flat_map (from_first premise) (ordinary_into table premise.from)) made → IsConsequence net table premise made
      later (inl here) = from_link_is made here
      later (inr there) =
          let (first, at, is) = Contains-flat_map_from (from_first premise) (ordinary_into table premise.from) made there in
          let (has, none, ends) = ordinary_from table premise.from first at in
          from_first_is first made has is

      by : Contains (from_removal net premise) made ⊎ Contains (from_link net premise ++ flat_map (from_first premise) (ordinary_into table premise.from)) made → IsConsequence net table premise made
      by (inl here) = let (is, why) = given_from (Drop premise) (removal net premise) made here in removed is why
      by (inr there) = later (Contains-append_cases (from_link net premise) (flat_map (from_first premise) (ordinary_into table premise.from)) made there)

  -- an edge is among the consequences
  abbrev pub Follows : Edge → Type 0
  Follows edge = (made : Made) × Contains (consequences net table premise) made × (made.edge ≡ edge)

  first_part : (made : Made) → Contains (from_removal net premise) made → Contains (consequences net table premise) made
  first_part made here = Contains-append_left (from_removal net premise) (from_link net premise ++ flat_map (from_first premise) (ordinary_into table premise.from)) made here

  second_part : (made : Made) → Contains (from_link net premise) made → Contains (consequences net table premise) made
  second_part made here =
      Contains-append_right (from_removal net premise) (from_link net premise ++ flat_map (from_first premise) (ordinary_into table premise.from)) made
      (Contains-append_left (from_link net premise) (flat_map (from_first premise) (ordinary_into table premise.from)) made here)

  third_part : IsGraph table → (first : Edge) (made : Made) → HasEdge table first → first.label ≡ None → first.to ≡ premise.from → Contains (from_first premise first) made → Contains (consequences net table premise) made
  third_part sound first made has none ends here =
      Contains-append_right (from_removal net premise) (from_link net premise ++ flat_map (from_first premise) (ordinary_into table premise.from)) made
      (Contains-append_right (from_link net premise) (flat_map (from_first premise) (ordinary_into table premise.from)) made
      (Contains-flat_map (from_first premise) (ordinary_into table premise.from) first made (ordinary_stands table premise.from sound first has none ends) here))

  pub removal_stands : (edge : Edge) → removal net premise ≡ Some edge → Follows edge
  removal_stands edge is = (record { edge = edge; why = Drop premise }, first_part _ (given_holds (Drop premise) (removal net premise) edge is), refl)

  over_link_stands : (name : LinkId) (made : Made) → activation net premise.from ≡ Some name → Contains (over_link net premise name) made → Contains (consequences net table premise) made
  over_link_stands name made ends here =
      let whole : from_link net premise ≡ over_link net premise name = ap (λ (o : Option LinkId). option_map_or (over_link net premise) o []) ends in
      second_part made (subst (λ (list : List Made). Contains list made) (sym whole) here)

  pub lower_case_stands : IsPlan net → (name : LinkId) (edge : Edge) → lower_case net name premise ≡ Some edge → Follows edge
  lower_case_stands sound name edge is =
      let gives = lower_case_gives net name premise edge is in
      let made : Made = record { edge = edge; why = Low name premise } in (
        made,
        over_link_stands name made (ends_there net sound name gives.link premise.from gives.declared gives.begins)
            (Contains-append_left (given (Low name premise) (lower_case net name premise)) (given (Cross name premise) (cross_case net name premise)) made (given_holds (Low name premise) (lower_case net name premise) edge is)),
        refl,
      )

  pub cross_case_stands : IsPlan net → (name : LinkId) (edge : Edge) → cross_case net name premise ≡ Some edge → Follows edge
  cross_case_stands sound name edge is =
      let gives = cross_case_gives net name premise edge is in
      let made : Made = record { edge = edge; why = Cross name premise } in (
        made,
        over_link_stands name made (ends_there net sound name gives.link premise.from gives.declared gives.begins)
            (Contains-append_right (given (Low name premise) (lower_case net name premise)) (given (Cross name premise) (cross_case net name premise)) made (given_holds (Cross name premise) (cross_case net name premise) edge is)),
        refl,
      )

  pub no_case_stands : IsGraph table → (first edge : Edge) → HasEdge table first → no_case first premise ≡ Some edge → Follows edge
  no_case_stands sound first edge has is =
      let gives = no_case_gives first premise edge is in
      let made : Made = record { edge = edge; why = No first premise } in (
        made,
        third_part sound first made has gives.first_ordinary gives.meeting
            (Contains-append_left (given (No first premise) (no_case first premise)) (given (Up first premise) (upper_case first premise)) made (given_holds (No first premise) (no_case first premise) edge is)),
        refl,
      )

  pub upper_case_stands : IsGraph table → (first edge : Edge) → HasEdge table first → upper_case first premise ≡ Some edge → Follows edge
  upper_case_stands sound first edge has is =
      let gives = upper_case_gives first premise edge is in
      let made : Made = record { edge = edge; why = Up first premise } in (
        made,
        third_part sound first made has gives.first_ordinary gives.meeting
            (Contains-append_right (given (No first premise) (no_case first premise)) (given (Up first premise) (upper_case first premise)) made (given_holds (Up first premise) (upper_case first premise) edge is)),
        refl,
      )
