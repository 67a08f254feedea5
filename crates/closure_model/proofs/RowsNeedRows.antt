-- After a round the row of a target makes nothing unless something improved in the row of a point from which a negative ordinary edge goes
-- to the target.
use Rattle.std.proofs.Common.{◌≡◌, ℤ, pos, ◌≤ℤ◌, ◌<ℤ◌, ◌-ℤ◌, true, false, List, [], ◌∷◌, Option, Some, None, refl, ap, sym, subst, ◌∙◌, arith}
use Rattle.std.specs.Prelude.{int_lt, slice_get}
use Rattle.std.specs.Int.{int_max}
use Rattle.std.specs.Option.{option_map, option_map_or}
use Rattle.std.specs.List.{Contains}
use Rattle.std.proofs.lemmas.Int.{ints, int_max_is}
use Rattle.std.proofs.lemmas.Option.{slice_get-map}
use Rattle.std.proofs.lemmas.List.Elements.{All-contains}
use Rattle.net_model.specs.Network.{Plan, IsPlan, IsLink}
use Rattle.net_model.specs.Edges.{IsLinkOf}
use Rattle.net_model.specs.declared.ids.LinkId.{LinkId}
use Rattle.net_model.specs.declared.ids.PointId.{PointId}
use Rattle.net_model.specs.declared.part.Edge.{Edge}
use Rattle.net_model.specs.declared.part.Link.{Link}
use Rattle.net_model.proofs.AppliedRuleLemmas.{removal_applies}
use Rattle.net_model.proofs.RuleLemmas.{no_case_gives, upper_case_gives, lower_case_gives, cross_case_gives, removal_gives}
use Rattle.closure_model.specs.Keys.{Key, key_of, ordinary_key, Shape, shape_of, IsLabelAt}
use Rattle.closure_model.specs.Orders.{goes}
use Rattle.closure_model.specs.ReferenceRow.{reference_row, with_made, IsBelow, IsInRow, of_table, by_no_case, by_upper_case, by_lower_case, by_cross_case, by_removal}
use Rattle.closure_model.specs.ReferenceRound.{round_made, after_round}
use Rattle.closure_model.specs.Tables.{Graph, weight_of, HasEdge, HasAtMost, IsFor, IsGraph}
use Rattle.closure_model.specs.declared.rows.Made.{Made}
use Rattle.closure_model.proofs.Lists.{Contains-head}
use Rattle.closure_model.proofs.Nodes.{listed_at}
use Rattle.closure_model.proofs.RoundClosure.{standing_fits, standing_sound}
use Rattle.closure_model.proofs.RoundsLaw.{round_stands_after}
use Rattle.closure_model.proofs.RowsAfter.{now_in_row, row_met, was_there}
use Rattle.closure_model.proofs.RowDerivable.{in_row_there}
use Rattle.closure_model.proofs.RowLaw.{row_derived, row_result}
use Rattle.closure_model.proofs.RuleSteps.{at_weight, no_case_of_less, upper_case_of_less, lower_case_of_less, cross_case_of_less, removal_of_less}
use Rattle.closure_model.proofs.TableLemmas.{at_most_from, at_most_gives, has_at_most_itself}
use Rattle.closure_model.proofs.Weights.{lt_is, lt_true, le_then, le_then_lt, not_below}
use Rattle.closure_model.specs.RoundLaws.{RowsNeedImprovedRows}

-- ---- negative ordinary edges
pub goes_from : (table : Graph) (edge : Edge) → HasEdge table edge → edge.label ≡ None → edge.weight <ℤ pos 0 → goes table edge.from edge.to ≡ true
goes_from table edge has ordinary below =
    let key : ordinary_key edge.from edge.to ≡ key_of edge = ap (λ (o : Option LinkId). let k : Key = record { to = edge.to; from = edge.from; label = o } in k) (sym ordinary) in
    let held : weight_of table (ordinary_key edge.from edge.to) ≡ Some edge.weight = ap (weight_of table) key ∙ has in
    ap (λ (o : Option ℤ). option_map_or (λ weight. int_lt weight (pos 0)) o false) held ∙ lt_true edge.weight (pos 0) below

pub gone_edge : (table : Graph) (from to : PointId) → goes table from to ≡ true → (weight : ℤ) × (weight_of table (ordinary_key from to) ≡ Some weight) × (weight <ℤ pos 0)
gone_edge table from to went = by (weight_of table (ordinary_key from to)) refl went
  where
    by : (o : Option ℤ) → weight_of table (ordinary_key from to) ≡ o → option_map_or (λ weight. int_lt weight (pos 0)) o false ≡ true → (weight : ℤ) × (weight_of table (ordinary_key from to) ≡ Some weight) × (weight <ℤ pos 0)
    by None is test = absurd cc
    by (Some weight) is test = (weight, is, lt_is weight (pos 0) test)

without_label_below : (x z : ℤ) → pos 1 ≤ℤ x → z <ℤ pos 0 → int_max z (pos 0 -ℤ x) <ℤ pos 0
without_label_below x z low below = grind (arith, ints, int_max_is)

module _ (net : Plan) (before : Graph) (plan : IsPlan net) (fits : IsFor net before) (sound : IsGraph before) where
  abbrev now : Graph
  now = with_made before (round_made net before)

  abbrev in_row : (edge : Edge) → HasEdge now edge → IsInRow net before edge.to edge
  in_row = now_in_row net before plan fits sound

  abbrev saturates : (to : PointId) (edge : Edge) → IsInRow net before to edge → HasAtMost now edge
  saturates = row_met net before plan fits sound

  -- a label is a link of the network
  link_of : (label : LinkId) (to : PointId) → IsLabelAt before.shape to (Some label) → (link : Link) × IsLinkOf net label link
  link_of label to at = by (slice_get net.links label.0) refl
    where
      by : (o : Option Link) → slice_get net.links label.0 ≡ o → (link : Link) × IsLinkOf net label link
      by None none =
          let here : slice_get (shape_of net).activations label.0 ≡ Some to = subst (λ (s : Shape). slice_get s.activations label.0 ≡ Some to) fits at in
          let nowhere : slice_get (shape_of net).activations label.0 ≡ None = slice_get-map (λ (l : Link). l.from) net.links label.0 ∙ ap (option_map (λ (l : Link). l.from)) none in
          let clash : Some to ≡ None = sym here ∙ nowhere in
          absurd cc
      by (Some link) declared = (link, declared)

  -- a negative edge of the table after the round, labelled or not, has the negative ordinary edge beside it
  goes_beside : (edge : Edge) → HasEdge now edge → edge.weight <ℤ pos 0 → goes now edge.from edge.to ≡ true
  goes_beside edge has below = by edge.label refl
    where
      by : (o : Option LinkId) → edge.label ≡ o → goes now edge.from edge.to ≡ true
      by None ordinary = goes_from now edge has ordinary below
      by (Some label) labelled =
          let derived = in_row edge has in
          let there = in_row_there net before edge.to plan fits sound edge derived in
          let (link, declared) = link_of label edge.to (subst (IsLabelAt before.shape edge.to) labelled there.key.labelled) in
          let low : pos 1 ≤ℤ link.low = (All-contains (IsLink net) net.links link plan.links_sound (listed_at net.links label.0 link declared)).positive in
          let without_label : Edge = record edge { label = None; weight = int_max edge.weight (pos 0 -ℤ link.low) } in
          let (weight, held, less) = at_most_gives now without_label (saturates edge.to without_label (by_removal edge without_label derived (removal_applies net edge label link declared labelled))) in
          let under : weight <ℤ pos 0 = le_then_lt weight without_label.weight (pos 0) less (without_label_below link.low edge.weight low below) in
          goes_from now (at_weight without_label weight) held refl under

  -- the same edge at a greater weight
  at_more : (edge : Edge) (weight : ℤ) → weight ≤ℤ edge.weight → HasAtMost now (at_weight edge weight) → HasAtMost now edge
  at_more edge weight less has = let (held, is, under) = at_most_gives now (at_weight edge weight) has in at_most_from now edge held is (le_then held weight edge.weight under less)

  module _ (fits_now : IsFor net now) (sound_now : IsGraph now) (to : PointId) (still : (from : PointId) → goes now from to ≡ true → reference_row net before from ≡ []) where
    -- what ends where a negative edge of the row begins was there before
    first_was_there : (first second : Edge) (weight : ℤ) → HasEdge now first → first.to ≡ second.from → second.to ≡ to → weight_of now (key_of second) ≡ Some weight → weight <ℤ pos 0 → HasEdge before first
    first_was_there first second weight has meeting ends held below =
        let went : goes now second.from second.to ≡ true = goes_beside (at_weight second weight) held below in
        let goes_on : goes now first.to to ≡ true = (λ i. goes now (meeting i) (sym ends i)) ∙ went in
        was_there net before plan fits sound first has (still first.to goes_on)

    ends_in : (edge : Edge) → IsInRow net now to edge → edge.to ≡ to
    ends_in edge derived = (in_row_there net now to plan fits_now sound_now edge derived).ends

    met : (edge : Edge) → IsInRow net now to edge → HasAtMost now edge
    met _ (of_table edge has ends) = has_at_most_itself now edge has
    met _ (by_no_case first second edge has derived is) =
        let gives = no_case_gives first second edge is in
        let (weight, held, less) = at_most_gives now second (met second derived) in
        let lower = no_case_of_less first second edge weight less gives in
        let old = first_was_there first second weight has gives.meeting (ends_in second derived) held (le_then_lt weight second.weight (pos 0) less gives.negative) in
        at_more edge lower.weight lower.less (saturates second.to (at_weight edge lower.weight) (by_no_case first (at_weight second weight) (at_weight edge lower.weight) old (in_row (at_weight second weight) held) lower.gives))
    met _ (by_upper_case first second edge has derived is) =
        let gives = upper_case_gives first second edge is in
        let (weight, held, less) = at_most_gives now second (met second derived) in
        let lower = upper_case_of_less first second edge weight less gives in
        let old = first_was_there first second weight has gives.meeting (ends_in second derived) held (le_then_lt weight second.weight (pos 0) less gives.negative) in
        at_more edge lower.weight lower.less (saturates second.to (at_weight edge lower.weight) (by_upper_case first (at_weight second weight) (at_weight edge lower.weight) old (in_row (at_weight second weight) held) lower.gives))
    met _ (by_lower_case name second edge derived is) =
        let (weight, held, less) = at_most_gives now second (met second derived) in
        let lower = lower_case_of_less net name second edge weight less (lower_case_gives net name second edge is) in
        at_more edge lower.weight lower.less (saturates second.to (at_weight edge lower.weight) (by_lower_case name (at_weight second weight) (at_weight edge lower.weight) (in_row (at_weight second weight) held) lower.gives))
    met _ (by_cross_case name second edge derived is) =
        let (weight, held, less) = at_most_gives now second (met second derived) in
        let lower = cross_case_of_less net name second edge weight less (cross_case_gives net name second edge is) in
        at_more edge lower.weight lower.less (saturates second.to (at_weight edge lower.weight) (by_cross_case name (at_weight second weight) (at_weight edge lower.weight) (in_row (at_weight second weight) held) lower.gives))
    met _ (by_removal premise edge derived is) =
        let (weight, held, less) = at_most_gives now premise (met premise derived) in
        let lower = removal_of_less net premise edge weight less (removal_gives net premise edge is) in
        at_more edge lower.weight lower.less (saturates premise.to (at_weight edge lower.weight) (by_removal (at_weight premise weight) (at_weight edge lower.weight) (in_row (at_weight premise weight) held) lower.gives))

    -- so nothing improves in the row
    pub row_makes_nothing : reference_row net now to ≡ []
    row_makes_nothing = by (reference_row net now to) refl
      where
        by : (made : List Made) → reference_row net now to ≡ made → made ≡ []
        by [] is = refl
        by (one ∷ made) is =
            let inside : Contains (reference_row net now to) one = subst (λ (list : List Made). Contains list one) (sym is) (Contains-head one made) in
            let (weight, held, less) = at_most_gives now one.edge (met one.edge (row_derived net now to plan fits_now sound_now one inside)) in
            let descends : one.edge.weight <ℤ weight = All-contains (λ (m : Made). IsBelow now m.edge) (reference_row net now to) one (row_result net now to plan fits_now sound_now).descends inside weight held in
            absurd (not_below weight weight refl (le_then_lt weight one.edge.weight weight less descends))

pub law_rows_need_improved_rows : RowsNeedImprovedRows
law_rows_need_improved_rows net support to plan stands still =
    let after = round_stands_after net support plan stands in
    let fits = standing_fits net plan (after_round net support) after.stands in
    let sound = standing_sound net plan (after_round net support) after.stands in
    let is = after.table_is in
    subst (λ (t : Graph). reference_row net t to ≡ []) (sym is)
    (row_makes_nothing net support.table plan (standing_fits net plan support stands) (standing_sound net plan support stands) (subst (IsFor net) is fits) (subst IsGraph is sound) to
    (λ from went. still from (ap (λ (t : Graph). goes t from to) is ∙ went)))
