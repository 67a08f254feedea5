-- What a round leaves in a table: what it then has is derivable in its row, and what is derivable in a row it then has at a weight that
-- is no greater.
use Rattle.std.proofs.Common.{◌≡◌, ◌<◌, ℤ, ◌⊎◌, List, [], map, ap, sym, subst, ◌∙◌, inl, inr, refl}
use Rattle.std.specs.List.{Contains}
use Rattle.std.proofs.lemmas.List.Elements.{All-contains}
use Rattle.net_model.specs.Network.{Plan, IsPlan}
use Rattle.net_model.specs.declared.ids.PointId.{PointId}
use Rattle.net_model.specs.declared.part.Edge.{Edge}
use Rattle.closure_model.specs.Keys.{key_of, edge_of, all_points}
use Rattle.closure_model.specs.ReferenceRow.{reference_row, with_made, IsInRow, of_table}
use Rattle.closure_model.specs.ReferenceRound.{round_made}
use Rattle.closure_model.specs.Tables.{Graph, HasEdge, HasAtMost, IsFor, IsGraph}
use Rattle.closure_model.specs.declared.rows.Made.{Made}
use Rattle.closure_model.proofs.Consequences.{all_points_stand}
use Rattle.closure_model.proofs.Lists.{Contains-none, Contains-map, Contains-map_from, Contains-flat_map, Contains-flat_map_from}
use Rattle.closure_model.proofs.RowDerivable.{in_row_there}
use Rattle.closure_model.proofs.RowLaw.{row_is_least, row_derived, row_result}
use Rattle.closure_model.proofs.TableLemmas.{all_lowered-at_most, all_lowered-has, all_lowered-cases, at_most_from, at_most_gives}
use Rattle.closure_model.proofs.Weights.{le_then}

module _ (net : Plan) (before : Graph) (plan : IsPlan net) (fits : IsFor net before) (sound : IsGraph before) where
  abbrev now : Graph
  now = with_made before (round_made net before)

  -- what the table has after the round is derivable in its row
  pub now_in_row : (edge : Edge) → HasEdge now edge → IsInRow net before edge.to edge
  now_in_row edge has = by (all_lowered-cases before (map (λ (one : Made). one.edge) (round_made net before)) edge has)
    where
      by : Contains (map (λ (one : Made). one.edge) (round_made net before)) edge ⊎ HasEdge before edge → IsInRow net before edge.to edge
      by (inr old) = of_table edge old refl
      by (inl improvements) =
          let (one, inside, is) = Contains-map_from (λ (one : Made). one.edge) (round_made net before) edge improvements in
          let (to, at, made) = Contains-flat_map_from (reference_row net before) (all_points before.shape) one inside in
          let derived : IsInRow net before to edge = subst (IsInRow net before to) is (row_derived net before to plan fits sound one made) in
          subst (λ (p : PointId). IsInRow net before p edge) (sym (in_row_there net before to plan fits sound edge derived).ends) derived

  -- and what is derivable in a row it has at a weight that is no greater
  pub row_met : (to : PointId) (edge : Edge) → IsInRow net before to edge → HasAtMost now edge
  row_met to edge derived =
      let there = in_row_there net before to plan fits sound edge derived in
      let inside : to.0 < before.shape.points = subst (λ (p : PointId). p.0 < before.shape.points) there.ends there.key.to_point in
      let met : HasAtMost (with_made before (reference_row net before to)) edge = (row_is_least net before to plan fits sound).least edge derived in
      let (weight, is, less) = at_most_gives (with_made before (reference_row net before to)) edge met in
      let (lower, holds, under) = at_most_gives now (edge_of (key_of edge) weight) (by inside weight (all_lowered-cases before (map (λ (one : Made). one.edge) (reference_row net before to)) (edge_of (key_of edge) weight) is)) in
      at_most_from now edge lower holds (le_then lower weight edge.weight under less)
    where
      by : to.0 < before.shape.points → (weight : ℤ) → Contains (map (λ (one : Made). one.edge) (reference_row net before to)) (edge_of (key_of edge) weight) ⊎ HasEdge before (edge_of (key_of edge) weight)
          → HasAtMost now (edge_of (key_of edge) weight)
      by inside weight (inr old) = all_lowered-at_most before (map (λ (one : Made). one.edge) (round_made net before)) (edge_of (key_of edge) weight) old
      by inside weight (inl improvements) =
          let (one, made, is) = Contains-map_from (λ (one : Made). one.edge) (reference_row net before to) (edge_of (key_of edge) weight) improvements in
          let among : Contains (round_made net before) one = Contains-flat_map (reference_row net before) (all_points before.shape) to one (all_points_stand before.shape to inside) made in
          all_lowered-has before (map (λ (one : Made). one.edge) (round_made net before)) (edge_of (key_of edge) weight)
          (subst (Contains (map (λ (one : Made). one.edge) (round_made net before))) is (Contains-map (λ (one : Made). one.edge) (round_made net before) one among))

  -- if nothing improved in the row of a point, what ends in it was there before
  pub was_there : (edge : Edge) → HasEdge now edge → reference_row net before edge.to ≡ [] → HasEdge before edge
  was_there edge has nothing = by (all_lowered-cases before (map (λ (one : Made). one.edge) (round_made net before)) edge has)
    where
      by : Contains (map (λ (one : Made). one.edge) (round_made net before)) edge ⊎ HasEdge before edge → HasEdge before edge
      by (inr old) = old
      by (inl improvements) =
          let (one, inside, is) = Contains-map_from (λ (one : Made). one.edge) (round_made net before) edge improvements in
          let (to, at, made) = Contains-flat_map_from (reference_row net before) (all_points before.shape) one inside in
          let ends : to ≡ edge.to = sym (All-contains (λ (m : Made). m.edge.to ≡ to) (reference_row net before to) one (row_result net before to plan fits sound).ends made) ∙ ap (λ (e : Edge). e.to) is in
          let empty : Contains {X = Made} [] one = subst (λ (list : List Made). Contains list one) (ap (reference_row net before) ends ∙ nothing) made in
          absurd (Contains-none one empty)
