-- The lower bounds and waits that negative edges give the points in which they begin.
use Rattle.std.specs.Prelude.{◌≡◌, ◌==◌, ◌<◌, ℕ, ℤ, List, ◌++◌, [], length, Option, Some, None, is_none, if◌then◌else◌}
use Rattle.std.specs.List.{cons_option, filter_map}
use Rattle.std.specs.Option.{option_and_then}
use Rattle.net_model.specs.declared.ids.PointId.{PointId}
use Rattle.net_model.specs.declared.ids.LinkId.{LinkId}
use Rattle.net_model.specs.declared.part.Edge.{Edge}
use Rattle.dispatch_net.specs.declared.dispatch.Conditions.{Conditions}
use Rattle.dispatch_net.specs.Dispatchable.{with_moments, conditions_at}

-- the lower bound that an edge gives the point in which it begins, if it is ordinary and of negative weight
abbrev pub bound_of : Edge → Option (PointId × ℤ)
bound_of edge = if is_none edge.label then with_moments edge.to (Some edge.weight) else None

-- the wait that it gives that point, if it is labelled and of negative weight
abbrev pub wait_of : Edge → Option (LinkId × ℤ)
wait_of edge = option_and_then (λ label. with_moments label (Some edge.weight)) edge.label

-- the lists of a point with what one edge more gives
abbrev pub with_edge : Edge → Conditions → Conditions
with_edge edge conditions = record {
  lower_bounds = conditions.lower_bounds ++ cons_option (bound_of edge) [];
  waits = conditions.waits ++ cons_option (wait_of edge) [];
}

-- what the edges that begin in a point give it, in the order of the edges
abbrev pub conditions_from : List Edge → PointId → Conditions
conditions_from edges point = record {
  lower_bounds = filter_map (λ edge. if edge.from.0 == point.0 then bound_of edge else None) edges;
  waits = filter_map (λ edge. if edge.from.0 == point.0 then wait_of edge else None) edges;
}

-- lists are those that edges give each of so many points
pub record AreOutgoing (points : ℕ) (edges : List Edge) (lists : List Conditions) : Type 0 where
  pub count : length lists ≡ points
  pub each : (point : PointId) → point.0 < points → conditions_at lists point ≡ conditions_from edges point
