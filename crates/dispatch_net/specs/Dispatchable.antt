-- The dispatchable network of a table (waits: Morris, Muscettola and Vidal 2001; the labelled edges that give them: Morris and
-- Muscettola 2005; both in this project's form): by which lower bounds and waits each executable point is executed.
use Rattle.std.specs.Prelude.{◌≡◌, ℕ, ℤ, pos, ◌-ℤ◌, int_lt, List, [], map, Option, Some, None, is_some, if◌then◌else◌}
use Rattle.std.specs.List.{enumerate_from, filter_map, slice_index_or}
use Rattle.std.specs.Option.{option_map, option_and_then}
use Rattle.net_model.specs.Network.{Plan, activation}
use Rattle.net_model.specs.declared.ids.PointId.{PointId}
use Rattle.net_model.specs.declared.ids.LinkId.{LinkId}
use Rattle.net_model.specs.declared.part.Link.{Link}
use Rattle.closure_model.specs.Keys.{ordinary_key, labelled_key, all_points}
use Rattle.closure_model.specs.Tables.{Graph, weight_of, IsFor, HasBase, IsForwardClosed}
use Rattle.closure_model.specs.Orders.{IsOrder}
use Rattle.closure_model.specs.ReferenceRow.{HasWeightsWithin}
use Rattle.dispatch_net.specs.declared.dispatch.Conditions.{Conditions}

-- a network may be dispatched by a table in an order: the table is for the network, is forward closed and has the base edges, its weights lie from -M to M,
-- where M is the greatest size of a number of the network, and the order is one of its points
pub record MayDispatch (net : Plan) (table : Graph) (order : List PointId) : Type 0 where
  pub for_network : IsFor net table
  pub base : HasBase net table
  pub closed : IsForwardClosed net table
  pub within : HasWeightsWithin net table
  pub ordered : IsOrder table order

-- n moments, for a weight -n < 0
abbrev pub moments_of : ℤ → Option ℤ
moments_of weight = if int_lt weight (pos 0) then Some (pos 0 -ℤ weight) else None

-- what a point or a link stands for, if it has a negative weight: itself with the moments
abbrev pub with_moments : {X : Type 0} → X → Option ℤ → Option (X × ℤ)
with_moments other weight = option_map (λ n. (other, n)) (option_and_then moments_of weight)

-- the lower bounds that a table gives a point X, in order of the number of the point Y: n moments after Y, if the ordinary edge X to Y has the weight -n < 0
abbrev pub lower_bounds_in : Graph → PointId → List (PointId × ℤ)
lower_bounds_in table point = filter_map (λ other. with_moments other (weight_of table (ordinary_key point other))) (all_points table.shape)

-- the waits that it gives X, in order of the number of the link from A to C: C or n moments after A, if the edge X to A labelled by the link has the weight -n
-- < 0
abbrev pub waits_in : Graph → PointId → List (LinkId × ℤ)
waits_in table point =
    filter_map (λ (e : ℕ × PointId). with_moments (record { 0 = e.0 }) (weight_of table (labelled_key point e.1 (record { 0 = e.0 }))))
    (enumerate_from 0 table.shape.activations)

-- no lower bounds and no waits
abbrev pub no_conditions : Conditions
no_conditions = record { lower_bounds = []; waits = [] }

-- the lower bounds and waits by which a point is executed: for an executable point those that the table gives it; a contingent point isn't executed
abbrev pub conditions_in : Plan → Graph → PointId → Conditions
conditions_in net table point =
    if is_some (activation net point) then no_conditions
    else record { lower_bounds = lower_bounds_in table point; waits = waits_in table point }

-- the dispatchable network of a table: the lower bounds and waits by which each point is executed, in the order of the points
abbrev pub dispatchable : Plan → Graph → List Conditions
dispatchable net table = map (conditions_in net table) (all_points table.shape)

-- the lower bounds and waits by which a point is executed in a dispatchable network
abbrev pub conditions_at : List Conditions → PointId → Conditions
conditions_at dispatch point = slice_index_or dispatch point.0 no_conditions

-- A dispatchable network as it is stored: the links of its network, the lower bounds and waits of each point as a table gives them, and those that are kept.
-- Executions are defined by what was made.
pub record DispatchLists : Type 0 where
  pub links : List Link
  pub made : List Conditions
  pub kept : List Conditions

-- the dispatchable network that a table gives: nothing of it is left out
pub record IsDispatchBy (net : Plan) (table : Graph) (lists : DispatchLists) : Type 0 where
  pub links : lists.links ≡ net.links
  pub made : lists.made ≡ dispatchable net table
  pub kept : lists.kept ≡ lists.made
