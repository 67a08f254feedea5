-- An order that is kept while edges improve.
use Rattle.std.specs.Prelude.{◌≡◌, ◌==◌, ◌<◌, ◌<ℤ◌, ℕ, pos, List, length, None, slice_index_or}
use Rattle.std.specs.List.{All, position_or_len}
use Rattle.net_model.specs.declared.ids.PointId.{PointId}
use Rattle.net_model.specs.declared.part.Edge.{Edge}
use Rattle.closure_model.specs.Orders.{IsOrder}
use Rattle.closure_model.specs.ReferenceRow.{with_made}
use Rattle.closure_model.specs.Tables.{Graph}
use Rattle.closure_model.specs.declared.rows.Made.{Made}

-- the place of a point in an order, or how many points the order has
abbrev pub place_in_order : List PointId → PointId → ℕ
place_in_order order point = position_or_len (λ other. other.0 == point.0) order

-- an edge goes along an order: if it is ordinary and negative, it goes from a later point to an earlier one
abbrev pub GoesAlong : List PointId → Edge → Type 0
GoesAlong order edge = edge.label ≡ None → edge.weight <ℤ pos 0 → place_in_order order edge.to < place_in_order order edge.from

-- an order stays one while every edge that improves goes along it
abbrev pub OrdersAreKept : Type 0
OrdersAreKept = (table : Graph) (order : List PointId) (made : List Made) → IsOrder table order → All (λ (one : Made). GoesAlong order one.edge) made
    → IsOrder (with_made table made) order

-- the places of the points below a number, and no point above it stands in the order
pub record ArePlaces (order : List PointId) (places : List ℕ) : Type 0 where
  pub each : (k : ℕ) → k < length places → slice_index_or places k 0 ≡ place_in_order order (record { 0 = k })
  pub within : All (λ point. point.0 < length places) order
