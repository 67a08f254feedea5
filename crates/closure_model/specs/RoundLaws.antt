-- What holds of the reference rounds: which rows a round leaves as they are, that rounds end, how soon, and how.
use Rattle.std.specs.Prelude.{◌≡◌, ◌≢◌, ◌<◌, ◌≤◌, ◌<ℤ◌, ℕ, suc, pos, List, [], length, true}
use Rattle.std.specs.List.{Contains}
use Rattle.net_model.specs.Network.{Plan, IsPlan}
use Rattle.net_model.specs.declared.ids.PointId.{PointId}
use Rattle.net_model.specs.declared.part.Edge.{Edge}
use Rattle.closure_model.specs.Closure.{IsClosure}
use Rattle.closure_model.specs.Derivations.{Support, StandsOn, base_support}
use Rattle.closure_model.specs.Orders.{goes, placed_points, IsOrder}
use Rattle.closure_model.specs.ReferenceRow.{reference_row}
use Rattle.closure_model.specs.ReferenceRound.{after_round}
use Rattle.closure_model.specs.ReferenceRounds.{Ending, RoundsEnd, closed}
use Rattle.closure_model.specs.Tables.{Graph, HasEdge}

-- After a round the row of a target makes nothing if nothing improved in that round in the row of any point from which a negative ordinary
-- edge now goes to the target.
abbrev pub RowsNeedImprovedRows : Type 0
RowsNeedImprovedRows =
    (net : Plan) (support : Support) (to : PointId) → IsPlan net → StandsOn net support
    → ((from : PointId) → goes (after_round net support).table from to ≡ true → reference_row net support.table from ≡ [])
    → reference_row net (after_round net support).table to ≡ []

-- a target is stale after some points: a negative edge, labelled or not, goes to it from one of them
abbrev pub IsStale : Graph → List PointId → PointId → Type 0
IsStale table points to = (edge : Edge) × HasEdge table edge × (edge.to ≡ to) × (edge.weight <ℤ pos 0) × Contains points edge.from

-- A row that is not stale after the points in whose rows something improved in a round makes nothing in the next one.
abbrev pub UnstaleRowsStay : Type 0
UnstaleRowsStay =
    (net : Plan) (support : Support) (improvements : List PointId) (to : PointId) → IsPlan net → StandsOn net support
    → ((from : PointId) → from.0 < length net.points → reference_row net support.table from ≢ [] → Contains improvements from)
    → ¬ IsStale (after_round net support).table improvements to → reference_row net (after_round net support).table to ≡ []

-- Rounds are at most one more than the points.
abbrev pub RoundsAreFew : Type 0
RoundsAreFew = (net : Plan) (start after : Support) (rounds : ℕ) (ending : Ending) → IsPlan net → StandsOn net start → RoundsEnd net start rounds after ending
    → rounds ≤ suc (length net.points)

-- how the rounds from what supports a table end
pub record HasEnding (net : Plan) (start : Support) : Type 0 where
  pub rounds : ℕ
  pub after : Support
  pub ending : Ending
  pub ends : RoundsEnd net start rounds after ending

-- Rounds end.
abbrev pub RoundsAlwaysEnd : Type 0
RoundsAlwaysEnd = (net : Plan) (start : Support) → IsPlan net → StandsOn net start → HasEnding net start

-- the rounds from the base nodes and the base table of a network close, with a table and an order
pub record RoundsCloseWith (net : Plan) (table : Graph) (order : List PointId) : Type 0 where
  pub rounds : ℕ
  pub after : Support
  pub ends : RoundsEnd net (base_support net) rounds after (closed order)
  pub table_is : after.table ≡ table

-- If the closure of a network has an order, the rounds from its base close with the closure and with the order that they seek.
abbrev pub ClosuresAreOfRounds : Type 0
ClosuresAreOfRounds = (net : Plan) (table : Graph) (order : List PointId) → IsPlan net → IsClosure net table → IsOrder table order
    → RoundsCloseWith net table (placed_points table)
