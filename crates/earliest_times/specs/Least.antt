-- The least moments that keep edges, or a negative loop of them: shortest paths (Ford 1956, Bellman 1958), and that there are none exactly if a loop is
-- negative.
use Rattle.std.specs.Prelude.{◌≡◌, ◌≢◌, ◌<◌, ◌≤◌, ℕ, List, map, length}
use Rattle.std.specs.List.{All, AllPairs, slice_index_or}
use Rattle.net_model.specs.declared.ids.PointId.{PointId}
use Rattle.net_model.specs.declared.part.Edge.{Edge}
use Rattle.strategy_model.specs.Situations.{moment_in}
use Rattle.strategy_model.specs.Edges.{HoldsIn, IsNegativeLoop}
use Rattle.earliest_times.specs.Rounds.{edge_at_place}

-- moments that keep every edge, one for each point, and no others that keep them have a point sooner
pub record AreLeast (points : ℕ) (edges : List Edge) (moments : List ℕ) : Type 0 where
  pub complete : length moments ≡ points
  pub keep : All (HoldsIn moments) edges
  pub least : (other : List ℕ) → All (HoldsIn other) edges → (point : PointId) → point.0 < points → moment_in moments point ≤ moment_in other point

-- the number of the point in which the edge at a place begins
abbrev pub begins : List Edge → ℕ → ℕ
begins edges place = (edge_at_place edges place).from.0

-- places of edges that are a closed walk of negative total, in which no point comes twice
pub record IsLoop (edges : List Edge) (places : List ℕ) : Type 0 where
  pub within : All (λ place. place < length edges) places
  pub negative : IsNegativeLoop (map (edge_at_place edges) places)
  pub once : AllPairs (λ one other. begins edges one ≢ begins edges other) places

-- of the edges at these places, that of this one begins in the point of least number
pub record IsLowestAt (edges : List Edge) (places : List ℕ) (at : ℕ) : Type 0 where
  pub inside : at < length places
  pub least : (other : ℕ) → other < length places → begins edges (slice_index_or places at 0) ≤ begins edges (slice_index_or places other 0)

-- a loop that begins in its lowest point
pub record IsLoopFromLowest (edges : List Edge) (places : List ℕ) : Type 0 where
  pub loop : IsLoop edges places
  pub lowest : IsLowestAt edges places 0
