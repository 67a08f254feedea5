-- Which negative loop is found, if edges have several: the first loop on a walk of one edge more than there are points that is the shortest by weight. Edges
-- have a negative loop exactly if some such walk is shorter than each of fewer edges (Bellman 1958). Between walks that are equally short the order of the
-- edges decides (this project's own choice).
use Rattle.std.specs.Prelude.{◌≡◌, ◌≢◌, ◌⊎◌, ◌<◌, ◌≤◌, ◌≤ℤ◌, ◌<ℤ◌, ◌++◌, ℕ, suc, ℤ, List, [], ◌∷◌, map, length, take, drop}
use Rattle.std.specs.List.{AllByRecursion, AllPairs}
use Rattle.net_model.specs.declared.ids.PointId.{PointId}
use Rattle.net_model.specs.declared.part.Edge.{Edge}
use Rattle.strategy_model.specs.Edges.{IsWalk, total}
use Rattle.earliest_times.specs.Rounds.{edge_at_place}
use Rattle.earliest_times.specs.Least.{begins, AreLeast, IsLowestAt, IsLoopFromLowest}
use Rattle.earliest_times.specs.declared.least.MomentsOrLoop.{MomentsOrLoop}
use Rattle.earliest_times.specs.declared.least.MomentsOrLoop.TheVariants.{Moments, Loop}

-- places of edges that are a walk from a point, at most so many
pub record IsWalkFrom (edges : List Edge) (point : PointId) (most : ℕ) (places : List ℕ) : Type 0 where
  pub within : AllByRecursion (λ place. place < length edges) places
  pub few : length places ≤ most
  pub to : PointId
  pub walk : IsWalk point (map (edge_at_place edges) places) to

-- the length of a walk by weight: the sum of its edges' weights
abbrev pub total_at : List Edge → List ℕ → ℤ
total_at edges places = total (map (edge_at_place edges) places)

-- a shortest walk from a point, by weight, of those of at most so many edges
pub record IsShortestWalk (edges : List Edge) (point : PointId) (most : ℕ) (places : List ℕ) : Type 0 where
  pub walks : IsWalkFrom edges point most places
  pub least : (other : List ℕ) → IsWalkFrom edges point most other → total_at edges places ≤ℤ total_at edges other

-- a walk from a point, of one edge more than so many or fewer, that is shorter by weight than each of at most so many edges
pub record IsShorterThanFewer (edges : List Edge) (point : PointId) (most : ℕ) (places : List ℕ) : Type 0 where
  pub walks : IsWalkFrom edges point (suc most) places
  pub shorter : (fewer : List ℕ) → IsWalkFrom edges point most fewer → total_at edges places <ℤ total_at edges fewer

-- places are not after others in order: at the first edge where they differ theirs is earlier, if they differ
abbrev pub IsNotAfter : (one other : List ℕ) → Type 0
IsNotAfter [] other = Unit {0}
IsNotAfter (x ∷ one) [] = ⊥
IsNotAfter (x ∷ one) (y ∷ other) = (x < y) ⊎ ((x ≡ y) × IsNotAfter one other)

-- A shortest walk of one edge more than there are points. It starts at the lowest point from which such a walk is shorter than each of fewer edges, and of the
-- shortest from there it is the first in order.
pub record IsFirstShortestWalk (points : ℕ) (edges : List Edge) (walk : List ℕ) : Type 0 where
  pub start : PointId
  pub longer : IsShorterThanFewer edges start points walk
  pub lowest : (point : PointId) (other : List ℕ) → IsShorterThanFewer edges point points other → start.0 ≤ point.0
  pub shortest : IsShortestWalk edges start (suc points) walk
  pub first : (other : List ℕ) → IsShortestWalk edges start (suc points) other → IsNotAfter walk other

-- the first loop on a walk: a part that ends where it begins, and no point comes twice up to its last edge
pub record IsFirstLoopOn (edges : List Edge) (walk loop : List ℕ) : Type 0 where
  pub before : List ℕ
  pub after : List ℕ
  pub parts : walk ≡ before ++ (loop ++ after)
  pub point : PointId
  pub closed : IsWalk point (map (edge_at_place edges) loop) point
  pub some : 0 < length loop
  pub once : AllPairs (λ one other. begins edges one ≢ begins edges other) (before ++ loop)

-- a loop, listed from its lowest point on
pub record IsTurnedToLowest (edges : List Edge) (loop turned : List ℕ) : Type 0 where
  pub at : ℕ
  pub lowest : IsLowestAt edges loop at
  pub is : turned ≡ drop at loop ++ take at loop

-- the first loop on the first shortest walk
pub record IsLoopOfFirstWalk (points : ℕ) (edges : List Edge) (loop : List ℕ) : Type 0 where
  pub walk : List ℕ
  pub is : IsFirstShortestWalk points edges walk
  pub first : IsFirstLoopOn edges walk loop

-- the negative loop that is found of edges between so many points
pub record IsFirstLoop (points : ℕ) (edges : List Edge) (places : List ℕ) : Type 0 where
  pub from_lowest : IsLoopFromLowest edges places
  pub loop : List ℕ
  pub first : IsLoopOfFirstWalk points edges loop
  pub turned : IsTurnedToLowest edges loop places

-- what is found of edges
abbrev pub FindsLeast : ℕ → List Edge → MomentsOrLoop → Type 0
FindsLeast points edges (Moments moments) = AreLeast points edges moments
FindsLeast points edges (Loop places) = IsFirstLoop points edges places

-- edges between so many points have one first loop at most
abbrev pub FirstLoopIsOne : Type 0
FirstLoopIsOne = (points : ℕ) (edges : List Edge) (one other : List ℕ) → IsFirstLoop points edges one → IsFirstLoop points edges other → one ≡ other
