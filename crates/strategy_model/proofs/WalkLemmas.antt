-- Walks: what their total says of a schedule.
use Rattle.std.proofs.Common.{◌≡◌, ℕ, pos, ◌-ℤ◌, ◌≤ℤ◌, List, [], ◌∷◌, ap, arith}
use Rattle.std.specs.List.{AllByRecursion}
use Rattle.std.proofs.lemmas.Int.{ints}
use Rattle.net_model.specs.declared.ids.PointId.{PointId}
use Rattle.net_model.specs.declared.part.Edge.{Edge}
use Rattle.strategy_model.specs.Situations.{moment_in}
use Rattle.strategy_model.specs.Edges.{HoldsIn, IsWalk, total, IsNegativeLoop}

-- in a schedule that keeps the edges of a walk, its end comes at most its total after its beginning
pub walk_total : (schedule : List ℕ) (from : PointId) (edges : List Edge) (to : PointId) → IsWalk from edges to → AllByRecursion (HoldsIn schedule) edges → (pos (moment_in schedule to) -ℤ pos (moment_in schedule from)) ≤ℤ total edges
walk_total schedule from [] to walk holds =
    let same : moment_in schedule from ≡ moment_in schedule to = ap (moment_in schedule) walk in
    omega (arith, ints)
walk_total schedule from (edge ∷ edges) to walk holds =
    let begins : moment_in schedule edge.from ≡ moment_in schedule from = ap (moment_in schedule) walk.0 in
    let rest = walk_total schedule edge.to edges to walk.1 holds.1 in
    let first = holds.0 in
    omega (arith, ints, rest, first)

-- no schedule keeps every edge of a closed walk of negative total
pub loops_exclude : (schedule : List ℕ) (edges : List Edge) → IsNegativeLoop edges → AllByRecursion (HoldsIn schedule) edges → ⊥
loops_exclude schedule edges loop holds =
    let around = walk_total schedule loop.0 edges loop.0 loop.1 holds in
    let negative = loop.2 in
    omega (arith, ints, around, negative)
