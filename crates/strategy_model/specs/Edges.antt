-- Edges of the labelled distance graph (Morris and Muscettola 2005): what they say, when they are true, and walks.
use Rattle.std.specs.Prelude.{◌≡◌, ℕ, ℤ, pos, ◌-ℤ◌, ◌+ℤ◌, ◌≤ℤ◌, ◌<ℤ◌, ◌≢◌, IsTrue, List, [], ◌∷◌, Option, Some, None, slice_get}
use Rattle.std.specs.List.{All, AllByRecursion, Contains}
use Rattle.net_model.specs.Network.{Plan}
use Rattle.net_model.specs.Rules.{is_ordinary, is_negative}
use Rattle.net_model.specs.declared.ids.PointId.{PointId}
use Rattle.net_model.specs.declared.ids.LinkId.{LinkId}
use Rattle.net_model.specs.declared.part.Edge.{Edge}
use Rattle.net_model.specs.declared.part.Link.{Link}
use Rattle.strategy_model.specs.Situations.{IsSituation, moment_in}
use Rattle.strategy_model.specs.Plays.{play}
use Rattle.strategy_model.specs.declared.tree.Tree.{Tree}

-- what an edge says of a schedule: `to - from <= weight`
abbrev pub HoldsIn : List ℕ → Edge → Type 0
HoldsIn schedule edge = (pos (moment_in schedule edge.to) -ℤ pos (moment_in schedule edge.from)) ≤ℤ edge.weight

-- in a situation the link of a label takes its longest duration
abbrev pub TakesLongest : Plan → List ℕ → Option LinkId → Type 0
TakesLongest net situation None = Unit {0}
TakesLongest net situation (Some label) =
    (link : Link) (duration : ℕ) → slice_get net.links label.0 ≡ Some link → slice_get situation label.0 ≡ Some duration → pos duration ≡ link.high

-- An edge is true of a strategy if it holds in its play in every situation, a labelled one if it holds in those in which its link takes its
-- longest duration.
abbrev pub HoldsOf : Plan → Tree → Edge → Type 0
HoldsOf net strategy edge =
    (situation schedule : List ℕ) → IsSituation net situation → TakesLongest net situation edge.label → play strategy net situation ≡ Some schedule
    → HoldsIn schedule edge

-- a walk from a point to a point: edges of which each begins where the one before ended
abbrev pub IsWalk : PointId → List Edge → PointId → Type 0
IsWalk from [] to = from ≡ to
IsWalk from (edge ∷ edges) to = (edge.from ≡ from) × IsWalk edge.to edges to

-- the sum of the weights
abbrev pub total : List Edge → ℤ
total [] = pos 0
total (edge ∷ edges) = edge.weight +ℤ total edges

-- a walk that ends where it began, of negative total
abbrev pub IsNegativeLoop : List Edge → Type 0
IsNegativeLoop edges = (point : PointId) × IsWalk point edges point × (total edges <ℤ pos 0)

-- an ordinary edge of negative weight
abbrev pub IsNegativeOrdinary : Edge → Type 0
IsNegativeOrdinary edge = IsTrue (is_ordinary edge) × IsTrue (is_negative edge)

-- a cycle of negative ordinary edges
abbrev pub IsNegativeCycle : List Edge → Type 0
IsNegativeCycle edges = (point : PointId) × IsWalk point edges point × (edges ≢ []) × AllByRecursion IsNegativeOrdinary edges

-- no cycle of negative ordinary edges of a list
abbrev pub HasNoNegativeCycle : List Edge → Type 0
HasNoNegativeCycle edges = (cycle : List Edge) → All (Contains edges) cycle → IsNegativeCycle cycle → ⊥
