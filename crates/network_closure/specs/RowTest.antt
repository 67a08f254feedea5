-- The test of a table row by row: which edges it saturates with every edge before them, and which go by a negative edge, so that this follows.
use Rattle.std.specs.Prelude.{◌≡◌, ◌<◌, ◌+◌, ◌%◌, ◌⊎◌, ℕ, ℤ, pos, ◌<ℤ◌, ◌≤ℤ◌, Bool, true, false, List, length, map, Option, None, Some, Result, Ok, slice_index_or}
use Rattle.std.specs.declared.alloc.AllocError.{AllocError}
use Rattle.std.specs.List.{All, Contains, range_with_len}
use Rattle.net_model.specs.Network.{Plan}
use Rattle.net_model.specs.declared.ids.LinkId.{LinkId}
use Rattle.net_model.specs.declared.ids.PointId.{PointId}
use Rattle.net_model.specs.declared.part.Edge.{Edge}
use Rattle.closure_model.specs.Tables.{Graph, HasEdge}
use Rattle.loop_finder.specs.KeptOrders.{GoesAlong}
use Rattle.network_closure.specs.Saturation.{SaturatesRemoval, SaturatesOverLinks, SaturatesFirsts}

-- points in a sequence, each of them at least once; every edge of a table goes along it, if it is said to be an order
pub record IsSequence (table : Graph) (points : List PointId) (is_order : Bool) : Type 0 where
  pub whole : (point : PointId) → point.0 < table.shape.points → Contains points point
  pub within : All (λ point. point.0 < table.shape.points) points
  pub ordered : is_order ≡ true → (edge : Edge) → HasEdge table edge → GoesAlong points edge

-- an edge goes by a negative one: that leads from where the edge begins to where another edge of the table begins, which ends where it does, has its label, and
-- its weight or less
pub record GoesBy (table : Graph) (edge : Edge) : Type 0 where
  pub by : PointId
  pub first : ℤ
  pub next : ℤ
  pub has_first : HasEdge table (record { from = edge.from; to = by; label = None; weight = first })
  pub negative : first <ℤ pos 0
  pub has_next : HasEdge table (record { from = by; to = edge.to; label = edge.label; weight = next })
  pub no_more : next ≤ℤ edge.weight

-- the edge of a table of a source, a target and a label goes by a negative one
abbrev pub GoesByFrom : Graph → (from : PointId) → (to : PointId) → Option LinkId → Type 0
GoesByFrom table from to label = (edge : Edge) → HasEdge table edge → edge.from ≡ from → edge.to ≡ to → edge.label ≡ label → GoesBy table edge

-- marks, one for each point: from a marked one the edge of a target and a label goes by a negative one
pub record AreCovered (net : Plan) (table : Graph) (to : PointId) (label : Option LinkId) (covered : List Bool) : Type 0 where
  pub each_point : length covered ≡ length net.points
  pub goes_by : (k : ℕ) → slice_index_or covered k false ≡ true → GoesByFrom table (record { 0 = k }) to label

-- a table saturates an edge with every edge of the table before it; or the points have an order, and the edge goes by a negative one
abbrev pub SaturatesBefore : Bool → Graph → Edge → Type 0
SaturatesBefore is_order table edge = SaturatesFirsts table edge ⊎ ((is_order ≡ true) × GoesBy table edge)

-- a table saturates an edge by the removal of its label, over links, and so with every edge before it
pub record SaturatesUnlessBy (net : Plan) (is_order : Bool) (table : Graph) (edge : Edge) : Type 0 where
  pub removal : SaturatesRemoval net table edge
  pub over_links : SaturatesOverLinks net table edge
  pub firsts : SaturatesBefore is_order table edge

-- so it does its edge of a source, a target and a label
abbrev pub SaturatesAt : Plan → Bool → Graph → (from : PointId) → (to : PointId) → Option LinkId → Type 0
SaturatesAt net is_order table from to label =
    (edge : Edge) → HasEdge table edge → edge.from ≡ from → edge.to ≡ to → edge.label ≡ label → SaturatesUnlessBy net is_order table edge

-- and its edges of a target and a label
abbrev pub SaturatesInto : Plan → Bool → Graph → (to : PointId) → Option LinkId → Type 0
SaturatesInto net is_order table to label = (edge : Edge) → HasEdge table edge → edge.to ≡ to → edge.label ≡ label → SaturatesUnlessBy net is_order table edge

-- and those of a row: the ordinary edges into the point of that number, or, after the points, the edges labelled by the link of the number that is left
pub record SaturatesRow (net : Plan) (is_order : Bool) (table : Graph) (row : ℕ) : Type 0 where
  pub ordinary : row < length net.points → SaturatesInto net is_order table (record { 0 = row }) None
  pub labelled : (link : LinkId) → row ≡ length net.points + link.0 → (edge : Edge) → HasEdge table edge → edge.label ≡ Some link
      → SaturatesUnlessBy net is_order table edge

-- the same for one share of all rows: those whose numbers leave that remainder
abbrev pub SaturatesShare : Plan → Bool → Graph → (share shares : ℕ) → Type 0
SaturatesShare net is_order table share shares =
    (row : ℕ) → row < length net.points + length net.links → row % shares ≡ share → SaturatesRow net is_order table row

-- the first edge that shares found, or none if none did
abbrev pub IsFirstFound : List (Result (Option Edge) AllocError) → Option Edge → Type 0
IsFirstFound found None = All (λ one. one ≡ Ok None) found
IsFirstFound found (Some edge) = Contains found (Ok (Some edge))

-- so many points, by their numbers
abbrev pub points_below : ℕ → List PointId
points_below count = map (λ k. record { 0 = k }) (range_with_len 0 count)
