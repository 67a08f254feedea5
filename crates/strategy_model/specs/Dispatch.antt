-- Closed and forward closed lists of edges, their orders, and the schedule of lower bounds and waits that they give (Morris and Muscettola
-- 2005; the order of the negative ordinary edges: Morris 2014; both in this project's form).
use Rattle.std.specs.Prelude.{◌≡◌, ◌⊎◌, ℕ, ◌+◌, ◌<◌, ◌≤◌, ◌≤ℤ◌, min, unsigned_abs, IsTrue, List, length, Some, slice_get}
use Rattle.std.specs.List.{All, Contains, IsDistinct}
use Rattle.std.specs.Option.{option_map_or}
use Rattle.net_model.specs.Network.{Plan, IsPoint, IsExecutable}
use Rattle.net_model.specs.Edges.{IsEdge, IsLinkOf}
use Rattle.net_model.specs.Rules.{Follows, is_negative}
use Rattle.net_model.specs.ForwardRules.{FollowsForward}
use Rattle.net_model.specs.declared.ids.PointId.{PointId}
use Rattle.net_model.specs.declared.ids.LinkId.{LinkId}
use Rattle.net_model.specs.declared.part.Edge.{Edge}
use Rattle.net_model.specs.declared.part.Link.{Link}
use Rattle.strategy_model.specs.Situations.{IsSituation, moment_in}
use Rattle.strategy_model.specs.Plays.{play, same_point}
use Rattle.strategy_model.specs.Edges.{IsNegativeOrdinary}
use Rattle.strategy_model.specs.declared.tree.Tree.{Tree}

-- an edge stands in a list: between the same points and with the same label, with its weight or less
pub record Stands (edges : List Edge) (edge : Edge) : Type 0 where
  pub entry : Edge
  pub among : Contains edges entry
  pub from : entry.from ≡ edge.from
  pub to : entry.to ≡ edge.to
  pub label : entry.label ≡ edge.label
  pub at_most : entry.weight ≤ℤ edge.weight

-- a closed list of edges of a network: in it stand the edges of bounds and links and whatever the rules give from it
pub record IsClosedList (net : Plan) (edges : List Edge) : Type 0 where
  pub edges_sound : All (IsEdge net) edges
  pub closed : (edge : Edge) → Follows net edges edge → Stands edges edge

-- a forward closed list of edges of a network: in it stand the edges of bounds and links and whatever follows forward from it
pub record IsForwardClosedList (net : Plan) (edges : List Edge) : Type 0 where
  pub edges_sound : All (IsEdge net) edges
  pub closed : (edge : Edge) → FollowsForward net edges edge → Stands edges edge

-- an order of the points, each once, in which every negative ordinary edge goes from a later point to an earlier one
pub record IsOrder (net : Plan) (edges : List Edge) (order : List PointId) : Type 0 where
  pub complete : (point : PointId) → IsPoint net point → Contains order point
  pub once : IsDistinct same_point order
  pub descends : (edge : Edge) (later earlier : ℕ) → Contains edges edge → IsNegativeOrdinary edge → slice_get order later ≡ Some edge.from
      → slice_get order earlier ≡ Some edge.to → earlier < later

-- n moments after the point to which an edge of -n goes
abbrev pub moment_after_edge : List ℕ → Edge → ℕ
moment_after_edge schedule edge = moment_in schedule edge.to + unsigned_abs edge.weight

-- the moment of the contingent point of a link
abbrev pub completion_in : Plan → List ℕ → LinkId → ℕ
completion_in net schedule label = option_map_or (λ link. moment_in schedule link.to) (slice_get net.links label.0) 0

-- the moment up to which a negative edge holds its first point back: a lower bound X to Y of -n, up to n after Y; a wait X
-- to A of -n labelled by the link of C, up to the lesser of C and n after A
abbrev pub release_moment : Plan → List ℕ → Edge → ℕ
release_moment net schedule edge =
    option_map_or (λ label. min (completion_in net schedule label) (moment_after_edge schedule edge)) edge.label (moment_after_edge schedule edge)

-- a negative edge of the list that begins in the point
pub record HoldsBack (edges : List Edge) (point : PointId) (edge : Edge) : Type 0 where
  pub among : Contains edges edge
  pub begins : edge.from ≡ point
  pub negative : IsTrue (is_negative edge)

-- a point comes at the greatest of 0 and the moments up to which edges hold it back
pub record ComesAtOnce (net : Plan) (edges : List Edge) (schedule : List ℕ) (point : PointId) : Type 0 where
  pub not_before : (edge : Edge) → HoldsBack edges point edge → release_moment net schedule edge ≤ moment_in schedule point
  pub reached : (moment_in schedule point ≡ 0) ⊎ ((edge : Edge) × HoldsBack edges point edge × (release_moment net schedule edge ≡ moment_in schedule point))

-- the schedule of lower bounds and waits in a situation: an executable point comes as soon as they let it, a contingent
-- point its link's duration after its activation point
pub record IsDispatched (net : Plan) (edges : List Edge) (situation schedule : List ℕ) : Type 0 where
  pub complete : length schedule ≡ length net.points
  pub executable : (point : PointId) → IsExecutable net point → ComesAtOnce net edges schedule point
  pub contingent : (name : LinkId) (link : Link) (duration : ℕ) → IsLinkOf net name link → slice_get situation name.0 ≡ Some duration
      → moment_in schedule link.to ≡ moment_in schedule link.from + duration

-- a strategy dispatches a network by a list of edges if it plays, in every situation, the schedule of lower bounds and waits
abbrev pub Dispatches : Tree → Plan → List Edge → Type 0
Dispatches strategy net edges =
    (situation : List ℕ) → IsSituation net situation → (schedule : List ℕ) × (play strategy net situation ≡ Some schedule)
    × IsDispatched net edges situation schedule

-- up to a moment two moments agree: if either comes by then, they are one
abbrev pub AgreeUpTo : ℕ → ℕ → ℕ → Type 0
AgreeUpTo t first second = (first ≤ t → first ≡ second) × (second ≤ t → first ≡ second)

-- up to a moment two schedules have the same completions
abbrev pub SameCompletions : Plan → ℕ → List ℕ → List ℕ → Type 0
SameCompletions net t first second =
    (name : LinkId) (link : Link) → IsLinkOf net name link → AgreeUpTo t (moment_in first link.to) (moment_in second link.to)

-- up to a moment they have the same executions
abbrev pub SameExecutions : Plan → ℕ → List ℕ → List ℕ → Type 0
SameExecutions net t first second =
    (point : PointId) → IsExecutable net point → AgreeUpTo t (moment_in first point) (moment_in second point)

-- An execution strategy gives a schedule for every situation. It is dynamic if contingent points come their durations after their
-- activation points, and what is executed up to a moment depends on what is completed up to it alone (Morris, Muscettola and Vidal 2001, as
-- repaired by Hunsberger 2009).
pub record IsDynamic (net : Plan) (schedule_of : List ℕ → List ℕ) : Type 0 where
  pub complete : (situation : List ℕ) → IsSituation net situation → length (schedule_of situation) ≡ length net.points
  pub lasting : (situation : List ℕ) (name : LinkId) (link : Link) (duration : ℕ) → IsSituation net situation → IsLinkOf net name link
      → slice_get situation name.0 ≡ Some duration
      → moment_in (schedule_of situation) link.to ≡ moment_in (schedule_of situation) link.from + duration
  pub seen_alone : (first second : List ℕ) (t : ℕ) → IsSituation net first → IsSituation net second
      → SameCompletions net t (schedule_of first) (schedule_of second) → SameExecutions net t (schedule_of first) (schedule_of second)
