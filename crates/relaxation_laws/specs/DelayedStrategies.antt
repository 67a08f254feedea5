-- Dynamic execution strategies of a network with a delay (Morris, Muscettola and Vidal 2001, as repaired by Hunsberger 2009; this project's own choice is that
-- a completion is seen the delay after it happened).
use Rattle.std.specs.Prelude.{◌≡◌, ℕ, ◌+◌, List, Some, length, slice_get}
use Rattle.net_model.specs.Network.{Plan}
use Rattle.net_model.specs.Edges.{IsLinkOf}
use Rattle.net_model.specs.declared.ids.LinkId.{LinkId}
use Rattle.net_model.specs.declared.part.Link.{Link}
use Rattle.strategy_model.specs.Situations.{IsSituation, moment_in}
use Rattle.strategy_model.specs.Dispatch.{AgreeUpTo, SameExecutions}

-- up to a moment two schedules show the same completions
abbrev pub SameShown : Plan → ℕ → List ℕ → List ℕ → Type 0
SameShown net t first second =
    (name : LinkId) (link : Link) → IsLinkOf net name link
    → AgreeUpTo t (moment_in first link.to + net.delay) (moment_in second link.to + net.delay)

-- An execution strategy gives a schedule for every situation. It is dynamic under the delay of a network if contingent points come their durations after their
-- activation points, and what is executed up to a moment depends on the completions that are shown up to it alone.
pub record IsDynamicAsShown (net : Plan) (schedule_of : List ℕ → List ℕ) : Type 0 where
  pub complete : (situation : List ℕ) → IsSituation net situation → length (schedule_of situation) ≡ length net.points
  pub lasting : (situation : List ℕ) (name : LinkId) (link : Link) (duration : ℕ) → IsSituation net situation → IsLinkOf net name link
      → slice_get situation name.0 ≡ Some duration
      → moment_in (schedule_of situation) link.to ≡ moment_in (schedule_of situation) link.from + duration
  pub seen_alone : (first second : List ℕ) (t : ℕ) → IsSituation net first → IsSituation net second
      → SameShown net t (schedule_of first) (schedule_of second) → SameExecutions net t (schedule_of first) (schedule_of second)
