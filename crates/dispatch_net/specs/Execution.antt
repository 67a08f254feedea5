-- The execution of a dispatchable network: an executable point comes at the first moment that meets its lower bounds and waits
-- (waits: Morris, Muscettola and Vidal 2001; both in this project's form).
use Rattle.std.specs.Prelude.{◌≡◌, ℕ, ℤ, ◌+◌, ◌≤◌, min, unsigned_abs, List, ◌++◌, length, map, Some, slice_get}
use Rattle.std.specs.List.{All}
use Rattle.std.specs.Option.{option_map_or}
use Rattle.net_model.specs.Network.{Plan, IsExecutable}
use Rattle.net_model.specs.Edges.{IsLinkOf}
use Rattle.net_model.specs.declared.ids.PointId.{PointId}
use Rattle.net_model.specs.declared.ids.LinkId.{LinkId}
use Rattle.net_model.specs.declared.part.Link.{Link}
use Rattle.strategy_model.specs.Situations.{IsSituation, Satisfies, moment_in}
use Rattle.dispatch_net.specs.declared.dispatch.Conditions.{Conditions}
use Rattle.dispatch_net.specs.Dispatchable.{conditions_at}

-- the moment that a lower bound requires: n moments after its point
abbrev pub required_by_bound : List ℕ → PointId × ℤ → ℕ
required_by_bound schedule bound = moment_in schedule bound.0 + unsigned_abs bound.1

-- the moment that a wait requires: that of the contingent point of its link, or n moments after the activation point, whichever comes first
abbrev pub required_by_wait : Plan → List ℕ → LinkId × ℤ → ℕ
required_by_wait net schedule wait =
    option_map_or (λ (link : Link). min (moment_in schedule link.to) (moment_in schedule link.from + unsigned_abs wait.1)) (slice_get net.links wait.0.0) 0

-- the moments that the lower bounds and waits of a point require
abbrev pub required_moments : Plan → List ℕ → Conditions → List ℕ
required_moments net schedule conditions = map (required_by_bound schedule) conditions.lower_bounds ++ map (required_by_wait net schedule) conditions.waits

-- a moment is the first that is before none of these
pub record IsFirstNotBefore (required : List ℕ) (moment : ℕ) : Type 0 where
  pub meets : All (λ m. m ≤ moment) required
  pub first : (other : ℕ) → All (λ m. m ≤ other) required → moment ≤ other

-- the execution in a situation: an executable point comes at the first moment that meets all its lower bounds and waits, a
-- contingent point its link's duration after its activation point
pub record IsExecutedBy (net : Plan) (dispatch : List Conditions) (situation schedule : List ℕ) : Type 0 where
  pub complete : length schedule ≡ length net.points
  pub executable : (point : PointId) → IsExecutable net point → IsFirstNotBefore (required_moments net schedule (conditions_at dispatch point))
      (moment_in schedule point)
  pub contingent : (name : LinkId) (link : Link) (duration : ℕ) → IsLinkOf net name link → slice_get situation name.0 ≡ Some duration
      → moment_in schedule link.to ≡ moment_in schedule link.from + duration

-- in every situation there is an execution, and each satisfies the network
pub record ExecutionSatisfies (net : Plan) (dispatch : List Conditions) : Type 0 where
  pub executed : (situation : List ℕ) → IsSituation net situation → (schedule : List ℕ) × IsExecutedBy net dispatch situation schedule
  pub satisfies : (situation schedule : List ℕ) → IsSituation net situation → IsExecutedBy net dispatch situation schedule → Satisfies net schedule
