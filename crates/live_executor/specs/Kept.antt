-- What an executor keeps.
use Rattle.std.specs.Prelude.{◌≡◌, ℕ, ◌≤◌, ◌+◌, ◌*◌, length, List, Option, Some, None, Result, Ok, Err}
use Rattle.std.specs.Option.{option_map_or}
use Rattle.net_model.specs.Limits.{most_size}
use Rattle.net_model.specs.declared.ids.PointId.{PointId}
use Rattle.execution_model.specs.Feeds.{Execution, taken, after_feed}
use Rattle.execution_model.specs.declared.feed_answers.Act.{Act}
use Rattle.execution_model.specs.declared.feed_answers.Why.{Why}
use Rattle.live_executor.specs.ExecutionStates.{ExecutionSoFar, StandsAt, points_left}
use Rattle.live_executor.specs.Limits.{AreBefore, end_of_time}
use Rattle.live_executor.specs.Sound.{KeptNetwork}

-- the moment after the last one
abbrev pub moment_after : Option ℕ → ℕ
moment_after last = option_map_or (λ l. l + 1) last 0

-- an execution continues from a moment, between calls: no moment so far is as late, and the time that the points left may take is before the end of time
pub record ExecutionGoesOn (network : KeptNetwork) (from : ℕ) (state : ExecutionSoFar) : Type 0 where
  pub stands : StandsAt network from state
  pub before : AreBefore from state.moments
  pub time_left : from + most_size * points_left state.moments ≤ end_of_time

-- what an executor keeps: a moment for each point, or none, and acts, with places for one of each point; the last moment fed is before the end of time, and the
-- execution continues if no feed was refused
pub record IsKeptExecution (network : KeptNetwork) (state : ExecutionSoFar) (acts : List Act) (places : ℕ) (last : Option ℕ)
    (refused : Option Why) : Type 0 where
  pub count : length state.moments ≡ length network.made
  pub few : length acts ≤ length state.moments
  pub reserved : length state.moments ≤ places
  pub soon : moment_after last ≤ end_of_time
  pub goes_on : refused ≡ None → ExecutionGoesOn network (moment_after last) state

-- a feed of an execution that is not over: taken, or refused
abbrev pub IsTaken : Execution → (moment : ℕ) → List PointId → Result (Unit {0}) Why → Execution → Type 0
IsTaken execution moment listed answer after =
    elim (taken execution moment listed) [
      | Ok moments ↦ (answer ≡ Ok tt) × (after ≡ after_feed execution moment moments)
      | Err why ↦ (answer ≡ Err why) × (after ≡ record execution { refused = Some why })
    ]
