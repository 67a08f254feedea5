-- What the parts of a feed give.
use Rattle.std.specs.Prelude.{◌≡◌, ℕ, ◌+◌, ◌-◌, ◌<◌, ◌≤◌, List, [], ◌++◌, length, Result, Ok, Err, OnOk, OnErr}
use Rattle.std.specs.List.{All}
use Rattle.net_model.specs.Limits.{most_moment}
use Rattle.net_model.specs.declared.ids.PointId.{PointId}
use Rattle.net_model.specs.Moments.{Moments}
use Rattle.execution_model.specs.Execution.{Setting, acts_at, acted, time_runs, acts_while}
use Rattle.execution_model.specs.Feeds.{completions_taken, none_overdue}
use Rattle.execution_model.specs.declared.feed_answers.Act.{Act}
use Rattle.execution_model.specs.declared.feed_answers.Why.{Why}
use Rattle.live_executor.specs.ExecutionStates.{ExecutionSoFar, StandsAt, Reaches}
use Rattle.live_executor.specs.Kept.{ExecutionGoesOn}
use Rattle.live_executor.specs.Sound.{KeptNetwork, made_setting}
use Rattle.live_executor.specs.Trace.{HaveComeSince}

-- these moments, or the refusal in their place
abbrev pub given_or : Moments → Result (Unit {0}) Why → Result Moments Why
given_or moments (Ok done) = Ok moments
given_or moments (Err why) = Err why

-- the moments with the completions of a moment, or why they are refused
abbrev pub completed : Setting → (before : Moments) → (moment : ℕ) → List PointId → Result Moments Why
completed setting before moment listed =
    elim (completions_taken setting before moment listed) [
      | Ok moments ↦ none_overdue setting moment moments
      | Err why ↦ Err why
    ]

-- a feed that was tried: time has run to the moment before; then the completions are refused, or taken and the acts made
abbrev pub IsTriedFeed : Setting → (first : Moments) → (from moment : ℕ) → List PointId → Result (Unit {0}) Why → Moments → List Act → Type 0
IsTriedFeed setting first from moment listed answer moments acts =
    elim (completed setting (time_runs setting first from (moment - from)) moment listed) [
      | Ok taken ↦ (answer ≡ Ok tt) × (moments ≡ acted setting taken moment)
          × (acts ≡ acts_while setting first from (moment - from) ++ acts_at setting taken moment)
      | Err why ↦ answer ≡ Err why
    ]

-- these may be listed as completions of a moment: points, and a moment that may be fed
pub record MayBeListed (network : KeptNetwork) (moment : ℕ) (listed : List PointId) : Type 0 where
  pub inside : All (λ (point : PointId). point.0 < length network.made) listed
  pub within : moment ≤ most_moment

-- an execution takes what was wanted of a moment, or is refused it; it stands right then, and no act is made
pub record TakesOrRefuses (network : KeptNetwork) (moment : ℕ) (wanted : Result Moments Why) (answer : Result (Unit {0}) Why)
    (old new : ExecutionSoFar) : Type 0 where
  pub taken : wanted ≡ given_or new.moments answer
  pub goes : Reaches network moment new.moments [] old new

-- the completions of a moment, one by one; and that then no point is overdue
abbrev pub Completes : KeptNetwork → (moment : ℕ) → List PointId → Result (Unit {0}) Why → (old new : ExecutionSoFar) → Type 0
Completes network moment listed answer old new = TakesOrRefuses network moment (completions_taken (made_setting network) old.moments moment listed) answer old
    new

abbrev pub Settles : KeptNetwork → (moment : ℕ) → List PointId → Result (Unit {0}) Why → (old new : ExecutionSoFar) → Type 0
Settles network moment listed answer old new = TakesOrRefuses network moment (completed (made_setting network) old.moments moment listed) answer old new

-- it is fed, if what was done isn't taken back
pub record Advances (network : KeptNetwork) (from moment : ℕ) (listed : List PointId) (answer : Result (Unit {0}) Why) (old new : ExecutionSoFar) : Type 0 where
  pub tried : IsTriedFeed (made_setting network) old.moments from moment listed answer new.moments new.acts
  pub stands : OnOk answer (StandsAt network (moment + 1) new)
  pub since : HaveComeSince old.moments new.came new.moments

-- it is fed: it continues, or is refused the feed, and then its moments are what they were
pub record Feeds (network : KeptNetwork) (from moment : ℕ) (listed : List PointId) (answer : Result (Unit {0}) Why) (old new : ExecutionSoFar) : Type 0 where
  pub tried : IsTriedFeed (made_setting network) old.moments from moment listed answer new.moments new.acts
  pub goes_on : OnOk answer (ExecutionGoesOn network (moment + 1) new)
  pub back : OnErr answer (new.moments ≡ old.moments)
