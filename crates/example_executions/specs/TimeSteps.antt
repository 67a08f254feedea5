-- Parts of an execution that is stepped through moment by moment.
use Rattle.std.specs.Prelude.{◌≡◌, ℕ, ◌+◌, ◌<◌, ◌≤◌, List, [], Option, Some, None, Result, Ok, Err}
use Rattle.net_model.specs.declared.ids.PointId.{PointId}
use Rattle.net_model.specs.Moments.{Moments}
use Rattle.execution_model.specs.Execution.{Setting, acts_at}
use Rattle.execution_model.specs.Feeds.{Execution, next_moment, completions_taken, none_overdue, taken, after_feed, IsNextDue}
use Rattle.execution_model.specs.declared.feed_answers.Why.{Why}

-- the moments with the completions of a moment, or why they are refused
abbrev pub completed_by : Setting → Moments → (moment : ℕ) → List PointId → Result Moments Why
completed_by setting moments moment listed =
    elim (completions_taken setting moments moment listed) [
      | Ok completed ↦ none_overdue setting moment completed
      | Err why ↦ Err why
    ]

-- a feed is taken, or refused and nothing changes
abbrev pub IsStepTaken : Execution → (moment : ℕ) → List PointId → Option Why → Execution → Type 0
IsStepTaken execution moment listed refused after =
    elim refused [
      | Some why ↦ (taken execution moment listed ≡ Err why) × (after ≡ execution)
      | None ↦ (moments : Moments) × (taken execution moment listed ≡ Ok moments) × (after ≡ after_feed execution moment moments)
    ]

-- among how many moments the next due one is sought
abbrev pub many_moments : ℕ
many_moments = 150

-- the next due moment, sought among so many moments
abbrev pub IsNextDueWithin : (count : ℕ) → Execution → Option ℕ → Type 0
IsNextDueWithin count execution None = (t : ℕ) → next_moment execution ≤ t → t < next_moment execution + count
    → acts_at execution.setting execution.moments t ≡ []
IsNextDueWithin count execution (Some due) = IsNextDue execution (Some due)

-- what is answered then: none after a refusal
abbrev pub IsDueAnswerWithin : (count : ℕ) → Execution → Option ℕ → Type 0
IsDueAnswerWithin count execution answer = elim execution.refused [ Some cause ↦ answer ≡ None | None ↦ IsNextDueWithin count execution answer ]
