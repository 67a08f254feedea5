-- What `deadline` puts for a relaxed plan, beside what it puts for the plan: a number that is no greater.
use Rattle.std.specs.Prelude.{◌≡◌, ◌⊎◌, ℕ, ◌≤◌, ℤ, ◌≤ℤ◌, List, ◌∷◌, codes, unsigned_abs}
use Rattle.std.specs.Fmt.{signed_decimal}
use Rattle.net_model.specs.Limits.{most_number}
use Rattle.deadline_search.specs.Deadlines.{lowest}
use Rattle.input_texts.specs.PlanInput.{in_notation}
use Rattle.command_contracts.specs.declared.status.Status.{Status}
use Rattle.deadline_command.specs.DeadlineAnswers.{at_lowest, deadline_syntax, kept_text}
use Rattle.deadline_command.specs.Words.{SayDeadline}
use Rattle.deadline_command.specs.declared.points.DeadlineWords.{DeadlineWords}
use Rattle.stnu_run.specs.DefinedRuns.{DefinedRun}
use Rattle.stnu_run.specs.RelaxedPlans.{BeginRelaxed, IsOfVerdict}

-- the defined run of words that ask this of `deadline`
pub record IsDeadlineRun (said : DeadlineWords) (input put : List ℕ) (status : Status) : Type 0 where
  pub program : List ℕ
  pub asked : List (List ℕ)
  pub say : SayDeadline deadline_syntax said asked
  pub defined : DefinedRun (program ∷ codes "deadline" ∷ asked) input put status

-- this number is put as the tightest deadline, or, if it is the least that a plan may have, that this is one
abbrev pub PutsTightest : DeadlineWords → ℤ → List ℕ → Type 0
PutsTightest said most put =
    ((unsigned_abs most ≤ most_number) × ((more : List ℕ) × (put ≡ kept_text said (signed_decimal most) more)))
    ⊎ ((most ≡ lowest) × ((more : List ℕ) × (put ≡ kept_text said at_lowest more)))

-- If `deadline` puts a number as the tightest deadline of a plan, it puts for a plan to which that is relaxed, if it puts a verdict, one that is no greater.
abbrev pub RelaxedDeadlinesAreNoGreater : Type 0
RelaxedDeadlinesAreNoGreater =
    (said other_said : DeadlineWords) (input other put other_put : List ℕ) (status other_status : Status) → IsDeadlineRun said input put status
    → IsDeadlineRun other_said other other_put other_status → said.from ≡ other_said.from → said.to ≡ other_said.to
    → BeginRelaxed (in_notation said.notation) (in_notation other_said.notation) input other → (most : ℤ) → PutsTightest said most put
    → IsOfVerdict other_status → (less : ℤ) × (less ≤ℤ most) × PutsTightest other_said less other_put
