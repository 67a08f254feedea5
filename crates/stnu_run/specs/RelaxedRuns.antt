-- What the laws of relaxed plans say of one run.
use Rattle.std.specs.Prelude.{◌≡◌, ℕ, ℤ, ◌≤ℤ◌, List, ◌∷◌, ◌++◌, codes}
use Rattle.common_answers.specs.VerdictLines.{controllable_line}
use Rattle.input_texts.specs.PlanInput.{in_notation}
use Rattle.command_contracts.specs.declared.status.Status.{Status}
use Rattle.check_command.specs.CheckAnswers.{check_syntax}
use Rattle.check_command.specs.Words.{SayCheckFlags}
use Rattle.check_command.specs.declared.check_question.CheckFlags.{CheckFlags}
use Rattle.deadline_command.specs.DeadlineAnswers.{deadline_syntax}
use Rattle.deadline_command.specs.Words.{SayDeadline}
use Rattle.deadline_command.specs.declared.points.DeadlineWords.{DeadlineWords}
use Rattle.stnu_run.specs.RelaxedDeadlines.{IsDeadlineRun, PutsTightest}
use Rattle.stnu_run.specs.RelaxedPlans.{BeginRelaxed, IsCheckRun, IsOfVerdict, PutsNoRefutation}

-- What is put of a plan holds of each plan to which that is relaxed. `verdict`: if `check` puts first that the plan of the input is controllable, it puts no
-- refutation of the other. `deadline`: if `deadline` puts a number, it puts one that is no greater for the other, between points of the same names, if it puts
-- a verdict.
pub record HoldsOfRelaxed (words : List (List ℕ)) (input put : List ℕ) (status : Status) : Type 0 where
  pub verdict : (program : List ℕ) (asked : List (List ℕ)) (flags other_flags : CheckFlags) (other other_put more : List ℕ) (other_status : Status)
      → words ≡ program ∷ codes "check" ∷ asked → SayCheckFlags check_syntax flags asked → IsCheckRun other_flags other other_put other_status
      → BeginRelaxed flags.form other_flags.form input other → put ≡ controllable_line ++ more → PutsNoRefutation other_put other_status
  pub deadline : (program : List ℕ) (asked : List (List ℕ)) (said other_said : DeadlineWords) (other other_put : List ℕ) (other_status : Status)
      → words ≡ program ∷ codes "deadline" ∷ asked → SayDeadline deadline_syntax said asked → IsDeadlineRun other_said other other_put other_status
      → said.from ≡ other_said.from → said.to ≡ other_said.to
      → BeginRelaxed (in_notation said.notation) (in_notation other_said.notation) input other → (most : ℤ) → PutsTightest said most put
      → IsOfVerdict other_status → (less : ℤ) × (less ≤ℤ most) × PutsTightest other_said less other_put
