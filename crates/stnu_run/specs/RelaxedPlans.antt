-- What `check` puts for a relaxed plan, beside what it puts for the plan: that it is controllable too.
use Rattle.std.specs.Prelude.{◌≡◌, ◌⊎◌, ℕ, List, ◌∷◌, ◌++◌, codes}
use Rattle.texts.specs.Lines.{lines}
use Rattle.net_model.specs.Network.{Plan}
use Rattle.relaxation_laws.specs.Relaxations.{IsRelaxed}
use Rattle.common_answers.specs.VerdictLines.{controllable_line, refuted_line}
use Rattle.input_texts.specs.PlanInput.{plan_in}
use Rattle.input_texts.specs.declared.plan_input.PlanForm.{PlanForm}
use Rattle.command_contracts.specs.declared.status.Status.{Status}
use Rattle.check_command.specs.CheckAnswers.{check_syntax}
use Rattle.check_command.specs.Words.{SayCheckFlags}
use Rattle.check_command.specs.declared.check_question.CheckFlags.{CheckFlags}
use Rattle.stnu_run.specs.DefinedRuns.{DefinedRun}

-- Two inputs begin with plans, each of its form, of which the first is relaxed to the second: bounds are loosened or dropped, intervals of links narrowed, or
-- the delay, a plan's own or the requested one, is lowered.
pub record BeginRelaxed (form other_form : PlanForm) (input other : List ℕ) : Type 0 where
  pub net : Plan
  pub rest : List (List ℕ)
  pub declared : (plan_in form).declares (lines input) net rest
  pub other_net : Plan
  pub other_rest : List (List ℕ)
  pub other_declared : (plan_in other_form).declares (lines other) other_net other_rest
  pub relaxed : IsRelaxed net other_net

-- an exit status after a verdict
abbrev pub IsOfVerdict : Status → Type 0
IsOfVerdict status = (status.0 ≡ 0) ⊎ (status.0 ≡ 1)

-- the defined run of words that ask this of `check`
pub record IsCheckRun (flags : CheckFlags) (input put : List ℕ) (status : Status) : Type 0 where
  pub program : List ℕ
  pub asked : List (List ℕ)
  pub said : SayCheckFlags check_syntax flags asked
  pub defined : DefinedRun (program ∷ codes "check" ∷ asked) input put status

-- It is not put first that a network is not controllable; and if a verdict is put, it is that the network is, with status 0.
pub record PutsNoRefutation (put : List ℕ) (status : Status) : Type 0 where
  pub never : (more : List ℕ) → ¬ (put ≡ refuted_line ++ more)
  pub decided : IsOfVerdict status → (status.0 ≡ 0) × ((more : List ℕ) × (put ≡ controllable_line ++ more))

-- If `check` puts first that the plan of an input is controllable, it puts no refutation of a plan to which that is relaxed, whatever each call asks of it.
abbrev pub RelaxedPlansStayControllable : Type 0
RelaxedPlansStayControllable =
    (flags other_flags : CheckFlags) (input other put other_put more : List ℕ) (status other_status : Status) → IsCheckRun flags input put status
    → IsCheckRun other_flags other other_put other_status → BeginRelaxed flags.form other_flags.form input other → put ≡ controllable_line ++ more
    → PutsNoRefutation other_put other_status
