-- What `judge` promises of what it puts for an input.
use Rattle.std.specs.Prelude.{◌≡◌, ℕ, List, [], ◌∷◌, codes}
use Rattle.texts.specs.Lines.{lines}
use Rattle.texts.specs.PrintedLines.{printed_line}
use Rattle.net_model.specs.Network.{Plan}
use Rattle.strategy_model.specs.Control.{IsControllable}
use Rattle.strong_plan.specs.Strong.{IsStronglyControllable}
use Rattle.input_texts.specs.declared.proof_input.Proof.{Proof}
use Rattle.command_engine.specs.Inputs.{AnswersText}
use Rattle.command_engine.specs.declared.endings.End.{End}
use Rattle.common_answers.specs.Faults.{refusing}
use Rattle.judge_command.specs.JudgeAnswers.{PutsProof, judge_machine, judge_start}
use Rattle.input_texts.specs.PlanInput.{plan_in}
use Rattle.command_contracts.specs.Causes.{text_causes}
use Rattle.command_contracts.specs.Programs.{Program, or_nothing, serves}
use Rattle.judge_command.specs.JudgeInput.{judge_grammar}
use Rattle.judge_command.specs.declared.judge_question.Judge.{Judge}

-- the judgement of a certificate of a network is put
abbrev pub PutsJudgement : Plan × Proof → List ℕ → End → Type 0
PutsJudgement value put end = PutsProof value.0 value.1 put end

-- What `judge` promises, of what its words ask. `judges`: it puts the judgement of the network and the certificate that the input declares, or the first
-- refusal of the input. `excludes` and `controls`: if it puts that a certificate is accepted, no strategy controls the network that the input declares, or one
-- does, as it says. `not_strong`: if it puts that a strong certificate is accepted, that network has no strong schedule.
pub record JudgePromise (judge : Judge) (input put : List ℕ) (end : End) : Type 0 where
  pub judges : AnswersText (judge_grammar judge) refusing PutsJudgement input put end
  pub excludes : put ≡ printed_line (codes "accepted not controllable" ∷ []) → (net : Plan) (rest : List (List ℕ))
      → (plan_in judge.form).declares (lines input) net rest → ¬ IsControllable net
  pub controls : put ≡ printed_line (codes "accepted controllable" ∷ []) → (net : Plan) (rest : List (List ℕ))
      → (plan_in judge.form).declares (lines input) net rest → IsControllable net
  pub not_strong : put ≡ printed_line (codes "accepted not strongly controllable" ∷ []) → (net : Plan) (rest : List (List ℕ))
      → (plan_in judge.form).declares (lines input) net rest → ¬ IsStronglyControllable net

-- the program of `judge`
abbrev pub judge_program : Judge → Program
judge_program judge = serves judge_machine (judge_start judge) (or_nothing (text_causes (judge_grammar judge)) (JudgePromise judge))
