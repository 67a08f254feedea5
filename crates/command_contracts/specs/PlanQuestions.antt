-- Commands that read a plan and answer it once.
use Rattle.std.specs.Prelude.{ℕ, List}
use Rattle.net_model.specs.Network.{Plan}
use Rattle.command_engine.specs.AnswersOnce.{answers_once_machine}
use Rattle.command_engine.specs.declared.questions.AnswersOnce.{AnswersOnce}
use Rattle.command_engine.specs.declared.endings.End.{End}
use Rattle.common_answers.specs.Faults.{refusing}
use Rattle.input_texts.specs.PlanInput.{PlanInput, initial_input, input_reader, plan_in}
use Rattle.command_contracts.specs.Causes.{text_causes}
use Rattle.command_contracts.specs.Programs.{Program, or_nothing, serves}
use Rattle.input_texts.specs.declared.plan_input.PlanForm.{PlanForm}

-- a question before the first line of the plan, by the form of the plan that it wants
abbrev pub initial_question : {Q : Type 0} → (Q → PlanForm) → Q → AnswersOnce Q PlanInput
initial_question form question = record { question = question; text = initial_input (form question) }

-- the program that reads a plan and puts the answer of a question to its network, or the first refusal of the input
abbrev pub plan_program : {Q : Type 0} → (Q → PlanForm) → (Q → Plan → ℕ → List ℕ → End → Type 0) → (Q → (input put : List ℕ) → End → Type 0) → Q → Program
plan_program form answers promised question = serves (answers_once_machine answers input_reader refusing) (initial_question form question)
    (or_nothing (text_causes (plan_in (form question))) (promised question))
