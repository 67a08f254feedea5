-- A command that answers a question about a plan keeps its promise.
use Rattle.std.proofs.Common.{ℕ, List, inl, inr}
use Rattle.texts.specs.Lines.{lines}
use Rattle.net_model.specs.Network.{Plan, IsPlan}
use Rattle.command_engine.specs.AnswersOnce.{answers_once_machine}
use Rattle.command_engine.specs.Inputs.{AnswersLine, AnswersLineOrRefuses, last_before}
use Rattle.command_engine.specs.Runs.{Runs}
use Rattle.command_engine.specs.declared.endings.End.{End}
use Rattle.command_engine.proofs.InputLemmas.{answers_text}
use Rattle.common_answers.specs.Faults.{refusing}
use Rattle.command_contracts.specs.PlanQuestions.{initial_question}
use Rattle.input_texts.specs.PlanInput.{initial_input, input_reader, plan_in}
use Rattle.input_texts.specs.declared.plan_input.PlanForm.{PlanForm}
use Rattle.input_texts.proofs.PlanInputLemmas.{input_by, input_sound}

module _ {Q : Type 0} (form : Q → PlanForm) (answers : Q → Plan → ℕ → List ℕ → End → Type 0) (question : Q) (puts : Plan → ℕ → List ℕ → End → Type 0)
    (law : (net : Plan) (number : ℕ) (put : List ℕ) (end : End) → IsPlan net → answers question net number put end → puts net number put end) where
  put_by : (input put : List ℕ) (end : End) → AnswersLineOrRefuses (plan_in (form question)) refusing (answers question) input put end → AnswersLineOrRefuses (plan_in (form question)) refusing puts input put end
  put_by input put end (inl (net, after, is, answered)) = inl (net, after, is, law net (last_before after (lines input)) put end (input_sound (form question) (lines input) net after is) answered)
  put_by input put end (inr refused) = inr refused

  -- if the answer to a network is what is put, a run puts that for the network of the input, or its first refusal
  pub question_keeps : (input put : List ℕ) (end : End) → Runs (answers_once_machine answers input_reader refusing) (initial_question form question) input put end → AnswersLine (plan_in (form question)) refusing puts input put end
  question_keeps input put end runs =
      let text = answers_text input_reader (initial_input (form question)) (plan_in (form question)) (input_by (form question) 0) answers refusing question input put end runs in
      record {
        answers = put_by input put end text.answers;
        declared = λ net within. law net _ put end (input_sound (form question) _ net _ within.declares.declared) (text.declared net within);
        refuses = text.refuses;
      }
