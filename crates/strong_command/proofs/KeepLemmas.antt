-- `strong` keeps its promise: what its first line says of the network of an input is so.
use Rattle.std.proofs.Common.{◌≡◌, ℕ, List, ◌++◌, get_or, sym, ap, ◌∙◌, subst, arith, inl, inr}
use Rattle.texts.specs.Lines.{lines}
use Rattle.net_model.specs.Network.{Plan, IsPlan}
use Rattle.strategy_model.specs.Control.{IsControllable}
use Rattle.cert_format.specs.StrongWords.{printed_strong}
use Rattle.strong_plan.specs.Laws.{StrongIsControllable}
use Rattle.strong_plan.specs.Strong.{IsStronglyControllable}
use Rattle.command_engine.specs.Inputs.{AnswersOrRefuses, AnswersText}
use Rattle.command_engine.specs.declared.endings.End.{End}
use Rattle.common_answers.specs.Faults.{fault_line, refusing}
use Rattle.common_answers.specs.declared.faults.Fault.{Fault}
use Rattle.input_texts.specs.PlanInput.{plan_in}
use Rattle.input_texts.proofs.PlanInputLemmas.{input_one}
use Rattle.strong_command.specs.StrongAnswers.{PutsStrong, PutsStrongly, StrongPromise, strong_line, not_strong_line, times_text, executable_names}
use Rattle.strong_command.specs.declared.strong_question.StrongQuestion.{StrongQuestion}

pub put_strongly : StrongIsControllable → (net : Plan) (put : List ℕ) (end : End) → IsPlan net → PutsStrong net put end → PutsStrongly net put end
put_strongly law net put end plan (inl schedule) = inl (law net plan (schedule.times, schedule.least.strong), schedule)
put_strongly law net put end plan (inr refutation) = inr refutation

abbrev first_byte : List ℕ → ℕ
first_byte bytes = get_or bytes 0 0

no_refusal_is_strong : (fault : Fault) (more : List ℕ) → fault_line fault ≡ strong_line ++ more → ⊥
no_refusal_is_strong fault more same = let byte : ◌≡◌ {A = ℕ} 101 115 = ap first_byte same in omega arith

pub no_refusal_is_none : (fault : Fault) (more : List ℕ) → fault_line fault ≡ not_strong_line ++ more → ⊥
no_refusal_is_none fault more same = let byte : ◌≡◌ {A = ℕ} 101 110 = ap first_byte same in omega arith

pub apart : (more others : List ℕ) → strong_line ++ more ≡ not_strong_line ++ others → ⊥
apart more others same = let byte : ◌≡◌ {A = ℕ} 115 110 = ap first_byte same in omega arith

module _ (query : StrongQuestion) where
  yes : (input put : List ℕ) (end : End) → AnswersOrRefuses (plan_in query.form) refusing PutsStrongly input put end → (more : List ℕ) → put ≡ strong_line ++ more → (net : Plan) (rest : List (List ℕ))
      → (plan_in query.form).declares (lines input) net rest
      → IsStronglyControllable net × IsControllable net
  yes input put end (inl (other, after, is, inl (controls, schedule))) more same net rest network =
      subst (λ (n : Plan). IsStronglyControllable n × IsControllable n) (input_one query.form (lines input) other net after rest is network) ((schedule.times, schedule.least.strong), controls)
  yes input put end (inl (other, after, is, inr refutation)) more same net rest network = absurd (apart more (printed_strong refutation.cert) (sym same ∙ refutation.is))
  yes input put end (inr (fault, first, puts)) more same net rest network = absurd (no_refusal_is_strong fault more (sym puts.0 ∙ same))

  no : (input put : List ℕ) (end : End) → AnswersOrRefuses (plan_in query.form) refusing PutsStrongly input put end → (more : List ℕ) → put ≡ not_strong_line ++ more → (net : Plan) (rest : List (List ℕ))
      → (plan_in query.form).declares (lines input) net rest
      → ¬ IsStronglyControllable net
  no input put end (inl (other, after, is, inl (controls, schedule))) more same net rest network strongly =
      apart (times_text (executable_names other) schedule.times) more (sym schedule.is ∙ same)
  no input put end (inl (other, after, is, inr refutation)) more same net rest network strongly =
      refutation.refutes.excludes (subst (λ (n : Plan). IsStronglyControllable n) (sym (input_one query.form (lines input) other net after rest is network)) strongly)
  no input put end (inr (fault, first, puts)) more same net rest network strongly = no_refusal_is_none fault more (sym puts.0 ∙ same)

  pub strong_keeps : (input put : List ℕ) (end : End) → AnswersText (plan_in query.form) refusing PutsStrongly input put end → StrongPromise query input put end
  strong_keeps input put end text = record { answers = text; strongly = yes input put end text.answers; never = no input put end text.answers }
