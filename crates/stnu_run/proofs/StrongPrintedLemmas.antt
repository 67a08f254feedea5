-- What `strong` puts after its verdict is accepted by `judge`.
use Rattle.std.proofs.Common.{◌≡◌, ℕ, List, ◌++◌, drop, length, get_or, sym, ap, subst, arith, inl, inr}
use Rattle.texts.specs.Lines.{input_lines}
use Rattle.net_model.specs.Network.{Plan}
use Rattle.cert_format.specs.StrongWords.{printed_strong}
use Rattle.strong_plan.specs.declared.judgement.StrongJudgement.TheVariants.{Accepted}
use Rattle.command_engine.specs.AnswersOnce.{AnswersOutcome}
use Rattle.command_engine.specs.Readers.{Outcome, Given, Faulty}
use Rattle.command_engine.specs.declared.endings.End.{End}
use Rattle.command_engine.proofs.AnswersOnceLemmas.{runs_are}
use Rattle.command_engine.proofs.InputLemmas.{OutcomeIs, outcome_is}
use Rattle.common_answers.specs.Faults.{fault_line, refusing}
use Rattle.common_answers.specs.declared.faults.Fault.{Fault}
use Rattle.input_texts.specs.PlanInput.{initial_input, input_reader, plan_in}
use Rattle.input_texts.specs.declared.proof_input.ProofKind.TheVariants.{Strong}
use Rattle.input_texts.proofs.PlanInputLemmas.{input_by}
use Rattle.command_contracts.specs.Programs.{Defines}
use Rattle.command_contracts.specs.declared.status.Status.{Status}
use Rattle.judge_command.specs.JudgeAnswers.{strong_judgement_line}
use Rattle.judge_command.specs.JudgePromise.{judge_program}
use Rattle.strong_command.specs.StrongAnswers.{PutsStrong, executable_names, not_strong_line, strong_line, strong_program, times_text}
use Rattle.strong_command.specs.declared.strong_question.StrongQuestion.{StrongQuestion}
use Rattle.stnu_run.specs.PrintedCertificates.{IsAccepted, judge_of}
use Rattle.stnu_run.proofs.AcceptedLemmas.{strong_accepted_after}

-- the first byte
abbrev first_byte : List ℕ → ℕ
first_byte bytes = get_or bytes 0 0

no_refusal : (fault : Fault) (more : List ℕ) → fault_line fault ≡ not_strong_line ++ more → ⊥
no_refusal fault more same = let byte : ◌≡◌ {A = ℕ} 101 110 = ap first_byte same in omega arith

apart : (more others : List ℕ) → strong_line ++ more ≡ not_strong_line ++ others → ⊥
apart more others same = let byte : ◌≡◌ {A = ℕ} 115 110 = ap first_byte same in omega arith

-- what stands after the line `not strongly controllable`
after_line : (more others : List ℕ) → not_strong_line ++ more ≡ not_strong_line ++ others → more ≡ others
after_line more others same = ap (λ (bytes : List ℕ). drop (length not_strong_line) bytes) same

module _ (query : StrongQuestion) (input more : List ℕ) where
  abbrev Judged : Type 0
  Judged = IsAccepted query.form (judge_program (judge_of query.form Strong)) input more (strong_judgement_line Accepted)

  abbrev answers : StrongQuestion → Plan → ℕ → List ℕ → End → Type 0
  answers asked net number = PutsStrong net

  abbrev Puts : Outcome Plan Fault → List ℕ → End → Type 0
  Puts outcome put end = AnswersOutcome answers input_reader refusing query outcome put end

  abbrev Is : Outcome Plan Fault → Type 0
  Is outcome = OutcomeIs input_reader (initial_input query.form) (plan_in query.form) (input_by query.form 0) (input_lines input) outcome

  refuted_by : (outcome : Outcome Plan Fault) (end : End) → Is outcome → Puts outcome (not_strong_line ++ more) end → Judged
  refuted_by (Given net number spare_capacity rest) end is (inl schedule) = absurd (apart (times_text (executable_names net) schedule.times) more (sym schedule.is))
  refuted_by (Given net number spare_capacity rest) end is (inr refutation) =
      let cert = refutation.cert in
      subst (λ (bytes : List ℕ). IsAccepted query.form (judge_program (judge_of query.form Strong)) input bytes (strong_judgement_line Accepted)) (sym (after_line more (printed_strong cert) refutation.is))
      (strong_accepted_after query.form input net is.used rest is.divided is.declares cert refutation.refutes.of_one_kind refutation.refutes.accepted)
  refuted_by (Faulty fault) end is puts = absurd (no_refusal fault more (sym puts.0))

  pub strong_accepted : (status : Status) → Defines (strong_program query) input (not_strong_line ++ more) status → Judged
  strong_accepted status (end, same, runs) =
      refuted_by _ end (outcome_is input_reader (initial_input query.form) (plan_in query.form) (input_by query.form 0) (input_lines input))
      (runs_are answers input_reader refusing query (initial_input query.form) input (not_strong_line ++ more) end runs)
