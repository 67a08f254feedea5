-- `check` keeps its promise.
use Rattle.std.proofs.Common.{◌≡◌, inl, inr, ℕ, Bool, true, false, List, [], ◌++◌, Result, Ok, Err, refl, sym, ap, subst, ◌∙◌, true≢false, if◌then◌else◌}
use Rattle.texts.specs.Lines.{lines}
use Rattle.net_model.specs.Network.{Plan}
use Rattle.net_model.specs.ShownForm.{shown_form}
use Rattle.strategy_model.specs.Control.{IsControllable}
use Rattle.cert_format.specs.CertificateWords.{printed_certificate}
use Rattle.cert_format.specs.declared.certificate.Certificate.{Certificate}
use Rattle.closure_certificates.specs.Certified.{Proves}
use Rattle.command_engine.specs.Grammars.{ReadsBy}
use Rattle.command_engine.specs.Inputs.{AnswersOrRefuses}
use Rattle.command_engine.specs.Runs.{Runs}
use Rattle.command_engine.specs.declared.endings.End.{End}
use Rattle.command_engine.proofs.InputLemmas.{answers_text}
use Rattle.command_engine.proofs.TestedTextLemmas.{tested_by}
use Rattle.common_answers.specs.VerdictLines.{controllable_line, refuted_line}
use Rattle.common_answers.specs.declared.faults.Fault.{Fault}
use Rattle.check_command.specs.CheckPromise.{CheckPromise, PutsVerdict}
use Rattle.check_command.specs.CheckAnswers.{PutsYes, check_answers, check_machine, check_reader, check_start, checked_plan, engine_test}
use Rattle.check_command.specs.Engines.{engine_tests, takes}
use Rattle.common_answers.specs.Faults.{refusing}
use Rattle.input_texts.specs.PlanInput.{initial_input, input_reader, plan_in}
use Rattle.input_texts.proofs.PlanInputLemmas.{input_by}
use Rattle.command_contracts.proofs.PutVerdictLemmas.{verdict_put}
use Rattle.check_command.specs.declared.check_question.CheckFlags.{CheckFlags}
use Rattle.command_contracts.proofs.DecidedLemmas.{after_line, no_refusal_is_controllable, no_refusal_is_refuted, yes_by, refutes_by}

-- what is put of a controllable network begins with that line
yes_begins : (proof : Bool) (net : Plan) (put : List ℕ) (end : End) → PutsYes proof net put end → (more : List ℕ) × (put ≡ controllable_line ++ more)
yes_begins false net put end puts = ([], puts.0)
yes_begins true net put end (cert, proves, puts) = (printed_certificate cert, puts.0)

-- if a proof is wanted, what stands after that line is the proof
proof_after : (proof : Bool) (net : Plan) (put : List ℕ) (end : End) → proof ≡ true → PutsYes proof net put end → (more : List ℕ) → put ≡ controllable_line ++ more
    → (cert : Certificate) × Proves (shown_form net) cert × (more ≡ printed_certificate cert)
proof_after false net put end wanted puts more same = absurd (true≢false (sym wanted))
proof_after true net put end wanted (cert, proves, puts) more same = (cert, proves, ap after_line (sym same ∙ puts.0))

-- ---- the plan that is read
pub check_by : (flags : CheckFlags) → ReadsBy check_reader (check_start flags).text 0 (checked_plan flags)
check_by flags = tested_by input_reader engine_tests (engine_test flags) (initial_input flags.form) 0 (plan_in flags.form) (input_by flags.form 0)

pub passed : (fits : Bool) (net other : Plan) (fault : Fault) → ◌≡◌ {A = Result Plan Fault} (if fits then Ok net else Err fault) (Ok other) → (fits ≡ true) × (net ≡ other)
passed true net other fault is = (refl, cc)
passed false net other fault is = absurd cc

-- what it declares is what the plan of that form does
pub plan_there : (flags : CheckFlags) (lines : List (List ℕ)) (net : Plan) (rest : List (List ℕ)) → (checked_plan flags).declares lines net rest → (plan_in flags.form).declares lines net rest
plan_there flags lines net rest passes =
    let same = passed (takes flags.engine passes.value) passes.value net _ passes.passes in
    subst (λ (n : Plan). (plan_in flags.form).declares lines n rest) same.1 passes.declared

-- ---- the promise
module _ (flags : CheckFlags) (input put : List ℕ) (end : End) where
  abbrev Put : Type 0
  Put = AnswersOrRefuses (checked_plan flags) refusing (PutsVerdict flags) input put end

  verdict_by : AnswersOrRefuses (checked_plan flags) refusing (check_answers flags) input put end → Put
  verdict_by (inl (net, after, is, answered)) = inl (net, after, is, verdict_put net (PutsYes flags.proof net put end) put end answered)
  verdict_by (inr refused) = inr refused

  yes : Put → (more : List ℕ) → put ≡ controllable_line ++ more → (net : Plan) (rest : List (List ℕ)) → (plan_in flags.form).declares (lines input) net rest → IsControllable net × PutsYes flags.proof net put end
  yes (inl (other, after, is, kept)) more same net rest network =
      yes_by flags.form (PutsYes flags.proof) (yes_begins flags.proof) input put end (inl (other, after, plan_there flags (lines input) other after is, kept)) more same net rest network
  yes (inr (fault, first, puts)) more same net rest network = absurd (no_refusal_is_controllable fault more (sym puts.0 ∙ same))

  never : Put → (more : List ℕ) → put ≡ refuted_line ++ more → (net : Plan) (rest : List (List ℕ)) → (plan_in flags.form).declares (lines input) net rest → IsControllable net → ⊥
  never (inl (other, after, is, kept)) more same net rest network =
      refutes_by flags.form (PutsYes flags.proof) (yes_begins flags.proof) input put end (inl (other, after, plan_there flags (lines input) other after is, kept)) more same net rest network
  never (inr (fault, first, puts)) more same net rest network = λ controls. no_refusal_is_refuted fault more (sym puts.0 ∙ same)

  pub check_keeps : Runs check_machine (check_start flags) input put end → CheckPromise flags input put end
  check_keeps runs =
      let text = answers_text check_reader (check_start flags).text (checked_plan flags) (check_by flags) (λ (query : CheckFlags) net number. check_answers query net) refusing flags input put end runs in
      let puts : Put = verdict_by text.answers in
      record {
        checks = record {
          answers = puts;
          declared = λ net within. verdict_put net (PutsYes flags.proof net put end) put end (text.declared net within);
          refuses = text.refuses;
        };
        controllable = λ more same net rest network. (yes puts more same net rest network).0;
        proves = λ wanted more same net rest network. proof_after flags.proof net put end wanted (yes puts more same net rest network).1 more same;
        refutes = never puts;
      }
