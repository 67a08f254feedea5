-- What `check` puts after its verdict is accepted by `judge`.
use Rattle.std.proofs.Common.{◌≡◌, ℕ, Bool, true, false, List, [], ◌++◌, drop, length, get_or, sym, ap, subst, arith, inl, inr, true≢false}
use Rattle.texts.specs.Lines.{InputLine, input_lines}
use Rattle.net_model.specs.Network.{Plan}
use Rattle.net_model.specs.ShownForm.{shown_form}
use Rattle.cert_format.specs.CertificateWords.{printed_certificate}
use Rattle.cert_format.specs.declared.certificate.Certificate.{Certificate}
use Rattle.cert_checker.specs.Judgement.{judgement_of}
use Rattle.cert_checker.specs.declared.judgement.Claim.{Claim}
use Rattle.cert_checker.specs.declared.judgement.Claim.TheVariants.{Controllable, NotControllable}
use Rattle.cert_checker.specs.declared.judgement.Judgement.TheVariants.{Accepted}
use Rattle.command_engine.specs.AnswersOnce.{AnswersOutcome}
use Rattle.command_engine.specs.Inputs.{DeclaresBy, texts}
use Rattle.command_engine.specs.Readers.{Outcome, Given, Faulty, reading}
use Rattle.command_engine.specs.Runs.{Runs, begins}
use Rattle.command_engine.specs.declared.endings.End.{End}
use Rattle.command_engine.proofs.AnswersOnceLemmas.{runs_are}
use Rattle.command_engine.proofs.InputLemmas.{OutcomeIs, outcome_is}
use Rattle.common_answers.specs.Faults.{refusing}
use Rattle.common_answers.specs.VerdictLines.{controllable_line, refuted_line}
use Rattle.common_answers.specs.declared.faults.Fault.{Fault}
use Rattle.input_texts.specs.PlanInput.{plan_in}
use Rattle.input_texts.specs.declared.proof_input.ProofKind.TheVariants.{Control}
use Rattle.command_contracts.specs.Programs.{Defines}
use Rattle.command_contracts.specs.declared.status.Status.{Status}
use Rattle.command_contracts.proofs.DecidedLemmas.{after_line, no_refusal_is_controllable, no_refusal_is_refuted}
use Rattle.check_command.specs.CheckAnswers.{PutsYes, check_answers, check_machine, check_reader, check_start, checked_plan}
use Rattle.check_command.specs.CheckPromise.{check_program}
use Rattle.check_command.specs.declared.check_question.CheckFlags.{CheckFlags}
use Rattle.check_command.proofs.CheckLemmas.{check_by, plan_there}
use Rattle.judge_command.specs.JudgeAnswers.{judgement_line}
use Rattle.judge_command.specs.JudgePromise.{judge_program}
use Rattle.stnu_run.specs.PrintedCertificates.{IsAccepted, judge_of}
use Rattle.stnu_run.proofs.AcceptedLemmas.{accepted_after}
use Rattle.stnu_run.proofs.ComingLemmas.{come_by}

-- the first byte
abbrev first_byte : List ℕ → ℕ
first_byte bytes = get_or bytes 0 0

apart : (more others : List ℕ) → controllable_line ++ more ≡ refuted_line ++ others → ⊥
apart more others same = let byte : ◌≡◌ {A = ℕ} 99 110 = ap first_byte same in omega arith

-- what stands after the line `not controllable`
after_refuted : (more others : List ℕ) → refuted_line ++ more ≡ refuted_line ++ others → more ≡ others
after_refuted more others same = ap (λ (bytes : List ℕ). drop (length refuted_line) bytes) same

module _ (flags : CheckFlags) (input more : List ℕ) where
  -- what is put as a certificate is accepted
  abbrev Judged : Claim → Type 0
  Judged claim = IsAccepted flags.form (judge_program (judge_of flags.form Control)) input more (judgement_line (Accepted claim))

  judged_by : (net : Plan) (used rest : List InputLine) → input_lines input ≡ used ++ rest → DeclaresBy (checked_plan flags) used rest net → (cert : Certificate) (claim : Claim) → judgement_of (shown_form net) cert ≡ Accepted claim
      → more ≡ printed_certificate cert → Judged claim
  judged_by net used rest divided declares cert claim accepted is =
      let plain : DeclaresBy (plan_in flags.form) used rest net = record {
        come = come_by (checked_plan flags) (plan_in flags.form) (λ seen longest wanted. wanted) used [] _ declares.come;
        declared = plan_there flags (texts (used ++ rest)) net (texts rest) declares.declared;
      } in
      subst (λ (bytes : List ℕ). IsAccepted flags.form (judge_program (judge_of flags.form Control)) input bytes (judgement_line (Accepted claim))) (sym is)
      (accepted_after flags.form input net used rest divided plain cert claim accepted)

  abbrev Puts : Outcome Plan Fault → List ℕ → End → Type 0
  Puts outcome put end = AnswersOutcome (λ (query : CheckFlags) (net : Plan) (number : ℕ). check_answers query net) check_reader refusing flags outcome put end

  abbrev Is : Outcome Plan Fault → Type 0
  Is outcome = OutcomeIs check_reader (check_start flags).text (checked_plan flags) (check_by flags) (input_lines input) outcome

  -- what the reading of the plan comes to
  is_so : Is (reading check_reader (begins (check_start flags).text) (input_lines input))
  is_so = outcome_is check_reader (check_start flags).text (checked_plan flags) (check_by flags) (input_lines input)

  puts_so : (put : List ℕ) (end : End) → Runs check_machine (check_start flags) input put end → Puts (reading check_reader (begins (check_start flags).text) (input_lines input)) put end
  puts_so put end runs = runs_are (λ (query : CheckFlags) (net : Plan) (number : ℕ). check_answers query net) check_reader refusing flags (check_start flags).text input put end runs

  -- ---- a refutation
  no_yes : (proof : Bool) (net : Plan) (end : End) → PutsYes proof net (refuted_line ++ more) end → ⊥
  no_yes false net end puts = apart [] more (sym puts.0)
  no_yes true net end (cert, proves, puts) = apart (printed_certificate cert) more (sym puts.0)

  refuted_by : (outcome : Outcome Plan Fault) (end : End) → Is outcome → Puts outcome (refuted_line ++ more) end → Judged NotControllable
  refuted_by (Given net number spare_capacity rest) end is (inl (controllable, kept)) = absurd (no_yes flags.proof net end kept)
  refuted_by (Given net number spare_capacity rest) end is (inr (never, (cert, refutes, puts))) =
      judged_by net is.used rest is.divided is.declares cert NotControllable refutes.accepted (after_refuted more (printed_certificate cert) puts.0)
  refuted_by (Faulty fault) end is puts = absurd (no_refusal_is_refuted fault more (sym puts.0))

  pub refutation_accepted : (status : Status) → Defines (check_program flags) input (refuted_line ++ more) status → Judged NotControllable
  refutation_accepted status (end, same, runs) = refuted_by _ end is_so (puts_so (refuted_line ++ more) end runs)

  -- ---- a table proof
  proof_by : (proof : Bool) → proof ≡ true → (net : Plan) (used rest : List InputLine) → input_lines input ≡ used ++ rest → DeclaresBy (checked_plan flags) used rest net → (end : End) → PutsYes proof net (controllable_line ++ more) end
      → Judged Controllable
  proof_by false wanted net used rest divided declares end puts = absurd (true≢false (sym wanted))
  proof_by true wanted net used rest divided declares end (cert, proves, puts) =
      judged_by net used rest divided declares cert Controllable proves.accepted (ap after_line puts.0)

  proved_by : flags.proof ≡ true → (outcome : Outcome Plan Fault) (end : End) → Is outcome → Puts outcome (controllable_line ++ more) end → Judged Controllable
  proved_by wanted (Given net number spare_capacity rest) end is (inl (controllable, kept)) = proof_by flags.proof wanted net is.used rest is.divided is.declares end kept
  proved_by wanted (Given net number spare_capacity rest) end is (inr (never, (cert, refutes, puts))) = absurd (apart more (printed_certificate cert) puts.0)
  proved_by wanted (Faulty fault) end is puts = absurd (no_refusal_is_controllable fault more (sym puts.0))

  pub proof_accepted : flags.proof ≡ true → (status : Status) → Defines (check_program flags) input (controllable_line ++ more) status → Judged Controllable
  proof_accepted wanted status (end, same, runs) = proved_by wanted _ end is_so (puts_so (controllable_line ++ more) end runs)
