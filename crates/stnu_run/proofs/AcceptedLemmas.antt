-- A printed certificate that the judge accepts is accepted by `judge`, given the plan of the input before it.
use Rattle.std.proofs.Common.{◌≡◌, ℕ, ◌≤◌, List, ◌∷◌, [], ◌++◌, length, refl, sym, ap, ◌∙◌, subst, arith, append_assoc}
use Rattle.std.specs.List.{flat_map}
use Rattle.std.proofs.lemmas.List.{append_cancel_right, length-append}
use Rattle.texts.specs.Lines.{InputLine, input_lines, lines}
use Rattle.net_model.specs.Network.{Plan, IsPlan}
use Rattle.net_model.specs.ShownForm.{shown_form}
use Rattle.net_model.proofs.ShownLemmas.{shown_sound}
use Rattle.cert_format.specs.CertificateGrammar.{DeclareCertificate}
use Rattle.cert_format.specs.CertificateWords.{certificate_words, printed_certificate}
use Rattle.cert_format.specs.StrongGrammar.{DeclareStrong}
use Rattle.cert_format.specs.StrongWords.{OfOneKind, printed_strong}
use Rattle.cert_format.specs.declared.certificate.Certificate.{Certificate}
use Rattle.cert_format.specs.declared.strong_cert.StrongCert.{StrongCert}
use Rattle.cert_format.proofs.TextLemmas.{printed_is_text}
use Rattle.cert_format.proofs.StrongTextLemmas.{printed_is_text as printed_is_strong}
use Rattle.cert_checker.specs.Judgement.{judgement_of}
use Rattle.cert_checker.specs.declared.judgement.Claim.{Claim}
use Rattle.cert_checker.specs.declared.judgement.Judgement.{Judgement}
use Rattle.cert_checker.specs.declared.judgement.Judgement.TheVariants.{Accepted}
use Rattle.strong_plan.specs.Judgement.{judgement_of as strong_judgement_of}
use Rattle.strong_plan.specs.declared.judgement.StrongJudgement.{StrongJudgement}
use Rattle.strong_plan.specs.declared.judgement.StrongJudgement.TheVariants as strong
use Rattle.command_engine.specs.AnswersOnce.{AnswersOutcome}
use Rattle.command_engine.specs.Endings.{end_number}
use Rattle.command_engine.specs.Inputs.{DeclaresBy, texts}
use Rattle.command_engine.specs.Limits.{most_input}
use Rattle.command_engine.specs.Pairs.{then_reader}
use Rattle.command_engine.specs.Readers.{Outcome, Given, reading}
use Rattle.command_engine.specs.Runs.{begins}
use Rattle.command_engine.specs.declared.endings.End.{End}
use Rattle.command_engine.specs.declared.endings.End.TheVariants.{Done}
use Rattle.command_engine.proofs.AnswersOnceLemmas.{runs_are}
use Rattle.command_engine.proofs.InputLemmas.{value_one}
use Rattle.common_answers.specs.Faults.{refusing}
use Rattle.common_answers.specs.declared.faults.Fault.{Fault}
use Rattle.input_texts.specs.PlanInput.{initial_input, input_reader, plan_in}
use Rattle.input_texts.specs.ProofInputs.{proof_reader, proof_texts}
use Rattle.input_texts.specs.declared.plan_input.PlanForm.{PlanForm}
use Rattle.input_texts.specs.declared.proof_input.Proof.{Proof}
use Rattle.input_texts.specs.declared.proof_input.Proof.TheVariants as proof
use Rattle.input_texts.specs.declared.proof_input.ProofKind.{ProofKind}
use Rattle.input_texts.specs.declared.proof_input.ProofKind.TheVariants.{Control, Strong}
use Rattle.input_texts.proofs.PlanInputLemmas.{input_by, input_sound}
use Rattle.command_contracts.specs.Programs.{Defines}
use Rattle.command_contracts.specs.declared.status.Status.{Status}
use Rattle.check_command.proofs.ReadingLemmas.{run_answers}
use Rattle.judge_command.specs.JudgeAnswers.{PutsProof, judge_answers, judgement_end, judgement_line, strong_judgement_end, strong_judgement_line}
use Rattle.judge_command.specs.JudgePromise.{judge_program}
use Rattle.judge_command.specs.declared.judge_question.Judge.{Judge}
use Rattle.stnu_run.specs.PrintedCertificates.{BeginsWithOnePlan, BeginsWithPlan, DefinesJust, IsAccepted, judge_of, with_end}
use Rattle.stnu_run.proofs.ClosedTextLemmas.{IsClosed, closed_printed}
use Rattle.stnu_run.proofs.JudgedInputLemmas.{both_read, initial_pair, plan_and_rest, plan_declared}
use Rattle.stnu_run.proofs.ShortLineLemmas.{certificate_lines_short, rule_lines_few}
use Rattle.stnu_run.proofs.SpelledLemmas.{accepted_spelled}
use Rattle.stnu_run.proofs.StrongAcceptedLemmas.{closed_strong, strong_lines_short, strong_spelled}

-- an input begins with one plan at most
pub one_plan : BeginsWithOnePlan
one_plan form input plan other one also =
    let rests = (value_one input_reader (initial_input form) 0 (plan_in form) (input_by form 0) (lines input) one.net also.net one.rest also.rest one.declared also.declared).1 in
    let same : one.text ≡ also.text = append_cancel_right one.text also.text also.rest (ap (λ (rest : List (List ℕ)). one.text ++ rest) (sym rests) ∙ (sym one.divided ∙ also.divided)) in
    one.whole ∙ (ap (λ (text : List (List ℕ)). flat_map with_end text) same ∙ sym also.whole)

-- ---- the run of `judge`, by what the reading of its input comes to
module _ (form : PlanForm) (kind : ProofKind) (net : Plan) (value : Proof) (line : List ℕ) (only : (put : List ℕ) (end : End) → PutsProof net value put end → (put ≡ line) × (end ≡ Done)) (puts : PutsProof net value line Done) where
  abbrev answers : Judge → Plan × Proof → ℕ → List ℕ → End → Type 0
  answers judge both last = judge_answers judge both

  abbrev Puts : Outcome (Plan × Proof) Fault → List ℕ → End → Type 0
  Puts outcome put end = AnswersOutcome answers (then_reader input_reader proof_reader) refusing (judge_of form kind) outcome put end

  module _ (input : List ℕ) (number spare_capacity : ℕ) (left : List InputLine)
      (read : reading (then_reader input_reader proof_reader) (begins (initial_pair form kind)) (input_lines input) ≡ Given (net, value) number spare_capacity left) where
    judges : (put : List ℕ) (status : Status) → Defines (judge_program (judge_of form kind)) input put status → (put ≡ line) × (status ≡ record { 0 = 0 })
    judges put status (end, is, runs) =
        let answered : Puts (Given (net, value) number spare_capacity left) put end =
        subst (λ (o : Outcome (Plan × Proof) Fault). Puts o put end) read (runs_are answers (then_reader input_reader proof_reader) refusing (judge_of form kind) (initial_pair form kind) input put end runs) in
        let same = only put end answered in
        (same.0, is ∙ ap (λ (e : End). let s : Status = record { 0 = end_number e } in s) same.1)

    judged_so : (put : List ℕ) (status : Status) → (put ≡ line) × (status ≡ record { 0 = 0 }) → Defines (judge_program (judge_of form kind)) input put status
    judged_so put status (same, is) =
        let answered : Puts (Given (net, value) number spare_capacity left) put Done = subst (λ (bytes : List ℕ). PutsProof net value bytes Done) (sym same) puts in (
          Done,
          is,
          run_answers answers (then_reader input_reader proof_reader) refusing (judge_of form kind) (initial_pair form kind) input put Done (subst (λ (o : Outcome (Plan × Proof) Fault). Puts o put Done) (sym read) answered),
        )

    accepts : DefinesJust (judge_program (judge_of form kind)) input line 0
    accepts put status = (judges put status, judged_so put status)

-- ---- lines that declare a certificate are read as one, wherever they stand
read_as : (past : ℕ) (all : List (List ℕ)) (cert : Certificate) (after : List (List ℕ)) → DeclareCertificate all cert after → (proof_texts Control past).declares all (proof.Control cert) after
read_as past all cert after declared = record {
  value = cert;
  text = declared.prefix ++ declared.last ∷ [];
  whole = declared.whole ∙ sym (append_assoc declared.prefix (declared.last ∷ []) after);
  declared = declared;
  passes = refl;
}

read_as_strong : (past : ℕ) (all : List (List ℕ)) (cert : StrongCert) (after : List (List ℕ)) → DeclareStrong all cert after → (proof_texts Strong past).declares all (proof.Strong cert) after
read_as_strong past all cert after declared = record {
  value = cert;
  text = declared.prefix ++ declared.last ∷ [];
  whole = declared.whole ∙ sym (append_assoc declared.prefix (declared.last ∷ []) after);
  declared = declared;
  passes = refl;
}

closed_certificate : (cert : Certificate) → IsClosed (printed_certificate cert)
unfolding printed_certificate
closed_certificate cert = closed_printed (certificate_words cert)

-- ---- what is put of a certificate that the judge accepts
module _ (net : Plan) (cert : Certificate) (claim : Claim) (accepted : judgement_of (shown_form net) cert ≡ Accepted claim) where
  only_accepted : (put : List ℕ) (end : End) → PutsProof net (proof.Control cert) put end → (put ≡ judgement_line (Accepted claim)) × (end ≡ Done)
  only_accepted put end puts = (puts.0 ∙ ap (λ (judgement : Judgement). judgement_line judgement) accepted, puts.1 ∙ ap (λ (judgement : Judgement). judgement_end judgement) accepted)

  puts_accepted : PutsProof net (proof.Control cert) (judgement_line (Accepted claim)) Done
  puts_accepted = (ap (λ (judgement : Judgement). judgement_line judgement) (sym accepted), ap (λ (judgement : Judgement). judgement_end judgement) (sym accepted))

module _ (net : Plan) (cert : StrongCert) (accepted : strong_judgement_of net cert ≡ strong.Accepted) where
  only_strong : (put : List ℕ) (end : End) → PutsProof net (proof.Strong cert) put end → (put ≡ strong_judgement_line strong.Accepted) × (end ≡ Done)
  only_strong put end puts = (puts.0 ∙ ap (λ (judgement : StrongJudgement). strong_judgement_line judgement) accepted, puts.1 ∙ ap (λ (judgement : StrongJudgement). strong_judgement_end judgement) accepted)

  puts_strong : PutsProof net (proof.Strong cert) (strong_judgement_line strong.Accepted) Done
  puts_strong = (ap (λ (judgement : StrongJudgement). strong_judgement_line judgement) (sym accepted), ap (λ (judgement : StrongJudgement). strong_judgement_end judgement) (sym accepted))

-- ---- a certificate of the network of an input
module _ (form : PlanForm) (input : List ℕ) (net : Plan) (used rest : List InputLine) (divided : input_lines input ≡ used ++ rest) (declares : DeclaresBy (plan_in form) used rest net) where
  begins_so : BeginsWithPlan form input (flat_map with_end (texts used))
  begins_so = record {
    text = texts used;
    rest = texts rest;
    net = net;
    divided = plan_and_rest form input net used rest divided declares;
    declared = plan_declared form input net used rest divided declares;
    whole = refl;
  }

  plan_sound : IsPlan net
  plan_sound = input_sound form (lines input) net (texts rest) (plan_declared form input net used rest divided declares)

  module _ (cert : Certificate) (claim : Claim) (accepted : judgement_of (shown_form net) cert ≡ Accepted claim) where
    pub accepts_it : length (flat_map with_end (texts used) ++ printed_certificate cert) ≤ most_input
        → DefinesJust (judge_program (judge_of form Control)) (flat_map with_end (texts used) ++ printed_certificate cert) (judgement_line (Accepted claim)) 0
    accepts_it fits =
        let few = rule_lines_few cert in
        let size = length-append (flat_map with_end (texts used)) (printed_certificate cert) in
        let spelled = accepted_spelled (shown_form net) (shown_sound net plan_sound) cert claim (omega (arith, few, size, fits)) accepted in
        let (after, text) = printed_is_text cert spelled in
        let (number, spare_capacity, left, read) = both_read form input net used rest divided declares Control (proof.Control cert) (printed_certificate cert) after (closed_certificate cert)
        (λ past. read_as past (lines (printed_certificate cert)) cert after text) (certificate_lines_short cert spelled) fits in
        accepts form Control net (proof.Control cert) (judgement_line (Accepted claim)) (only_accepted net cert claim accepted) (puts_accepted net cert claim accepted) (flat_map with_end (texts used) ++ printed_certificate cert)
        number spare_capacity left read

    pub accepted_after : IsAccepted form (judge_program (judge_of form Control)) input (printed_certificate cert) (judgement_line (Accepted claim))
    accepted_after = record { plan = flat_map with_end (texts used); begins = begins_so; accepted = accepts_it }

  module _ (cert : StrongCert) (one : OfOneKind cert) (accepted : strong_judgement_of net cert ≡ strong.Accepted) where
    accepts_strong : length (flat_map with_end (texts used) ++ printed_strong cert) ≤ most_input
        → DefinesJust (judge_program (judge_of form Strong)) (flat_map with_end (texts used) ++ printed_strong cert) (strong_judgement_line strong.Accepted) 0
    accepts_strong fits =
        let spelled = strong_spelled net plan_sound cert one accepted in
        let (after, text) = printed_is_strong cert spelled in
        let (number, spare_capacity, left, read) = both_read form input net used rest divided declares Strong (proof.Strong cert) (printed_strong cert) after (closed_strong cert)
        (λ past. read_as_strong past (lines (printed_strong cert)) cert after text) (strong_lines_short cert spelled) fits in
        accepts form Strong net (proof.Strong cert) (strong_judgement_line strong.Accepted) (only_strong net cert accepted) (puts_strong net cert accepted) (flat_map with_end (texts used) ++ printed_strong cert)
        number spare_capacity left read

    pub strong_accepted_after : IsAccepted form (judge_program (judge_of form Strong)) input (printed_strong cert) (strong_judgement_line strong.Accepted)
    strong_accepted_after = record { plan = flat_map with_end (texts used); begins = begins_so; accepted = accepts_strong }
