-- What `proof` of a session puts is accepted by `judge`, given the plan text of the network as it stands.
use Rattle.std.proofs.Common.{◌≡◌, ◌↔◌, ℕ, List, [], ◌∷◌, ◌++◌, Some, refl, sym, ap, subst, inl, inr}
use Rattle.net_model.specs.Network.{Plan, HasPlanNumbers, IsPlan}
use Rattle.net_model.specs.ShownForm.{shown_form}
use Rattle.cert_format.specs.CertificateWords.{printed_certificate}
use Rattle.cert_format.specs.declared.certificate.Certificate.{Certificate}
use Rattle.cert_checker.specs.declared.judgement.Claim.TheVariants.{Controllable, NotControllable}
use Rattle.closure_certificates.specs.Certified.{Certifies}
use Rattle.edit_script.specs.declared.step.Step.{Step}
use Rattle.edit_script.specs.declared.step.Step.TheVariants as step
use Rattle.input_texts.specs.PlanInput.{in_notation}
use Rattle.input_texts.specs.declared.plan_input.Notation.TheVariants.{Text}
use Rattle.input_texts.specs.declared.plan_input.PlanForm.{PlanForm}
use Rattle.input_texts.specs.declared.proof_input.ProofKind.TheVariants.{Control}
use Rattle.command_contracts.specs.PlanWords.{SayFormAndWorkers}
use Rattle.command_contracts.specs.Programs.{Defines, Program, PromiseHolds}
use Rattle.command_contracts.specs.Requests.{program_of_request, requested_by}
use Rattle.judge_command.specs.JudgeAnswers.{judge_request, judge_syntax}
use Rattle.judge_command.specs.JudgePromise.{judge_program}
use Rattle.judge_command.specs.Words.{SayJudge}
use Rattle.judge_command.specs.declared.judge_question.Judge.{Judge}
use Rattle.session_command.specs.SessionPromise.{session_program}
use Rattle.session_command.specs.Sessions.{SaysProof, session_request, session_syntax}
use Rattle.stnu_run.specs.PrintedCertificates.{judge_of}
use Rattle.stnu_run.specs.SessionCertificates.{IsAcceptedOf, PutsAcceptedProof, SessionPutsAccepted}
use Rattle.stnu_run.specs.DefinedRuns.{DefinedRun}
use Rattle.stnu_run.specs.RunClaims.{HoldsOfDefinedRuns}
use Rattle.stnu_run.proofs.PrintedPlanLemmas.{accepted_after_plan}
use Rattle.stnu_run.proofs.SessionQuestionLemmas.{AnswersLast, answers_last, with_question}

-- ---- the certificate is accepted
module _ (net : Plan) (plan : IsPlan net) (numbers : HasPlanNumbers net) where
  certified : (cert : Certificate) → Certifies (shown_form net) cert → IsAcceptedOf (judge_program (judge_of (in_notation Text) Control)) net (printed_certificate cert)
  certified cert (inl proves) = inl (λ fits. accepted_after_plan net plan numbers cert Controllable proves.accepted fits)
  certified cert (inr refutes) = inr (λ fits. accepted_after_plan net plan numbers cert NotControllable refutes.accepted fits)

  proof_accepted : (answer : List ℕ) → SaysProof net answer → IsAcceptedOf (judge_program (judge_of (in_notation Text) Control)) net answer
  proof_accepted answer (cert, certifies, is) = subst (λ (bytes : List ℕ). IsAcceptedOf (judge_program (judge_of (in_notation Text) Control)) net bytes) (sym is) (certified cert certifies)

accepted_last : (first net : Plan) (steps : List Step) (put : List ℕ) → AnswersLast step.Proof first net steps put → PutsAcceptedProof (judge_program (judge_of (in_notation Text) Control)) first net steps put
accepted_last first net steps put last = record {
  before = last.before;
  certificate = last.answer;
  more = last.more;
  says = last.says;
  all = last.all;
  accepted = proof_accepted net last.sound last.numbers last.answer (subst (λ (n : Plan). SaysProof n last.answer) last.stands last.answered);
}

-- ---- by the words
pub session_proofs_are_accepted : ((form : PlanForm) → PromiseHolds (session_program form))
    → ((words : List (List ℕ)) (form : PlanForm) → requested_by session_syntax session_request words ≡ Some form ↔ SayFormAndWorkers session_syntax form words)
    → ((words : List (List ℕ)) (judge : Judge) → requested_by judge_syntax judge_request words ≡ Some judge ↔ SayJudge judge_syntax judge words)
    → HoldsOfDefinedRuns SessionPutsAccepted
session_proofs_are_accepted keeps session_words judge_words words input put status defines program other asked judged form same say judges first net steps next =
    let (end, is, runs) = subst (λ (one : Program). Defines one input put status) (ap (program_of_request session_program) ((session_words asked form).1 say)) (subst (λ (ws : List (List ℕ)). DefinedRun ws input put status) same defines) in
    let says = (keeps form input put end runs).says first net (steps ++ step.Proof ∷ []) (with_question step.Proof (λ one. tt) (λ one. refl) form input first net steps next) in
    subst (λ (one : Program). PutsAcceptedProof one first net steps put) (sym (ap (program_of_request judge_program) ((judge_words judged (judge_of (in_notation Text) Control)).1 judges)))
    (accepted_last first net steps put (answers_last step.Proof (λ one. tt) (λ one. refl) form input first net steps next put says))
