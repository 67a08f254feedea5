-- What `verdict` of a session puts is what `check` says of the plan text of the network as it stands.
use Rattle.std.proofs.Common.{◌≡◌, ◌↔◌, ℕ, List, [], ◌∷◌, ◌++◌, Some, refl, ap, subst, inl, inr}
use Rattle.net_model.specs.Network.{Plan, HasPlanNumbers, IsPlan}
use Rattle.edit_script.specs.declared.step.Step.{Step}
use Rattle.edit_script.specs.declared.step.Step.TheVariants as step
use Rattle.input_texts.specs.PlanInput.{in_notation}
use Rattle.input_texts.specs.declared.plan_input.Notation.TheVariants.{Text}
use Rattle.input_texts.specs.declared.plan_input.PlanForm.{PlanForm}
use Rattle.command_contracts.specs.PlanWords.{SayFormAndWorkers}
use Rattle.command_contracts.specs.Programs.{Defines, Program, PromiseHolds}
use Rattle.command_contracts.specs.Requests.{program_of_request, requested_by}
use Rattle.check_command.specs.CheckAnswers.{check_request, check_syntax}
use Rattle.check_command.specs.CheckPromise.{check_program}
use Rattle.check_command.specs.Words.{SayCheckFlags}
use Rattle.check_command.specs.declared.check_question.CheckFlags.{CheckFlags}
use Rattle.session_command.specs.SessionPromise.{session_program}
use Rattle.session_command.specs.Sessions.{SaysVerdict, session_request, session_syntax}
use Rattle.stnu_run.specs.AcrossCommands.{AgreesWithVerdict, PutsVerdictOfCheck, VerdictAgreesWithCheck}
use Rattle.stnu_run.proofs.SessionQuestionLemmas.{AnswersLast, answers_last, with_question}
use Rattle.stnu_run.specs.DefinedRuns.{DefinedRun}
use Rattle.stnu_run.specs.RunClaims.{HoldsOfDefinedRuns}
use Rattle.stnu_run.proofs.VerdictLemmas.{checking_is, plan_controllable, plan_refuted}

module _ (flags : CheckFlags) (own : flags.form ≡ in_notation Text) where
  agrees : (net : Plan) → IsPlan net → HasPlanNumbers net → (answer : List ℕ) → SaysVerdict net answer → AgreesWithVerdict flags (check_program flags) net answer
  agrees net plan numbers answer (inl (controllable, is)) = inl (is, plan_controllable flags own net plan numbers controllable)
  agrees net plan numbers answer (inr (never, is)) = inr (is, plan_refuted flags own net plan numbers never)

  verdict_last : (first net : Plan) (steps : List Step) (put : List ℕ) → AnswersLast step.Verdict first net steps put → PutsVerdictOfCheck flags (check_program flags) first net steps put
  verdict_last first net steps put last = record {
    before = last.before;
    answer = last.answer;
    more = last.more;
    says = last.says;
    all = last.all;
    agrees = agrees net last.sound last.numbers last.answer (subst (λ (n : Plan). SaysVerdict n last.answer) last.stands last.answered);
  }

-- ---- by the words
pub verdicts_agree_with_check : ((form : PlanForm) → PromiseHolds (session_program form))
    → ((words : List (List ℕ)) (form : PlanForm) → requested_by session_syntax session_request words ≡ Some form ↔ SayFormAndWorkers session_syntax form words)
    → ((words : List (List ℕ)) (flags : CheckFlags) → requested_by check_syntax check_request words ≡ Some flags ↔ SayCheckFlags check_syntax flags words)
    → HoldsOfDefinedRuns VerdictAgreesWithCheck
verdicts_agree_with_check keeps session_words check_words words input put status defines program other asked checked form flags named say also own first net steps next =
    let (end, is, runs) = subst (λ (one : Program). Defines one input put status) (ap (program_of_request session_program) ((session_words asked form).1 say)) (subst (λ (ws : List (List ℕ)). DefinedRun ws input put status) named defines) in
    let says = (keeps form input put end runs).says first net (steps ++ step.Verdict ∷ []) (with_question step.Verdict (λ one. tt) (λ one. refl) form input first net steps next) in
    subst (λ (one : Program). PutsVerdictOfCheck flags one first net steps put) (checking_is check_words other checked flags also)
    (verdict_last flags own first net steps put (answers_last step.Verdict (λ one. tt) (λ one. refl) form input first net steps next put says))
