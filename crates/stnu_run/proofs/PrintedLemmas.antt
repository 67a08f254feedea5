-- What the words of `check` and `strong` put as a certificate is accepted by the words of `judge`.
use Rattle.std.proofs.Common.{◌≡◌, ◌↔◌, ℕ, List, ◌∷◌, Some, codes, sym, ap, subst}
use Rattle.input_texts.specs.declared.plan_input.PlanForm.{PlanForm}
use Rattle.input_texts.specs.declared.proof_input.ProofKind.{ProofKind}
use Rattle.input_texts.specs.declared.proof_input.ProofKind.TheVariants.{Control, Strong}
use Rattle.command_contracts.specs.Programs.{Defines, Program}
use Rattle.command_contracts.specs.Requests.{program_of_request, requested_by}
use Rattle.command_contracts.specs.declared.status.Status.{Status}
use Rattle.check_command.specs.CheckAnswers.{check_request, check_syntax}
use Rattle.check_command.specs.CheckPromise.{check_program}
use Rattle.check_command.specs.Words.{SayCheckFlags}
use Rattle.check_command.specs.declared.check_question.CheckFlags.{CheckFlags}
use Rattle.judge_command.specs.JudgeAnswers.{judge_request, judge_syntax}
use Rattle.judge_command.specs.JudgePromise.{judge_program}
use Rattle.judge_command.specs.Words.{SayJudge}
use Rattle.judge_command.specs.declared.judge_question.Judge.{Judge}
use Rattle.strong_command.specs.StrongAnswers.{SayStrong, strong_program, strong_request, strong_syntax}
use Rattle.strong_command.specs.declared.strong_question.StrongQuestion.{StrongQuestion}
use Rattle.stnu_run.specs.DefinedRuns.{DefinedRun, program_of, strong_word}
use Rattle.stnu_run.specs.RunClaims.{HoldsOfDefinedRuns}
use Rattle.stnu_run.specs.PrintedCertificates.{CheckPutsAccepted, IsAccepted, PrintsAccepted, StrongPutsAccepted, accepted_proof, accepted_refutation, accepted_strong, judge_of}
use Rattle.stnu_run.proofs.CheckedLemmas.{proof_accepted, refutation_accepted}
use Rattle.stnu_run.proofs.StrongPrintedLemmas.{strong_accepted}

module _ (check_words : (words : List (List ℕ)) (flags : CheckFlags) → requested_by check_syntax check_request words ≡ Some flags ↔ SayCheckFlags check_syntax flags words)
    (strong_words : (words : List (List ℕ)) (query : StrongQuestion) → requested_by strong_syntax strong_request words ≡ Some query ↔ SayStrong query words)
    (judge_words : (words : List (List ℕ)) (judge : Judge) → requested_by judge_syntax judge_request words ≡ Some judge ↔ SayJudge judge_syntax judge words) where
  -- what is accepted for a request is accepted for its words
  judged_by_words : (form : PlanForm) (kind : ProofKind) (other : List ℕ) (judged : List (List ℕ)) → SayJudge judge_syntax (judge_of form kind) judged → (input certificate line : List ℕ)
      → IsAccepted form (judge_program (judge_of form kind)) input certificate line → IsAccepted form (program_of (other ∷ codes "judge" ∷ judged)) input certificate line
  judged_by_words form kind other judged say input certificate line accepted =
      subst (λ (one : Program). IsAccepted form one input certificate line) (sym (ap (program_of_request judge_program) ((judge_words judged (judge_of form kind)).1 say))) accepted

  check_accepted : (program other : List ℕ) (asked judged : List (List ℕ)) (flags : CheckFlags) → SayCheckFlags check_syntax flags asked → SayJudge judge_syntax (judge_of flags.form Control) judged → (input put : List ℕ) (status : Status)
      → DefinedRun (program ∷ codes "check" ∷ asked) input put status → CheckPutsAccepted flags (program_of (other ∷ codes "judge" ∷ judged)) input put
  check_accepted program other asked judged flags say judges input put status defines =
      let so : Defines (check_program flags) input put status = subst (λ (one : Program). Defines one input put status) (ap (program_of_request check_program) ((check_words asked flags).1 say)) defines in
      record {
        refutation = λ certificate same.
            judged_by_words flags.form Control other judged judges input certificate accepted_refutation
            (refutation_accepted flags input certificate status (subst (λ (bytes : List ℕ). Defines (check_program flags) input bytes status) same so));
        proof = λ wanted certificate same.
            judged_by_words flags.form Control other judged judges input certificate accepted_proof
            (proof_accepted flags input certificate wanted status (subst (λ (bytes : List ℕ). Defines (check_program flags) input bytes status) same so));
      }

  strong_puts : (program other : List ℕ) (asked judged : List (List ℕ)) (query : StrongQuestion) → SayStrong query asked → SayJudge judge_syntax (judge_of query.form Strong) judged → (input put : List ℕ) (status : Status)
      → DefinedRun (program ∷ strong_word ∷ asked) input put status → StrongPutsAccepted query (program_of (other ∷ codes "judge" ∷ judged)) input put
  strong_puts program other asked judged query say judges input put status defines certificate same =
      let so : Defines (strong_program query) input put status = subst (λ (one : Program). Defines one input put status) (ap (program_of_request strong_program) ((strong_words asked query).1 say)) defines in
      judged_by_words query.form Strong other judged judges input certificate accepted_strong
      (strong_accepted query input certificate status (subst (λ (bytes : List ℕ). Defines (strong_program query) input bytes status) same so))

  pub prints_accepted : HoldsOfDefinedRuns PrintsAccepted
  prints_accepted words input put status defines = record {
    check = λ program other asked judged flags same say judges.
        check_accepted program other asked judged flags say judges input put status (subst (λ (ws : List (List ℕ)). DefinedRun ws input put status) same defines);
    strong = λ program other asked judged query same say judges.
        strong_puts program other asked judged query say judges input put status (subst (λ (ws : List (List ℕ)). DefinedRun ws input put status) same defines);
  }
