-- Printed means accepted: what `check` or `strong` puts as a certificate `judge` accepts, given the plan of the same input and the certificate after it.
use Rattle.std.specs.Prelude.{◌≡◌, ◌↔◌, ℕ, ◌≤◌, true, List, [], ◌∷◌, ◌++◌, codes, length}
use Rattle.std.specs.List.{flat_map}
use Rattle.texts.specs.Lines.{lines}
use Rattle.texts.specs.PrintedLines.{printed_line}
use Rattle.net_model.specs.Network.{Plan}
use Rattle.command_engine.specs.Limits.{most_input}
use Rattle.common_answers.specs.VerdictLines.{controllable_line, refuted_line}
use Rattle.input_texts.specs.PlanInput.{plan_in}
use Rattle.input_texts.specs.declared.plan_input.PlanForm.{PlanForm}
use Rattle.input_texts.specs.declared.proof_input.ProofKind.{ProofKind}
use Rattle.input_texts.specs.declared.proof_input.ProofKind.TheVariants.{Control, Strong}
use Rattle.command_contracts.specs.Programs.{Defines, Program}
use Rattle.command_contracts.specs.declared.status.Status.{Status}
use Rattle.check_command.specs.CheckAnswers.{check_syntax}
use Rattle.check_command.specs.Words.{SayCheckFlags}
use Rattle.check_command.specs.declared.check_question.CheckFlags.{CheckFlags}
use Rattle.judge_command.specs.JudgeAnswers.{judge_syntax}
use Rattle.judge_command.specs.Words.{SayJudge}
use Rattle.judge_command.specs.declared.judge_question.Judge.{Judge}
use Rattle.strong_command.specs.StrongAnswers.{SayStrong, not_strong_line}
use Rattle.strong_command.specs.declared.strong_question.StrongQuestion.{StrongQuestion}
use Rattle.stnu_run.specs.DefinedRuns.{program_of, strong_word}

-- a line with its end
abbrev pub with_end : List ℕ → List ℕ
with_end line = line ++ 10 ∷ []

-- The plan with which an input begins, as a text of its own: its lines up to the one that ends it, each with its end. What the input has after that line is
-- no part of it.
pub record BeginsWithPlan (form : PlanForm) (input plan : List ℕ) : Type 0 where
  pub text : List (List ℕ)
  pub rest : List (List ℕ)
  pub net : Plan
  pub divided : lines input ≡ text ++ rest
  pub declared : (plan_in form).declares (lines input) net rest
  pub whole : plan ≡ flat_map with_end text

-- for an input a program puts just these bytes, with this status
abbrev pub DefinesJust : Program → (input wanted : List ℕ) → (number : ℕ) → Type 0
DefinesJust program input wanted number =
    (put : List ℕ) (status : Status) → Defines program input put status ↔ ((put ≡ wanted) × (status ≡ record { 0 = number }))

-- The plan with which an input begins, and a certificate after it, are what a program accepts: it puts just this line of them, with status 0, if together they
-- are no more than an input may be.
pub record IsAccepted (form : PlanForm) (judging : Program) (input certificate line : List ℕ) : Type 0 where
  pub plan : List ℕ
  pub begins : BeginsWithPlan form input plan
  pub accepted : length (plan ++ certificate) ≤ most_input → DefinesJust judging (plan ++ certificate) line 0

-- the lines by which `judge` accepts a refutation, a table proof, and a strong certificate
abbrev pub accepted_refutation : List ℕ
accepted_refutation = printed_line (codes "accepted not controllable" ∷ [])

abbrev pub accepted_proof : List ℕ
accepted_proof = printed_line (codes "accepted controllable" ∷ [])

abbrev pub accepted_strong : List ℕ
accepted_strong = printed_line (codes "accepted not strongly controllable" ∷ [])

-- what is requested of `judge` for a plan of this form and a certificate of this kind
abbrev pub judge_of : PlanForm → ProofKind → Judge
judge_of form kind = record { form = form; kind = kind }

-- What is put by `check` as a certificate is accepted. `refutation`: so is all that stands after the line `not controllable`. `proof`: so is, if a proof is
-- wanted, all that stands after the line `controllable`.
pub record CheckPutsAccepted (flags : CheckFlags) (judging : Program) (input put : List ℕ) : Type 0 where
  pub refutation : (certificate : List ℕ) → put ≡ refuted_line ++ certificate → IsAccepted flags.form judging input certificate accepted_refutation
  pub proof : flags.proof ≡ true → (certificate : List ℕ) → put ≡ controllable_line ++ certificate
      → IsAccepted flags.form judging input certificate accepted_proof

-- what is put by `strong` as a certificate is accepted: all that stands after the line `not strongly controllable`
abbrev pub StrongPutsAccepted : (query : StrongQuestion) (judging : Program) (input put : List ℕ) → Type 0
StrongPutsAccepted query judging input put =
    (certificate : List ℕ) → put ≡ not_strong_line ++ certificate → IsAccepted query.form judging input certificate accepted_strong

-- If the words are those of `check`, or of `strong`, what is put as a certificate is accepted by `judge`, whatever words request that of it for a plan of the
-- same form.
pub record PrintsAccepted (words : List (List ℕ)) (input put : List ℕ) (status : Status) : Type 0 where
  pub check : (program other : List ℕ) (asked judged : List (List ℕ)) (flags : CheckFlags) → words ≡ program ∷ codes "check" ∷ asked
      → SayCheckFlags check_syntax flags asked → SayJudge judge_syntax (judge_of flags.form Control) judged
      → CheckPutsAccepted flags (program_of (other ∷ codes "judge" ∷ judged)) input put
  pub strong : (program other : List ℕ) (asked judged : List (List ℕ)) (query : StrongQuestion) → words ≡ program ∷ strong_word ∷ asked
      → SayStrong query asked → SayJudge judge_syntax (judge_of query.form Strong) judged
      → StrongPutsAccepted query (program_of (other ∷ codes "judge" ∷ judged)) input put

-- an input begins with one plan at most
abbrev pub BeginsWithOnePlan : Type 0
BeginsWithOnePlan = (form : PlanForm) (input plan other : List ℕ) → BeginsWithPlan form input plan → BeginsWithPlan form input other → plan ≡ other
