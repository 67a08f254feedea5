-- What `proof` of a session puts is accepted by `judge`, given the plan that `plan` prints then.
use Rattle.std.specs.Prelude.{◌≡◌, ◌⊎◌, ℕ, ◌≤◌, List, ◌∷◌, ◌++◌, codes, length}
use Rattle.texts.specs.Lines.{input_lines}
use Rattle.net_model.specs.Network.{Plan}
use Rattle.plan_format.specs.PlanPrinting.{printed_plan}
use Rattle.edit_script.specs.declared.step.Step.{Step}
use Rattle.edit_script.specs.declared.step.Step.TheVariants as step
use Rattle.command_engine.specs.Limits.{most_input}
use Rattle.input_texts.specs.PlanInput.{in_notation}
use Rattle.input_texts.specs.declared.plan_input.Notation.TheVariants.{Text}
use Rattle.input_texts.specs.declared.plan_input.PlanForm.{PlanForm}
use Rattle.input_texts.specs.declared.proof_input.ProofKind.TheVariants.{Control}
use Rattle.command_contracts.specs.PlanWords.{SayFormAndWorkers}
use Rattle.command_contracts.specs.Programs.{Program}
use Rattle.judge_command.specs.JudgeAnswers.{judge_syntax}
use Rattle.judge_command.specs.Words.{SayJudge}
use Rattle.session_command.specs.SessionPromise.{IsNext, SaysAll}
use Rattle.session_command.specs.Sessions.{session_syntax}
use Rattle.stnu_run.specs.DefinedRuns.{program_of}
use Rattle.stnu_run.specs.RunClaims.{RunClaim}
use Rattle.stnu_run.specs.PrintedCertificates.{DefinesJust, accepted_proof, accepted_refutation, judge_of}

-- A certificate of a network is what a program accepts by this line, given the plan text of the network before it: it puts just that line, with status 0, if
-- text and certificate are no more than an input may be.
abbrev pub IsAcceptedAs : (judging : Program) → Plan → (certificate line : List ℕ) → Type 0
IsAcceptedAs judging net certificate line =
    length (printed_plan net ++ certificate) ≤ most_input → DefinesJust judging (printed_plan net ++ certificate) line 0

-- by the line that the network is controllable, or by that which says that it is not
abbrev pub IsAcceptedOf : (judging : Program) → Plan → (certificate : List ℕ) → Type 0
IsAcceptedOf judging net certificate = IsAcceptedAs judging net certificate accepted_proof ⊎ IsAcceptedAs judging net certificate accepted_refutation

-- A line `proof` comes after lines of a session that state these steps. After the answers to them a certificate is put, and it is accepted, given the plan text
-- of the network as it stands then, which is what a line `plan` is answered.
pub record PutsAcceptedProof (judging : Program) (first net : Plan) (steps : List Step) (put : List ℕ) : Type 0 where
  pub before : List ℕ
  pub certificate : List ℕ
  pub more : List ℕ
  pub says : SaysAll first steps before
  pub all : put ≡ before ++ (certificate ++ more)
  pub accepted : IsAcceptedOf judging net certificate

-- what words of `session` put for each line `proof` is accepted by `judge`, whatever words request that of it for a plan text
abbrev pub SessionPutsAccepted : RunClaim
SessionPutsAccepted words input put status =
    (program other : List ℕ) (asked judged : List (List ℕ)) (form : PlanForm) → words ≡ program ∷ codes "session" ∷ asked
    → SayFormAndWorkers session_syntax form asked → SayJudge judge_syntax (judge_of (in_notation Text) Control) judged
    → (first net : Plan) (steps : List Step) → IsNext form (input_lines input) first net steps step.Proof
    → PutsAcceptedProof (program_of (other ∷ codes "judge" ∷ judged)) first net steps put
