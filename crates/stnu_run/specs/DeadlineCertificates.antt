-- The certificates that `deadline` puts are accepted by `judge`, each given the plan text of the network with the bound to which it belongs.
use Rattle.std.specs.Prelude.{◌≡◌, ℕ, ℤ, pos, ◌-ℤ◌, List, ◌∷◌, codes}
use Rattle.texts.specs.Lines.{input_lines}
use Rattle.net_model.specs.Network.{Plan}
use Rattle.cert_format.specs.CertificateWords.{printed_certificate}
use Rattle.deadline_search.specs.Answers.{IsAnswerOf}
use Rattle.deadline_search.specs.Deadlines.{IsFull, highest, lowest}
use Rattle.deadline_search.specs.Goals.{with_goal}
use Rattle.deadline_search.specs.declared.answer.Deadline.{Deadline}
use Rattle.deadline_search.specs.declared.answer.Deadline.TheVariants.{NotControllable, Never, Least, Floor}
use Rattle.command_engine.specs.Inputs.{DeclaresWithinLimits}
use Rattle.input_texts.specs.PlanInput.{in_notation}
use Rattle.input_texts.specs.declared.plan_input.Notation.TheVariants.{Text}
use Rattle.input_texts.specs.declared.proof_input.ProofKind.TheVariants.{Control}
use Rattle.command_contracts.specs.Programs.{Program}
use Rattle.judge_command.specs.JudgeAnswers.{judge_syntax}
use Rattle.judge_command.specs.Words.{SayJudge}
use Rattle.deadline_command.specs.DeadlineAnswers.{deadline_syntax, deadline_text}
use Rattle.deadline_command.specs.Points.{PlanPoints, points_in}
use Rattle.deadline_command.specs.Words.{SayDeadline}
use Rattle.deadline_command.specs.declared.points.DeadlineWords.{DeadlineWords}
use Rattle.stnu_run.specs.DefinedRuns.{program_of}
use Rattle.stnu_run.specs.RunClaims.{RunClaim}
use Rattle.stnu_run.specs.PrintedCertificates.{accepted_proof, accepted_refutation, judge_of}
use Rattle.stnu_run.specs.SessionCertificates.{IsAcceptedAs}

-- the network with the bound of the goal between the two points, of this name and number, as its last
abbrev pub with_goal_between : PlanPoints → (name : List ℕ) → (most : ℤ) → Plan
with_goal_between query name most = with_goal query.net (record { name = name; from = query.from; to = query.to }) most

-- Each certificate of an answer is accepted: the proof of the network with the bound at the deadline, the refutation of it with the bound at the number before,
-- or at the greatest number if none is a deadline.
abbrev pub AreAccepted : (judging : Program) → PlanPoints → Deadline → Type 0
AreAccepted judging query (NotControllable refutation) = IsAcceptedAs judging query.net (printed_certificate refutation) accepted_refutation
AreAccepted judging query (Never name refutation) =
    IsAcceptedAs judging (with_goal_between query name highest) (printed_certificate refutation) accepted_refutation
AreAccepted judging query (Least name most proof refutation) =
    IsAcceptedAs judging (with_goal_between query name most) (printed_certificate proof) accepted_proof
    × IsAcceptedAs judging (with_goal_between query name (most -ℤ pos 1)) (printed_certificate refutation) accepted_refutation
AreAccepted judging query (Floor name proof) =
    IsAcceptedAs judging (with_goal_between query name lowest) (printed_certificate proof) accepted_proof

-- the answer is put, and its certificates are accepted
pub record PutsAcceptedDeadline (judging : Program) (said : DeadlineWords) (query : PlanPoints) (put : List ℕ) : Type 0 where
  pub deadline : Deadline
  pub is : IsAnswerOf query.net query.from query.to deadline
  pub text : put ≡ deadline_text said deadline
  pub accepted : AreAccepted judging query deadline

-- what words of `deadline` put for an input that declares a network with both points, and with capacity for one bound more, has certificates that `judge`
-- accepts, whatever words request that of it for a plan text
abbrev pub DeadlinePutsAccepted : RunClaim
DeadlinePutsAccepted words input put status =
    (program other : List ℕ) (asked judged : List (List ℕ)) (said : DeadlineWords) → words ≡ program ∷ codes "deadline" ∷ asked
    → SayDeadline deadline_syntax said asked → SayJudge judge_syntax (judge_of (in_notation Text) Control) judged
    → (query : PlanPoints) → DeclaresWithinLimits (points_in said) (input_lines input) query → ¬ IsFull query.net
    → PutsAcceptedDeadline (program_of (other ∷ codes "judge" ∷ judged)) said query put
