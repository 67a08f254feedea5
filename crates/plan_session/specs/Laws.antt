-- What holds of sessions.
use Rattle.std.specs.Prelude.{◌≡◌, Result, Err}
use Rattle.net_model.specs.Network.{Plan}
use Rattle.net_model.specs.declared.edit.Edit.{Edit}
use Rattle.cert_format.specs.declared.certificate.Certificate.{Certificate}
use Rattle.plan_session.specs.Sessions.{Opened, State, IsBroken, Opens, FollowsEdit, AnswersEdit, IsVerdictOf, AnswersProof}
use Rattle.plan_session.specs.declared.answers.Report.{Report}
use Rattle.plan_session.specs.declared.answers.SessionFault.{SessionFault}
use Rattle.plan_session.specs.declared.answers.SessionFault.TheVariants as fault
use Rattle.plan_session.specs.declared.answers.AskFault.{AskFault}
use Rattle.plan_session.specs.declared.answers.AskFault.TheVariants as ask_fault
use Rattle.plan_session.specs.declared.answers.Verdict.{Verdict}
use Rattle.plan_session.specs.declared.answers.Verdict.TheVariants as answered

-- a session is opened in one way
abbrev pub SessionsOpenInOneWay : Type 0
SessionsOpenInOneWay = (net : Plan) (one other : Opened) → Opens net one → Opens net other → one ≡ other

-- and it follows an edit in one way, with one report
abbrev pub EditsAreFollowedInOneWay : Type 0
EditsAreFollowedInOneWay =
    (old : Plan) (edit : Edit) (new : Plan) (before one other : Opened) (report also : Report) → FollowsEdit old edit new before one report
    → FollowsEdit old edit new before other also → (one ≡ other) × (report ≡ also)

-- a session says that it is broken to every edit, and stays as it is, and to whoever asks for its verdict or its certificate
pub record SaysBroken (session : State) : Type 0 where
  pub edits : (edit : Edit) (answer : Result Report SessionFault) (after : State) → AnswersEdit session edit answer after
      → (answer ≡ Err fault.Broken) × (after ≡ session)
  pub verdict : (verdict : Verdict) → IsVerdictOf session verdict → verdict ≡ answered.Broken
  pub proof : (answer : Result Certificate AskFault) → AnswersProof session answer → answer ≡ Err ask_fault.Broken

abbrev pub BrokenSessionsSaySo : Type 0
BrokenSessionsSaySo = (session : State) → IsBroken session → SaysBroken session
