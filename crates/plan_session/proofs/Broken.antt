-- What a broken session answers.
use Rattle.std.proofs.Common.{◌≡◌, Option, Result, Ok, Err, refl, subst}
use Rattle.std.specs.Prelude.{IsSome}
use Rattle.net_model.specs.declared.edit.Edit.{Edit}
use Rattle.cert_format.specs.declared.certificate.Certificate.{Certificate}
use Rattle.plan_session.specs.Laws.{BrokenSessionsSaySo}
use Rattle.plan_session.specs.Sessions.{Opened, State, IsOpen, IsBroken, AnswersEdit, IsVerdictOf, AnswersProof}
use Rattle.plan_session.specs.declared.answers.Report.{Report}
use Rattle.plan_session.specs.declared.answers.SessionFault.{SessionFault}
use Rattle.plan_session.specs.declared.answers.SessionFault.TheVariants as fault
use Rattle.plan_session.specs.declared.answers.AskFault.{AskFault}
use Rattle.plan_session.specs.declared.answers.AskFault.TheVariants as ask_fault
use Rattle.plan_session.specs.declared.answers.Verdict.{Verdict}
use Rattle.plan_session.specs.declared.answers.Verdict.TheVariants as answered

module _ (session : State) (broken : IsBroken session) where
  not_open : IsOpen session → ⊥
  not_open some = let none = subst (λ (held : Option Opened). IsSome held) broken some in absurd cc

  to_edits : (edit : Edit) (answer : Result Report SessionFault) (after : State) → AnswersEdit session edit answer after → (answer ≡ Err fault.Broken) × (after ≡ session)
  to_edits edit (Ok report) after accepts = let was = accepts.was in absurd cc
  to_edits edit (Err (fault.Edit cause)) after said = absurd (not_open said.0)
  to_edits edit (Err fault.OutOfMemory) after said = absurd (not_open said.0)
  to_edits edit (Err fault.Broken) after said = (refl, said.1)

  as_verdict : (verdict : Verdict) → IsVerdictOf session verdict → verdict ≡ answered.Broken
  as_verdict answered.Controllable is = absurd (not_open is.0)
  as_verdict answered.NotControllable is = absurd (not_open is.0)
  as_verdict answered.Broken is = refl

  as_proof : (answer : Result Certificate AskFault) → AnswersProof session answer → answer ≡ Err ask_fault.Broken
  as_proof (Ok cert) said = absurd (not_open said.0)
  as_proof (Err ask_fault.Broken) said = refl
  as_proof (Err ask_fault.OutOfMemory) said = absurd (not_open said)

pub law_broken_sessions_say_so : BrokenSessionsSaySo
law_broken_sessions_say_so session broken = record {
  edits = to_edits session broken;
  verdict = as_verdict session broken;
  proof = as_proof session broken;
}
