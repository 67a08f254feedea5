-- Sessions: a network under edits, with what decides whether it is controllable.
use Rattle.std.specs.Prelude.{◌≡◌, ◌≢◌, ℕ, suc, ◌≤◌, List, ◌++◌, length, Option, Some, None, IsSome, Result, Ok, Err}
use Rattle.std.specs.declared.alloc.AllocError.{AllocError}
use Rattle.net_model.specs.Network.{Plan, IsPlan, HasPlanNumbers}
use Rattle.net_model.specs.EditedNetwork.{edited}
use Rattle.net_model.specs.ShownForm.{shown_form}
use Rattle.net_model.specs.declared.edit.Edit.{Edit}
use Rattle.net_model.specs.declared.edit.EditFault.TheVariants as edit_fault
use Rattle.strategy_model.specs.Control.{IsControllable}
use Rattle.closure_model.specs.Closure.{IsClosure}
use Rattle.closure_model.specs.Derivations.{Support, StandsOn, base_support}
use Rattle.closure_model.specs.Orders.{IsOrder, IsCycle}
use Rattle.closure_model.specs.ReferenceRounds.{Ending, closed, looped, RoundsEnd}
use Rattle.closure_model.specs.declared.derivation.Node.{Node}
use Rattle.edit_laws.specs.EditEffects.{AreWithdrawn}
use Rattle.shared_table_laws.specs.LaterNodes.{ImproveFrom}
use Rattle.support_records.specs.FollowedStores.{IsFollowed}
use Rattle.support_records.specs.declared.store.Withdrawn.{Withdrawn}
use Rattle.cert_format.specs.declared.certificate.Certificate.{Certificate}
use Rattle.closure_certificates.specs.Certified.{Certifies}
use Rattle.network_refutation.specs.PlacedEndings.{IsPlacedBy}
use Rattle.plan_session.specs.declared.answers.Report.{Report}
use Rattle.plan_session.specs.declared.answers.SessionFault.{SessionFault}
use Rattle.plan_session.specs.declared.answers.SessionFault.TheVariants as fault
use Rattle.plan_session.specs.declared.answers.AskFault.{AskFault}
use Rattle.plan_session.specs.declared.answers.AskFault.TheVariants as ask_fault
use Rattle.plan_session.specs.declared.answers.Verdict.{Verdict}
use Rattle.plan_session.specs.declared.answers.Verdict.TheVariants as verdict

-- what is opened of a network: a derivation list with its table, and how the last rounds ended
pub record Opened : Type 0 where
  pub support : Support
  pub ending : Ending

-- a session: the network as it stands, and what is opened of its shown form, unless the session is broken
pub record State : Type 0 where
  pub net : Plan
  pub opened : Option Opened

-- a session that is not broken
abbrev pub open_state : Plan → Opened → State
open_state net opened = record { net = net; opened = Some opened }

-- a session as contracts see it: how it stands, and how many workers make its rounds
pub record SessionView : Type 0 where
  pub state : State
  pub workers : ℕ

-- a session is open: something is opened
abbrev pub IsOpen : State → Type 0
IsOpen session = IsSome session.opened

-- a session is broken: nothing is opened
abbrev pub IsBroken : State → Type 0
IsBroken session = session.opened ≡ None

-- how the rounds ended says what holds of the table: it is the closure and has this order, or this is a cycle of its negative ordinary
-- edges
abbrev pub EndsWell : Plan → Support → Ending → Type 0
EndsWell net support (closed order) = IsClosure net support.table × IsOrder support.table order
EndsWell net support (looped cycle) = IsCycle support.table cycle

-- what is opened of a network stands on it, and its rounds ended well
pub record IsSoundOpened (net : Plan) (opened : Opened) : Type 0 where
  pub stands : StandsOn net opened.support
  pub ends : EndsWell net opened.support opened.ending
  pub placed : IsPlacedBy opened.support.table opened.ending

-- ---- how a session begins
-- what is opened of a network first: the reference rounds are made from its base nodes and its base table
pub record Opens (net : Plan) (opened : Opened) : Type 0 where
  pub rounds : ℕ
  pub ends : RoundsEnd net (base_support net) rounds opened.support opened.ending
  pub sound : IsSoundOpened net opened

-- the session of a network, as it is opened: of its shown form
abbrev pub IsOpenedOn : Plan → State → Type 0
IsOpenedOn net session = (opened : Opened) × Opens (shown_form net) opened × (session ≡ record { net = net; opened = Some opened })

-- ---- what an edit makes of a session
-- What an accepted edit makes of what is opened. `followed`: first the list follows the edit; exactly the nodes that rest on nothing taken away are kept, in
-- their order, and after them come the base nodes of what is new. `ends`: then the reference rounds are made from there, at most one more than the points.
-- `list`, `improves`: their nodes come after those, each below all earlier ones of its key. `kept`, `withdrawn`: the report says how many nodes were kept and
-- withdrawn, and how many rounds were made.
pub record FollowsEdit (old : Plan) (edit : Edit) (new : Plan) (before after : Opened) (report : Report) : Type 0 where
  pub start : Support
  pub answer : Withdrawn
  pub followed : IsFollowed old edit new before.support start answer
  pub kept : report.kept ≡ answer.kept
  pub withdrawn : report.withdrawn ≡ answer.withdrawn
  pub ends : RoundsEnd new start report.rounds after.support after.ending
  pub few : report.rounds ≤ suc (length new.points)
  pub made : List Node
  pub list : after.support.nodes ≡ start.nodes ++ made
  pub improves : ImproveFrom after.support.nodes (record { 0 = length start.nodes })
  pub sound : IsSoundOpened new after

-- An edit of a session is accepted: the edit makes a network of its network, and what was opened follows the edit from the one shown form to
-- the other. `withdrawn`: exactly the nodes that rest on a bound or a link that the edit takes away are not kept; it takes away what it drops
-- or sets, and what stands in the new shown form with another number.
pub record Accepts (before : State) (edit : Edit) (report : Report) (after : State) : Type 0 where
  pub net : Plan
  pub made : edited before.net edit ≡ Ok net
  pub plan : IsPlan net
  pub numbers : HasPlanNumbers before.net → HasPlanNumbers net
  pub held : Opened
  pub was : before.opened ≡ Some held
  pub opened : Opened
  pub follows : FollowsEdit (shown_form before.net) edit (shown_form net) held opened report
  pub withdrawn : AreWithdrawn (shown_form before.net) edit (shown_form net) held.support.nodes follows.followed.places
  pub is : after ≡ record { net = net; opened = Some opened }

-- What `apply` answers, and what the session is then. It refuses the edit exactly if the session is not broken and the edit is refused, and then nothing
-- changes. After want of memory it keeps its old network and is broken. A broken session stays as it is.
abbrev pub AnswersEdit : State → Edit → Result Report SessionFault → State → Type 0
AnswersEdit before edit (Ok report) after = Accepts before edit report after
AnswersEdit before edit (Err (fault.Edit cause)) after = IsOpen before × (edited before.net edit ≡ Err cause) × (cause ≢ edit_fault.OutOfMemory)
    × (after ≡ before)
AnswersEdit before edit (Err fault.OutOfMemory) after = IsOpen before × (after ≡ record { net = before.net; opened = None })
AnswersEdit before edit (Err fault.Broken) after = IsBroken before × (after ≡ before)

-- What `reopen` answers, and what the session is then: as one that is opened on its network; after want of memory it keeps the network and
-- is broken.
abbrev pub AnswersReopening : State → Result (Unit {0}) AllocError → State → Type 0
AnswersReopening before (Ok done) after = IsOpenedOn before.net after
AnswersReopening before (Err error) after = after ≡ record { net = before.net; opened = None }

-- ---- what a session answers
-- the verdict: some strategy controls the network as it stands, or none does; or the session is broken
abbrev pub IsVerdictOf : State → Verdict → Type 0
IsVerdictOf session verdict.Controllable = IsOpen session × IsControllable session.net
IsVerdictOf session verdict.NotControllable = IsOpen session × (¬ IsControllable session.net)
IsVerdictOf session verdict.Broken = IsBroken session

-- the answer to the proof of the verdict: the certificate that decides the shown form of the network as it stands, and so the network,
-- whatever edits led to it
abbrev pub AnswersProof : State → Result Certificate AskFault → Type 0
AnswersProof session (Ok cert) = IsOpen session × Certifies (shown_form session.net) cert
AnswersProof session (Err ask_fault.Broken) = IsBroken session
AnswersProof session (Err ask_fault.OutOfMemory) = IsOpen session

-- what a session lends is what is opened of the shown form of its network, and that is sound
pub record Lends (session : State) (support : Support) : Type 0 where
  pub opened : Opened
  pub is : session.opened ≡ Some opened
  pub support_is : support ≡ opened.support
  pub sound : IsSoundOpened (shown_form session.net) opened
