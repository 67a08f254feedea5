-- The command `session`: a plan, then edits of its network and questions about it, and after `go` lines of events.
use Rattle.std.specs.Prelude.{◌≡◌, ◌⊎◌, ℕ, List, [], ◌∷◌, ◌++◌, Option, Result, Ok, Err}
use Rattle.texts.specs.Words.{words}
use Rattle.net_model.specs.EditedNetwork.{edited}
use Rattle.net_model.specs.Network.{Plan, IsPlan}
use Rattle.net_model.specs.ShownForm.{shown_form}
use Rattle.net_model.specs.declared.edit.Edit.{Edit}
use Rattle.net_model.specs.declared.edit.EditFault.{EditFault}
use Rattle.net_model.specs.declared.format.FormatKind.{FormatKind}
use Rattle.net_model.specs.declared.format.FormatKind.TheVariants.{NoEnd}
use Rattle.strategy_model.specs.Control.{IsControllable}
use Rattle.closure_model.specs.Closure.{IsClosure}
use Rattle.closure_model.specs.Tables.{Graph}
use Rattle.cert_format.specs.CertificateWords.{printed_certificate}
use Rattle.cert_format.specs.declared.certificate.Certificate.{Certificate}
use Rattle.closure_certificates.specs.Certified.{Certifies}
use Rattle.dispatch_net.specs.Dispatchable.{dispatchable}
use Rattle.plan_format.specs.PlanPrinting.{printed_plan}
use Rattle.texts.specs.Limits.{most_line}
use Rattle.edit_script.specs.EditText.{IsEditLine, IsEditFaultOfWords}
use Rattle.edit_script.specs.declared.step.Step.{Step}
use Rattle.edit_script.specs.declared.step.Step.TheVariants as step
use Rattle.plan_session.specs.declared.answers.Report.{Report}
use Rattle.command_words.specs.Arguments.{Arguments}
use Rattle.command_words.specs.Syntax.{Syntax}
use Rattle.command_engine.specs.Machine.{Machine}
use Rattle.command_engine.specs.Phases.{Within, text_then_phase_machine}
use Rattle.command_engine.specs.declared.endings.End.{End}
use Rattle.command_engine.specs.declared.endings.End.TheVariants.{Done}
use Rattle.command_engine.specs.declared.machines.Flow.{Flow}
use Rattle.command_engine.specs.declared.machines.Flow.TheVariants.{Continue, Finish}
use Rattle.command_engine.specs.declared.machines.Stop.{Stop}
use Rattle.command_engine.specs.declared.phases.TextThenPhase.{TextThenPhase}
use Rattle.command_engine.specs.declared.phases.TextThenPhase.TheVariants.{Reading}
use Rattle.event_phase.specs.EventPhase.{executing_machine}
use Rattle.common_answers.specs.Faults.{refusing, fault_line, fault_end, stop_fault}
use Rattle.input_texts.specs.PlanInput.{PlanInput, initial_input, input_reader}
use Rattle.command_contracts.specs.PlanWords.{requested_form, plan_syntax}
use Rattle.event_phase.specs.ExecutionStart.{BeginsExecution}
use Rattle.session_command.specs.SessionAnswers.{ready_line, ok_line, refused_line, report_line, table_text}
use Rattle.session_command.specs.Followed.{IsReport}
use Rattle.session_command.specs.Standing.{Standing}
use Rattle.common_answers.specs.VerdictLines.{controllable_line, refuted_line}
use Rattle.common_answers.specs.declared.faults.Fault.TheVariants.{Format}
use Rattle.input_texts.specs.declared.plan_input.PlanForm.{PlanForm}
use Rattle.session_command.specs.declared.session.InSession.{InSession}
use Rattle.session_command.specs.declared.session.InSession.TheVariants.{Editing, Executing}

-- ---- what a line is answered, as the session stands
-- the network as it stands
abbrev pub net_of : Standing → Plan
net_of standing = standing.net

-- the answer to an edit: that it is accepted, or why it is refused
abbrev pub SaysEdit : Plan → Result Plan EditFault → List ℕ → Type 0
SaysEdit net (Ok more) answer = answer ≡ ok_line
SaysEdit net (Err cause) answer = answer ≡ refused_line net cause

-- the answer to `verdict`: yes if some strategy controls the network, no if none does
abbrev pub SaysVerdict : Plan → List ℕ → Type 0
SaysVerdict net answer = (IsControllable net × (answer ≡ controllable_line)) ⊎ ((¬ IsControllable net) × (answer ≡ refuted_line))

-- the answer to `proof`: the certificate that decides the shown form of the network, which the judge accepts
abbrev pub SaysProof : Plan → List ℕ → Type 0
SaysProof net answer = (cert : Certificate) × Certifies (shown_form net) cert × (answer ≡ printed_certificate cert)

-- the answer to `table`: by what each point is executed, as the closure of the shown form gives it, or that it is not controllable
abbrev pub SaysTable : Plan → List ℕ → Type 0
SaysTable net answer =
    (IsControllable net × ((table : Graph) × IsClosure (shown_form net) table × (answer ≡ table_text (shown_form net) (dispatchable (shown_form net) table))))
    ⊎ ((¬ IsControllable net) × (answer ≡ refuted_line))

-- the answer to `report`: the report of the accepted edits, of the network as it was first
abbrev pub SaysReport : Plan → List Edit → List ℕ → Type 0
SaysReport first edits answer = (report : Option Report) × IsReport first edits report × (answer ≡ report_line report)

-- the answer to what a line states after which the network is edited further
abbrev pub SaysStep : Standing → Step → List ℕ → Type 0
SaysStep standing step.Blank answer = answer ≡ []
SaysStep standing (step.Edit edit) answer = SaysEdit (net_of standing) (edited (net_of standing) edit) answer
SaysStep standing step.Verdict answer = SaysVerdict (net_of standing) answer
SaysStep standing step.Proof answer = SaysProof (net_of standing) answer
SaysStep standing step.Table answer = SaysTable (net_of standing) answer
SaysStep standing step.Plan answer = answer ≡ printed_plan (net_of standing)
SaysStep standing step.Report answer = SaysReport standing.first standing.edits answer
SaysStep standing step.Go answer = (¬ IsControllable (net_of standing)) × (answer ≡ refuted_line)
SaysStep standing step.End answer = ⊥

-- ---- how it stands after the line
-- after an accepted edit, which makes this network, a plan: the edit is the last of the accepted ones
pub record StandsEdited (before : Standing) (edit : Edit) (net : Plan) (after : Standing) : Type 0 where
  pub is : after ≡ record { first = before.first; edits = before.edits ++ edit ∷ []; net = net }
  pub plan : IsPlan net

-- a refused edit changes nothing
abbrev pub StandsAfterEdit : Standing → Edit → Result Plan EditFault → Standing → Type 0
StandsAfterEdit before edit (Ok net) after = StandsEdited before edit net after
StandsAfterEdit before edit (Err cause) after = after ≡ before

-- how a session stands after what a line states: an edit may change it, and no other line does
abbrev pub StandsAfter : Standing → Step → Standing → Type 0
StandsAfter before (step.Edit edit) after = StandsAfterEdit before edit (edited (net_of before) edit) after
StandsAfter before step_stated after = after ≡ before

-- ---- how it goes on
-- the session goes on with an edited network
abbrev pub edits_on : Standing → Flow InSession
edits_on standing = Continue (Editing standing)

-- the network is edited further
abbrev pub EditsOn : Standing → Step → List ℕ → Flow InSession → Type 0
EditsOn standing step_stated answer flow = (after : Standing) × SaysStep standing step_stated answer × StandsAfter standing step_stated after
    × (flow ≡ Continue (Editing after))

-- `go` begins the execution of the network as it stands, if some strategy controls it
abbrev pub BeginsByGo : Standing → List ℕ → Flow InSession → Type 0
BeginsByGo standing answer flow = IsControllable (net_of standing) × Within Executing (BeginsExecution (shown_form (net_of standing))) answer flow

-- the answer to what a line states: `end` ends the session, `go` may begin the execution, and after all others the network is edited further
abbrev pub AnswersStep : Standing → Step → List ℕ → Flow InSession → Type 0
AnswersStep standing step.End answer flow = (answer ≡ []) × (flow ≡ Finish Done)
AnswersStep standing step.Go answer flow = BeginsByGo standing answer flow ⊎ EditsOn standing step.Go answer flow
AnswersStep standing step_stated answer flow = EditsOn standing step_stated answer flow

-- the answer to a line: to what it states, or its fault
abbrev pub TakesStep : Standing → ℕ → List ℕ → List ℕ → Flow InSession → Type 0
TakesStep standing number line answer flow =
    ((step_stated : Step) × IsEditLine step_stated line × AnswersStep standing step_stated answer flow)
    ⊎ ((kind : FormatKind) × IsEditFaultOfWords (words line) kind × (answer ≡ fault_line (Format number kind))
    × (flow ≡ Finish (fault_end (Format number kind))))

-- ---- the session as a phase
abbrev pub longest_line_of : InSession → ℕ
longest_line_of (Editing standing) = most_line
longest_line_of (Executing event_run) = executing_machine.longest event_run

abbrev pub session_takes : InSession → ℕ → List ℕ → List ℕ → Flow InSession → Type 0
session_takes (Editing standing) number line answer flow = TakesStep standing number line answer flow
session_takes (Executing event_run) number line answer flow = Within Executing (executing_machine.takes event_run number line) answer flow

abbrev pub session_stops : InSession → ℕ → Stop → List ℕ → End → Type 0
session_stops (Editing standing) number stop answer end = (answer ≡ fault_line (stop_fault number stop NoEnd))
    × (end ≡ fault_end (stop_fault number stop NoEnd))
session_stops (Executing event_run) number stop answer end = executing_machine.stops event_run number stop answer end

-- it may want memory while the network is edited, and none while it is executed
abbrev pub session_may_want : InSession → Type 0
session_may_want (Editing standing) = Unit {0}
session_may_want (Executing event_run) = executing_machine.may_want event_run

abbrev pub session_capacity : InSession → ℕ
session_capacity (Editing standing) = 0
session_capacity (Executing event_run) = executing_machine.spare_capacity event_run

-- the session as a phase: its network is edited, and then executed
abbrev pub session_machine : Machine InSession
session_machine = record {
  longest = longest_line_of;
  takes = session_takes;
  stops = session_stops;
  may_want = session_may_want;
  spare_capacity = session_capacity;
}

-- ---- the command
-- the session of a network before any edit
abbrev pub OpensOn : Plan → Standing → Type 0
OpensOn net standing = standing ≡ record { first = net; edits = []; net = net }

-- A session of the network of the plan is opened, and it is put that it is ready. The form in which the plan is given decides nothing of
-- it.
abbrev pub session_begins : PlanForm → Plan → List ℕ → Flow InSession → Type 0
session_begins form net answer flow = (standing : Standing) × OpensOn net standing × (answer ≡ ready_line) × (flow ≡ Continue (Editing standing))

-- `session` takes the form of the plan, and a number of workers, which decides nothing of the request
abbrev pub session_syntax : Syntax
session_syntax = plan_syntax

abbrev pub session_request : Arguments → Option PlanForm
session_request = requested_form

-- how far the input of `session` was read; of how it begins nothing is seen but the form of the plan
abbrev pub ServedSession : Type 0
ServedSession = TextThenPhase PlanForm PlanInput InSession

-- before the first line
abbrev pub session_start : PlanForm → ServedSession
session_start form = Reading form (initial_input form)

-- what `session` means
abbrev pub command_machine : Machine ServedSession
command_machine = text_then_phase_machine session_begins input_reader refusing session_machine
