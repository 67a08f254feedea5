-- Each line of a session has one answer, and after each it stands in one way.
use Rattle.std.proofs.Common.{◌≡◌, ◌⊎◌, inl, inr, ℕ, List, [], ◌∷◌, ◌++◌, Option, Some, None, Result, Ok, Err, ap, sym, ◌∙◌, subst}
use Rattle.texts.specs.Words.{words}
use Rattle.net_model.specs.EditedNetwork.{edited}
use Rattle.net_model.specs.Network.{Plan}
use Rattle.net_model.specs.ShownForm.{shown_form}
use Rattle.net_model.specs.declared.edit.Edit.{Edit}
use Rattle.net_model.specs.declared.edit.EditFault.{EditFault}
use Rattle.net_model.specs.declared.format.FormatKind.{FormatKind}
use Rattle.closure_model.specs.Tables.{Graph}
use Rattle.closure_model.proofs.LawProofs.{law_closure_is_one}
use Rattle.cert_format.specs.CertificateWords.{printed_certificate}
use Rattle.dispatch_net.specs.Dispatchable.{dispatchable}
use Rattle.edit_script.specs.EditText.{IsEditLine, IsEditFaultOfWords}
use Rattle.edit_script.specs.Laws.{OneReading as OneStep}
use Rattle.edit_script.specs.declared.step.Step.{Step}
use Rattle.edit_script.specs.declared.step.Step.TheVariants as step
use Rattle.event_stream.specs.Laws.{OneReading}
use Rattle.plan_session.specs.Laws.{SessionsOpenInOneWay, EditsAreFollowedInOneWay}
use Rattle.plan_session.specs.Sessions.{State, Opened, FollowsEdit, Accepts, IsOpenedOn}
use Rattle.plan_session.specs.declared.answers.Report.{Report}
use Rattle.command_engine.specs.Single.{IsSingle, IsSingleAnswer}
use Rattle.command_engine.specs.declared.endings.End.{End}
use Rattle.command_engine.specs.declared.machines.Flow.{Flow}
use Rattle.command_engine.specs.declared.machines.Flow.TheVariants.{Continue, Finish}
use Rattle.command_engine.specs.declared.machines.Stop.{Stop}
use Rattle.command_engine.proofs.PhaseLemmas.{within_same}
use Rattle.event_phase.specs.EventPhase.{executing_machine}
use Rattle.common_answers.specs.Faults.{fault_line, fault_end}
use Rattle.event_phase.specs.ExecutionStart.{BeginsExecution}
use Rattle.session_command.specs.Followed.{FollowsEdits, HasFollowed, IsReport}
use Rattle.session_command.specs.SessionAnswers.{ready_line, report_line, table_text}
use Rattle.session_command.specs.SessionPromise.{SaysSteps, SaysAll}
use Rattle.session_command.specs.Sessions.{net_of, SaysEdit, SaysVerdict, SaysProof, SaysTable, SaysReport, SaysStep, StandsAfterEdit, StandsAfter, EditsOn, BeginsByGo, AnswersStep, TakesStep, session_machine, OpensOn, session_begins}
use Rattle.session_command.specs.Standing.{Standing}
use Rattle.common_answers.specs.declared.faults.Fault.TheVariants.{Format}
use Rattle.session_command.specs.declared.session.InSession.{InSession}
use Rattle.session_command.specs.declared.session.InSession.TheVariants.{Editing, Executing}
use Rattle.closure_certificates.proofs.LawProofs.{law_certificates_are_one}
use Rattle.event_phase.proofs.OnceLemmas.{begins_once, executing_single}

-- ---- the answer to a line
edit_said_once : (net : Plan) (made : Result Plan EditFault) (a b : List ℕ) → SaysEdit net made a → SaysEdit net made b → a ≡ b
edit_said_once net (Ok more) a b one other = one ∙ sym other
edit_said_once net (Err cause) a b one other = one ∙ sym other

verdict_said_once : (net : Plan) (a b : List ℕ) → SaysVerdict net a → SaysVerdict net b → a ≡ b
verdict_said_once net a b (inl (controls, one)) (inl (also, other)) = one ∙ sym other
verdict_said_once net a b (inl (controls, one)) (inr (never, other)) = absurd (never controls)
verdict_said_once net a b (inr (never, one)) (inl (controls, other)) = absurd (never controls)
verdict_said_once net a b (inr (never, one)) (inr (also, other)) = one ∙ sym other

proof_said_once : (net : Plan) (a b : List ℕ) → SaysProof net a → SaysProof net b → a ≡ b
proof_said_once net a b (cert, decides, is) (other, also, same) = is ∙ (ap printed_certificate (law_certificates_are_one (shown_form net) cert other decides also) ∙ sym same)

table_said_once : (net : Plan) (a b : List ℕ) → SaysTable net a → SaysTable net b → a ≡ b
table_said_once net a b (inl (controls, (table, closure, one))) (inl (also, (same, is, other))) = one
    ∙ (ap (λ (t : Graph). table_text (shown_form net) (dispatchable (shown_form net) t)) (law_closure_is_one (shown_form net) table same closure is) ∙ sym other)
table_said_once net a b (inl (controls, one)) (inr (never, other)) = absurd (never controls)
table_said_once net a b (inr (never, one)) (inl (controls, other)) = absurd (never controls)
table_said_once net a b (inr (never, one)) (inr (also, other)) = one ∙ sym other

-- ---- the reply to a line
module _ (steps : (line : List (List ℕ)) → OneStep line) where
  -- what a line states decides the answer
  pub stated_step : (standing : Standing) (number : ℕ) (step_stated : Step) (line answer : List ℕ) (flow : Flow InSession) → IsEditLine step_stated line → TakesStep standing number line answer flow
      → AnswersStep standing step_stated answer flow
  stated_step standing number step_stated line answer flow is (inl (other, also, answers)) =
      subst (λ (t : Step). AnswersStep standing t answer flow) ((steps (words line)).one_statement other step_stated also is) answers
  stated_step standing number step_stated line answer flow is (inr (kind, fault, puts, so)) = absurd ((steps (words line)).not_both step_stated kind is fault)

  pub fault_step : (standing : Standing) (number : ℕ) (kind : FormatKind) (line answer : List ℕ) (flow : Flow InSession) → IsEditFaultOfWords (words line) kind → TakesStep standing number line answer flow
      → (answer ≡ fault_line (Format number kind)) × (flow ≡ Finish (fault_end (Format number kind)))
  fault_step standing number kind line answer flow is (inl (step_stated, also, answers)) = absurd ((steps (words line)).not_both step_stated kind also is)
  fault_step standing number kind line answer flow is (inr (other, fault, puts, so)) =
      let same = (steps (words line)).one_fault other kind fault is in
      (puts ∙ ap (λ (k : FormatKind). fault_line (Format number k)) same, so ∙ ap (λ (k : FormatKind). let flow : Flow InSession = Finish (fault_end (Format number k)) in flow) same)

-- ---- how the session stands
abbrev open_state : Plan → Opened → State
open_state net opened = record { net = net; opened = Some opened }

-- a session is opened in one way, and follows an edit in one way
pub record OneWay : Type 0 where
  pub opens : SessionsOpenInOneWay
  pub follows : EditsAreFollowedInOneWay

module _ (way : OneWay) where
  accepts_once : (before : State) (edit : Edit) (one other : Report) (a b : State) → Accepts before edit one a → Accepts before edit other b → (one ≡ other) × (a ≡ b)
  accepts_once before edit one other a b first second =
      let nets : first.net ≡ second.net = cc (sym first.made ∙ second.made) in
      let held : first.held ≡ second.held = cc (sym first.was ∙ second.was) in
      let moved : FollowsEdit (shown_form before.net) edit (shown_form second.net) second.held first.opened one =
      subst (λ (n : Plan). FollowsEdit (shown_form before.net) edit (shown_form n) second.held first.opened one) nets
      (subst (λ (o : Opened). FollowsEdit (shown_form before.net) edit (shown_form first.net) o first.opened one) held first.follows) in
      let same = way.follows (shown_form before.net) edit (shown_form second.net) second.held first.opened second.opened one other moved second.follows in
      (same.1, first.is ∙ (ap (λ (n : Plan). open_state n first.opened) nets ∙ (ap (open_state second.net) same.0 ∙ sym second.is)))

  -- and each of more edits
  follows_once : (edits : List Edit) (before a b : State) (report one other : Option Report) → FollowsEdits before report edits a one → FollowsEdits before report edits b other → (a ≡ b) × (one ≡ other)
  follows_once [] before a b report one other first second = (sym first.0 ∙ second.0, sym first.1 ∙ second.1)
  follows_once (edit ∷ edits) before a b report one other (next, now, accepts, more) (also, then, accepted, rest) =
      let same = accepts_once before edit now then next also accepts accepted in
      let moved : FollowsEdits also (Some then) edits a one =
      subst (λ (s : State). FollowsEdits s (Some then) edits a one) same.1 (subst (λ (r : Report). FollowsEdits next (Some r) edits a one) same.0 more) in
      follows_once edits also a b (Some then) one other moved rest

  opened_once : (net : Plan) (a b : State) → IsOpenedOn net a → IsOpenedOn net b → a ≡ b
  opened_once net a b one other =
      let same : one.0 ≡ other.0 = way.opens (shown_form net) one.0 other.0 one.1 other.1 in
      one.2 ∙ (ap (open_state net) same ∙ sym other.2)

  -- so the report of the last is one
  followed_once : (first : Plan) (edits : List Edit) (a b : State) (one other : Option Report) → HasFollowed first edits a one → HasFollowed first edits b other → one ≡ other
  followed_once first edits a b one other has also =
      let same : has.opened ≡ also.opened = opened_once first has.opened also.opened has.opens also.opens in
      (follows_once edits also.opened a b None one other (subst (λ (s : State). FollowsEdits s None edits a one) same has.follows) also.follows).1

  report_once : (first : Plan) (edits : List Edit) (one other : Option Report) → IsReport first edits one → IsReport first edits other → one ≡ other
  report_once first [] one other is also = is ∙ sym also
  report_once first (edit ∷ edits) one other (session, has) (also, had) = followed_once first (edit ∷ edits) session also one other has had

  report_said_once : (first : Plan) (edits : List Edit) (a b : List ℕ) → SaysReport first edits a → SaysReport first edits b → a ≡ b
  report_said_once first edits a b (report, is, one) (numbers, also, other) = one ∙ (ap report_line (report_once first edits report numbers is also) ∙ sym other)

  -- ---- the answer to what a line states
  said_once : (standing : Standing) (step_stated : Step) (a b : List ℕ) → SaysStep standing step_stated a → SaysStep standing step_stated b → a ≡ b
  said_once standing step.Blank a b one other = one ∙ sym other
  said_once standing (step.Edit edit) a b one other = edit_said_once (net_of standing) (edited (net_of standing) edit) a b one other
  said_once standing step.Verdict a b one other = verdict_said_once (net_of standing) a b one other
  said_once standing step.Proof a b one other = proof_said_once (net_of standing) a b one other
  said_once standing step.Table a b one other = table_said_once (net_of standing) a b one other
  said_once standing step.Plan a b one other = one ∙ sym other
  said_once standing step.Report a b one other = report_said_once standing.first standing.edits a b one other
  said_once standing step.Go a b one other = one.1 ∙ sym other.1
  said_once standing step.End a b one other = absurd one

  -- ---- how the session stands after it
  after_edit_once : (before : Standing) (edit : Edit) (made : Result Plan EditFault) (a b : Standing) → StandsAfterEdit before edit made a → StandsAfterEdit before edit made b → a ≡ b
  after_edit_once before edit (Ok net) a b one other = one.is ∙ sym other.is
  after_edit_once before edit (Err cause) a b one other = one ∙ sym other

  stands_once : (before : Standing) (step_stated : Step) (a b : Standing) → StandsAfter before step_stated a → StandsAfter before step_stated b → a ≡ b
  stands_once before (step.Edit edit) a b one other = after_edit_once before edit (edited (net_of before) edit) a b one other
  stands_once before step.Blank a b one other = one ∙ sym other
  stands_once before step.Verdict a b one other = one ∙ sym other
  stands_once before step.Proof a b one other = one ∙ sym other
  stands_once before step.Table a b one other = one ∙ sym other
  stands_once before step.Plan a b one other = one ∙ sym other
  stands_once before step.Report a b one other = one ∙ sym other
  stands_once before step.Go a b one other = one ∙ sym other
  stands_once before step.End a b one other = one ∙ sym other

  -- ---- how it goes on
  edits_once : (standing : Standing) (step_stated : Step) (a b : List ℕ) (x y : Flow InSession) → EditsOn standing step_stated a x → EditsOn standing step_stated b y → (a ≡ b) × (x ≡ y)
  edits_once standing step_stated a b x y (after, said, stands, goes) (other, says, also, going) =
      let same : after ≡ other = stands_once standing step_stated after other stands also in
      let flow : Standing → Flow InSession = λ s. Continue (Editing s) in
      (said_once standing step_stated a b said says, goes ∙ (ap flow same ∙ sym going))

  go_once : (standing : Standing) (a b : List ℕ) (x y : Flow InSession) → BeginsByGo standing a x ⊎ EditsOn standing step.Go a x → BeginsByGo standing b y ⊎ EditsOn standing step.Go b y → (a ≡ b) × (x ≡ y)
  go_once standing a b x y (inl (controls, one)) (inl (also, other)) =
      within_same Executing (BeginsExecution (shown_form (net_of standing))) (λ c d u v. begins_once (shown_form (net_of standing)) c d u v) a b x y one other
  go_once standing a b x y (inl (controls, one)) (inr (after, never, stands, goes)) = absurd (never.0 controls)
  go_once standing a b x y (inr (after, never, stands, goes)) (inl (controls, other)) = absurd (never.0 controls)
  go_once standing a b x y (inr one) (inr other) = edits_once standing step.Go a b x y one other

  step_once : (standing : Standing) (step_stated : Step) (a b : List ℕ) (x y : Flow InSession) → AnswersStep standing step_stated a x → AnswersStep standing step_stated b y → (a ≡ b) × (x ≡ y)
  step_once standing step.End a b x y one other = (one.0 ∙ sym other.0, one.1 ∙ sym other.1)
  step_once standing step.Go a b x y one other = go_once standing a b x y one other
  step_once standing step.Blank a b x y one other = edits_once standing step.Blank a b x y one other
  step_once standing (step.Edit edit) a b x y one other = edits_once standing (step.Edit edit) a b x y one other
  step_once standing step.Verdict a b x y one other = edits_once standing step.Verdict a b x y one other
  step_once standing step.Proof a b x y one other = edits_once standing step.Proof a b x y one other
  step_once standing step.Table a b x y one other = edits_once standing step.Table a b x y one other
  step_once standing step.Plan a b x y one other = edits_once standing step.Plan a b x y one other
  step_once standing step.Report a b x y one other = edits_once standing step.Report a b x y one other

  -- ---- the phase
  module _ (steps : (line : List (List ℕ)) → OneStep line) where
    line_once : (standing : Standing) (number : ℕ) (line a b : List ℕ) (x y : Flow InSession) → TakesStep standing number line a x → TakesStep standing number line b y → (a ≡ b) × (x ≡ y)
    line_once standing number line a b x y (inl (step_stated, is, one)) other = step_once standing step_stated a b x y one (stated_step steps standing number step_stated line b y is other)
    line_once standing number line a b x y (inr (kind, is, put, ends)) other =
        let same = fault_step steps standing number kind line b y is other in
        (put ∙ sym same.0, ends ∙ sym same.1)

    module _ (reading : (net : Plan) (line : List (List ℕ)) → OneReading net line) where
      takes_once : (state : InSession) (number : ℕ) (line a b : List ℕ) (x y : Flow InSession) → session_machine.takes state number line a x → session_machine.takes state number line b y → (a ≡ b) × (x ≡ y)
      takes_once (Editing standing) number line a b x y one other = line_once standing number line a b x y one other
      takes_once (Executing event_run) number line a b x y one other = within_same Executing (executing_machine.takes event_run number line) (λ c d u v. (executing_single reading).takes event_run number line c d u v) a b x y one other

      stops_once : (state : InSession) (number : ℕ) (stop : Stop) (a b : List ℕ) (x y : End) → session_machine.stops state number stop a x → session_machine.stops state number stop b y → (a ≡ b) × (x ≡ y)
      stops_once (Editing standing) number stop a b x y one other = (one.0 ∙ sym other.0, one.1 ∙ sym other.1)
      stops_once (Executing event_run) number stop a b x y one other = (executing_single reading).stops event_run number stop a b x y one other

      pub session_single : IsSingle session_machine
      session_single = record { takes = takes_once; stops = stops_once }

  -- ---- the command
  opens_once : (net : Plan) (a b : Standing) → OpensOn net a → OpensOn net b → a ≡ b
  opens_once net a b one other = one ∙ sym other

  pub session_begins_once : IsSingleAnswer session_begins
  session_begins_once start net a b x y (standing, opens, put, goes) (other, also, puts, going) =
      let flow : Standing → Flow InSession = λ s. Continue (Editing s) in
      (put ∙ sym puts, goes ∙ (ap flow (opens_once net standing other opens also) ∙ sym going))

  -- ---- over any number of lines
  pub says_once : (steps : List Step) (first : Standing) (a b : List ℕ) (last other : Standing) → SaysSteps first steps a last → SaysSteps first steps b other → (a ≡ b) × (last ≡ other)
  says_once [] first a b last other one two = (one.0 ∙ sym two.0, sym one.1 ∙ two.1)
  says_once (step_stated ∷ steps) first a b last other (answer, more, next, says, stands, all, on) (answered, others, after, also, so, whole, later) =
      let same : next ≡ after = stands_once first step_stated next after stands so in
      let answers : answer ≡ answered = said_once first step_stated answer answered says also in
      let rest = says_once steps after more others last other (subst (λ (s : Standing). SaysSteps s steps more last) same on) later in
      (all ∙ (ap (λ (s : List ℕ). s ++ more) answers ∙ (ap (λ (s : List ℕ). answered ++ s) rest.0 ∙ sym whole)), rest.1)

  pub all_once : (first : Plan) (steps : List Step) (a b : List ℕ) → SaysAll first steps a → SaysAll first steps b → a ≡ b
  all_once first steps a b one other =
      let same = opens_once first one.opened other.opened one.opens other.opens in
      let said = says_once steps other.opened one.said other.said one.last other.last (subst (λ (s : Standing). SaysSteps s steps one.said one.last) same one.says) other.says in
      one.all ∙ (ap (λ (s : List ℕ). ready_line ++ s) said.0 ∙ sym other.all)
