-- The lines of a session: where it stands after those that state steps, and how it ends.
use Rattle.std.proofs.Common.{◌≡◌, ◌⊎◌, ℕ, ◌+◌, ◌-◌, List, [], ◌∷◌, ◌++◌, length, Result, Ok, Err, refl, sym, ap, ◌∙◌, subst, arith, inl, inr, append_assoc}
use Rattle.texts.specs.Lines.{InputLine, line_size}
use Rattle.texts.specs.Words.{words}
use Rattle.net_model.specs.EditedNetwork.{edited}
use Rattle.net_model.specs.Network.{Plan, IsPlan}
use Rattle.net_model.specs.ShownForm.{shown_form}
use Rattle.net_model.specs.declared.edit.Edit.{Edit}
use Rattle.net_model.specs.declared.edit.EditFault.{EditFault}
use Rattle.net_model.specs.declared.format.FormatKind.{FormatKind}
use Rattle.net_model.specs.declared.format.FormatKind.TheVariants.{NoEnd}
use Rattle.strategy_model.specs.Control.{IsControllable}
use Rattle.strategy_model.proofs.ShownFormLemmas.{law_controllable_is_shown}
use Rattle.closure_laws.proofs.OrderLemmas.{law_ordered_closures_are_controllable}
use Rattle.texts.specs.Limits.{most_line}
use Rattle.plan_port.specs.Lines.{Coming, Comes, TooLong, TooMuch, coming}
use Rattle.edit_script.specs.EditText.{IsEditLine, AreWordsOfEditLine, IsEditFaultOfWords}
use Rattle.edit_script.specs.Laws.{OneReading as OneStep}
use Rattle.edit_script.specs.declared.step.Step.{Step}
use Rattle.edit_script.specs.declared.step.Step.TheVariants as step
use Rattle.execution_model.specs.Feeds.{started}
use Rattle.execution_model.specs.Laws.{setting_of}
use Rattle.command_engine.specs.Inputs.{texts, capacity_after}
use Rattle.command_engine.specs.Phases.{wrapped}
use Rattle.command_engine.specs.Runs.{Here, RepliesTo, Answers, Run as RunOver}
use Rattle.command_engine.specs.declared.endings.End.{End}
use Rattle.command_engine.specs.declared.endings.End.TheVariants as ends
use Rattle.command_engine.specs.declared.machines.Flow.{Flow}
use Rattle.command_engine.specs.declared.machines.Flow.TheVariants.{Continue, Finish}
use Rattle.command_engine.proofs.WrapLemmas.{Wraps, served_lines, served_run}
use Rattle.event_phase.specs.EventRuns.{event_run_of}
use Rattle.event_phase.specs.EventAnswers.{due_line}
use Rattle.event_phase.specs.EventPhase.{executing_machine}
use Rattle.event_phase.specs.CompletionOrders.{as_named}
use Rattle.common_answers.specs.Faults.{fault_line, fault_end}
use Rattle.session_command.specs.SessionPromise.{accepted_or, net_after, StillEdits, StateSteps, SaysSteps, IsStepFault}
use Rattle.session_command.specs.Sessions.{net_of, SaysStep, StandsAfterEdit, StandsAfter, EditsOn, BeginsByGo, AnswersStep, session_machine}
use Rattle.session_command.specs.Standing.{Standing}
use Rattle.common_answers.specs.FormatRefusals.{Come}
use Rattle.common_answers.specs.VerdictLines.{controllable_line}
use Rattle.common_answers.specs.declared.faults.Fault.{Fault}
use Rattle.common_answers.specs.declared.faults.Fault.TheVariants.{Format, LineTooLong as LongLine, InputTooMuch as MuchInput}
use Rattle.session_command.specs.declared.session.InSession.{InSession}
use Rattle.session_command.specs.declared.session.InSession.TheVariants.{Editing, Executing}
use Rattle.event_phase.proofs.EventLemmas.{at}
use Rattle.event_phase.proofs.ReplyLemmas.{Continues, replied, last_reply}
use Rattle.event_phase.proofs.ExecutionLemmas.{Opened}
use Rattle.session_command.proofs.SessionOnceLemmas.{stated_step, fault_step}

-- where a session stands in a run, while its network is edited
abbrev pub at_edit : Standing → (number spare_capacity : ℕ) → Here InSession
at_edit standing number spare_capacity = record { state = Editing standing; number = number; spare_capacity = spare_capacity }

-- the execution, once it is begun
pub wraps_executing : Wraps executing_machine session_machine Executing
wraps_executing = record {
  longest = λ state. refl;
  takes = λ state number line answer flow takes. takes;
  stops = λ state number stop answer end stops. stops;
}

-- ---- the network as it stands after a line
net_edited : (before after : Standing) (edit : Edit) (made : Result Plan EditFault) → edited (net_of before) edit ≡ made → StandsAfterEdit before edit made after → net_of after ≡ accepted_or (net_of before) made
net_edited before after edit (Ok net) is stands = ap net_of stands.is
net_edited before after edit (Err cause) is stands = ap net_of stands

pub stands_net : (before after : Standing) (step_stated : Step) → StandsAfter before step_stated after → net_of after ≡ net_after (net_of before) step_stated
stands_net before after (step.Edit edit) stands = net_edited before after edit (edited (net_of before) edit) refl stands
stands_net before after step.Blank stands = ap net_of stands
stands_net before after step.Verdict stands = ap net_of stands
stands_net before after step.Proof stands = ap net_of stands
stands_net before after step.Table stands = ap net_of stands
stands_net before after step.Plan stands = ap net_of stands
stands_net before after step.Report stands = ap net_of stands
stands_net before after step.Go stands = ap net_of stands
stands_net before after step.End stands = ap net_of stands

-- ---- how the session goes on after what a line states
-- it is edited further, if the line allows it
still_edits : (standing : Standing) (step_stated : Step) (answer : List ℕ) (flow : Flow InSession) → StillEdits (net_of standing) step_stated → AnswersStep standing step_stated answer flow → EditsOn standing step_stated answer flow
still_edits standing step.End answer flow still answers = absurd still
still_edits standing step.Go answer flow still (inl begins) = absurd (still begins.0)
still_edits standing step.Go answer flow still (inr edits) = edits
still_edits standing step.Blank answer flow still answers = answers
still_edits standing (step.Edit edit) answer flow still answers = answers
still_edits standing step.Verdict answer flow still answers = answers
still_edits standing step.Proof answer flow still answers = answers
still_edits standing step.Table answer flow still answers = answers
still_edits standing step.Plan answer flow still answers = answers
still_edits standing step.Report answer flow still answers = answers

-- if it is edited further, the line allows that
edits_still : (standing : Standing) (step_stated : Step) (answer : List ℕ) → SaysStep standing step_stated answer → StillEdits (net_of standing) step_stated
edits_still standing step.End answer says = absurd says
edits_still standing step.Go answer says = says.0
edits_still standing step.Blank answer says = tt
edits_still standing (step.Edit edit) answer says = tt
edits_still standing step.Verdict answer says = tt
edits_still standing step.Proof answer says = tt
edits_still standing step.Table answer says = tt
edits_still standing step.Plan answer says = tt
edits_still standing step.Report answer says = tt

-- what a line that states this does: the session ends, or the execution of its network begins, or it is edited further
data Does (standing : Standing) (step_stated : Step) (answer : List ℕ) (flow : Flow InSession) : Type 0 where
  ends_session : step_stated ≡ step.End → answer ≡ [] → flow ≡ Finish ends.Done → Does standing step_stated answer flow
  begins_execution : step_stated ≡ step.Go → BeginsByGo standing answer flow → Does standing step_stated answer flow
  edits_on : EditsOn standing step_stated answer flow → Does standing step_stated answer flow

does : (standing : Standing) (step_stated : Step) (answer : List ℕ) (flow : Flow InSession) → AnswersStep standing step_stated answer flow → Does standing step_stated answer flow
does standing step.End answer flow answers = ends_session refl answers.0 answers.1
does standing step.Go answer flow (inl begins) = begins_execution refl begins
does standing step.Go answer flow (inr edits) = edits_on edits
does standing step.Blank answer flow answers = edits_on answers
does standing (step.Edit edit) answer flow answers = edits_on answers
does standing step.Verdict answer flow answers = edits_on answers
does standing step.Proof answer flow answers = edits_on answers
does standing step.Table answer flow answers = edits_on answers
does standing step.Plan answer flow answers = edits_on answers
does standing step.Report answer flow answers = edits_on answers

-- ---- a run over a line, and others
-- the line is answered, and the run goes on over the others from where the session stands then
record EditsOver (standing : Standing) (step_stated : Step) (lines : List InputLine) (number spare_capacity : ℕ) (put : List ℕ) (end : End) : Type 0 where
  pub next : Standing
  pub answer : List ℕ
  pub more : List ℕ
  pub says : SaysStep standing step_stated answer
  pub stands : StandsAfter standing step_stated next
  pub all : put ≡ answer ++ more
  pub later : RunOver session_machine (at_edit next number spare_capacity) lines more end

edits_over : (standing : Standing) (step_stated : Step) (line : InputLine) (lines : List InputLine) (number spare_capacity : ℕ) (put answer : List ℕ) (flow : Flow InSession) (end : End)
    → EditsOn standing step_stated answer flow → Continues session_machine (at_edit standing number spare_capacity) line lines put end flow answer → EditsOver standing step_stated lines (number + 1) (spare_capacity - line_size line) put end
edits_over standing step_stated line lines number spare_capacity put answer flow end (next, says, stands, goes) continues =
    let on : Continues session_machine (at_edit standing number spare_capacity) line lines put end (Continue (Editing next)) answer =
    subst (λ (o : Flow InSession). Continues session_machine (at_edit standing number spare_capacity) line lines put end o answer) goes continues in
    record { next = next; answer = answer; more = on.0; says = says; stands = stands; all = on.1; later = on.2 }

-- after lines that state steps, the run goes on from where the session stands then
pub record OverSteps (standing : Standing) (step_stated : List Step) (net : Plan) (rest : List InputLine) (number spare_capacity : ℕ) (put : List ℕ) (end : End) : Type 0 where
  pub last : Standing
  pub said : List ℕ
  pub more : List ℕ
  pub says : SaysSteps standing step_stated said last
  pub stands : net_of last ≡ net
  pub all : put ≡ said ++ more
  pub later : RunOver session_machine (at_edit last number spare_capacity) rest more end

-- how a run ends after lines that state steps: at `end`, by a fault of what comes next, or after the execution of the network as it stands was begun
pub data HowEnds (last : Standing) (number spare_capacity : ℕ) (rest : List InputLine) (put : List ℕ) (end : End) : Type 0 where
  at_end : (line : InputLine) (others : List InputLine) → rest ≡ line ∷ others → coming most_line spare_capacity line ≡ Comes → IsEditLine step.End line.text → put ≡ [] → end ≡ ends.Done → HowEnds last number spare_capacity rest put end
  by_fault : (fault : Fault) → IsStepFault (number + 1) spare_capacity rest fault → put ≡ fault_line fault → end ≡ fault_end fault → HowEnds last number spare_capacity rest put end
  by_go : (line : InputLine) (others : List InputLine) → rest ≡ line ∷ others → coming most_line spare_capacity line ≡ Comes → IsEditLine step.Go line.text
      → Opened (shown_form (net_of last)) (number + 1) (spare_capacity - line_size line) others put end → HowEnds last number spare_capacity rest put end

pub record EndsSession (standing : Standing) (lines : List InputLine) (number spare_capacity : ℕ) (put : List ℕ) (end : End) : Type 0 where
  pub edits : List InputLine
  pub rest : List InputLine
  pub step_stated : List Step
  pub last : Standing
  pub said : List ℕ
  pub more : List ℕ
  pub divided : lines ≡ edits ++ rest
  pub come : Come spare_capacity edits
  pub in_steps : StateSteps (net_of standing) (texts edits) step_stated (net_of last)
  pub says : SaysSteps standing step_stated said last
  pub all : put ≡ said ++ more
  pub how : HowEnds last (number + length edits) (capacity_after spare_capacity edits) rest more end

-- the execution that `go` begins
opened_by : (standing : Standing) (line : InputLine) (lines : List InputLine) (number spare_capacity : ℕ) (put answer : List ℕ) (flow : Flow InSession) (end : End) → BeginsByGo standing answer flow
    → Continues session_machine (at_edit standing number spare_capacity) line lines put end flow answer → Opened (shown_form (net_of standing)) (number + 1) (spare_capacity - line_size line) lines put end
opened_by standing line lines number spare_capacity put answer flow end (controls, (inner, begins, is)) continues =
    let goes : flow ≡ Continue (Executing (event_run_of (shown_form (net_of standing)) (started (setting_of (shown_form (net_of standing)) begins.table)))) = is ∙ ap (wrapped Executing) begins.goes in
    let on = subst (λ (o : Flow InSession). Continues session_machine (at_edit standing number spare_capacity) line lines put end o answer) goes continues in
    record {
      controllable =
          law_ordered_closures_are_controllable (shown_form (net_of standing)) begins.table begins.order begins.by_closure.dispatched.instant begins.by_closure.closure begins.by_closure.dispatched.ordered;
      table = begins.table;
      order = begins.order;
      by_closure = begins.by_closure;
      due = begins.due;
      first = begins.first;
      more = on.0;
      all = on.1 ∙ (ap (λ (a : List ℕ). a ++ on.0) begins.put ∙ append_assoc controllable_line (due_line begins.due) on.0);
      later = served_run executing_machine session_machine Executing wraps_executing (at (shown_form (net_of standing)) (started (setting_of (shown_form (net_of standing)) begins.table)) as_named (number + 1)
          (spare_capacity - line_size line)) lines on.0 end on.2;
    }

ends_here : (standing : Standing) (lines : List InputLine) (number spare_capacity : ℕ) (put : List ℕ) (end : End) → HowEnds standing number spare_capacity lines put end → EndsSession standing lines number spare_capacity put end
ends_here standing lines number spare_capacity put end how =
    let same : number ≡ number + 0 = omega arith in
    record {
      edits = [];
      rest = lines;
      step_stated = [];
      last = standing;
      said = [];
      more = put;
      divided = refl;
      come = tt;
      in_steps = (refl, refl);
      says = (refl, refl);
      all = refl;
      how = subst (λ (n : ℕ). HowEnds standing n spare_capacity lines put end) same how;
    }

-- how a session ends over the lines after one
abbrev EndsAfter : Standing → InputLine → List InputLine → ℕ → ℕ → List ℕ → End → Type 0
EndsAfter standing line lines number spare_capacity put end = EndsSession standing lines (number + 1) (spare_capacity - line_size line) put end

-- a line states a step, or has a fault
abbrev ReportsOrFails : InputLine → Type 0
ReportsOrFails line = ((step_stated : Step) × AreWordsOfEditLine step_stated (words line.text)) ⊎ ((kind : FormatKind) × IsEditFaultOfWords (words line.text) kind)

goes_on : (standing : Standing) (step_stated : Step) (line : InputLine) (lines : List InputLine) (number spare_capacity : ℕ) (put : List ℕ) (end : End) → coming most_line spare_capacity line ≡ Comes → IsEditLine step_stated line.text
    → (over : EditsOver standing step_stated lines (number + 1) (spare_capacity - line_size line) put end) → EndsAfter over.next line lines number spare_capacity over.more end
    → EndsSession standing (line ∷ lines) number spare_capacity put end
goes_on standing step_stated line lines number spare_capacity put end comes is over one =
    let same : number + 1 + length one.edits ≡ number + length (line ∷ one.edits) = omega arith in
    record {
      edits = line ∷ one.edits;
      rest = one.rest;
      step_stated = step_stated ∷ one.step_stated;
      last = one.last;
      said = over.answer ++ one.said;
      more = one.more;
      divided = ap (λ (ls : List InputLine). line ∷ ls) one.divided;
      come = (comes, one.come);
      in_steps = (
        step_stated,
        one.step_stated,
        is,
        edits_still standing step_stated over.answer over.says,
        refl,
        subst (λ (n : Plan). StateSteps n (texts one.edits) one.step_stated (net_of one.last)) (stands_net standing over.next step_stated over.stands) one.in_steps,
      );
      says = (over.answer, one.said, over.next, over.says, over.stands, refl, one.says);
      all = over.all ∙ (ap (λ (m : List ℕ). over.answer ++ m) one.all ∙ sym (append_assoc over.answer one.said one.more));
      how = subst (λ (n : ℕ). HowEnds one.last n (capacity_after (spare_capacity - line_size line) one.edits) one.rest one.more end) same one.how;
    }

-- if no line comes
stopped : (standing : Standing) (number : ℕ) (fault : Fault) (put answer : List ℕ) (end other : End) → put ≡ answer → end ≡ other → answer ≡ fault_line fault → other ≡ fault_end fault → (put ≡ fault_line fault) × (end ≡ fault_end fault)
stopped standing number fault put answer end other all is one so = (all ∙ one, is ∙ so)

module _ (steps : (line : List (List ℕ)) → OneStep line) where
  module _ (standing : Standing) (line : InputLine) (lines : List InputLine) (number spare_capacity : ℕ) (put : List ℕ) (end : End) (run : RunOver session_machine (at_edit standing number spare_capacity) (line ∷ lines) put end) where
    abbrev here : Here InSession
    here = at_edit standing number spare_capacity

    -- the reply to a line that states this, and how the run goes on
    record StatedReply (step_stated : Step) : Type 0 where
      pub answer : List ℕ
      pub flow : Flow InSession
      pub answers : AnswersStep standing step_stated answer flow
      pub on : Continues session_machine here line lines put end flow answer

    stated_there : (step_stated : Step) → coming most_line spare_capacity line ≡ Comes → IsEditLine step_stated line.text → StatedReply step_stated
    stated_there step_stated comes is =
        let one = replied session_machine here line lines put end Comes comes run in
        record { answer = one.answer; flow = one.flow; answers = stated_step steps standing (number + 1) step_stated line.text one.answer one.flow is one.replies; on = one.on }

    over_step : (step_stated : Step) → StillEdits (net_of standing) step_stated → coming most_line spare_capacity line ≡ Comes → IsEditLine step_stated line.text
        → EditsOver standing step_stated lines (number + 1) (spare_capacity - line_size line) put end
    over_step step_stated still comes is =
        let one = stated_there step_stated comes is in
        edits_over standing step_stated line lines number spare_capacity put one.answer one.flow end (still_edits standing step_stated one.answer one.flow still one.answers) one.on

    stated_ends : (step_stated : Step) → coming most_line spare_capacity line ≡ Comes → IsEditLine step_stated line.text
        → ((next : Standing) (more : List ℕ) → RunOver session_machine (at_edit next (number + 1) (spare_capacity - line_size line)) lines more end → EndsSession next lines (number + 1) (spare_capacity - line_size line) more end)
        → EndsSession standing (line ∷ lines) number spare_capacity put end
    stated_ends step_stated comes is later =
        let one = stated_there step_stated comes is in
        by one (does standing step_stated one.answer one.flow one.answers)
      where
        by : (one : StatedReply step_stated) → Does standing step_stated one.answer one.flow → EndsSession standing (line ∷ lines) number spare_capacity put end
        by one (ends_session same nothing so) =
            let on = subst (λ (o : Flow InSession). Continues session_machine here line lines put end o one.answer) so one.on in
            ends_here standing (line ∷ lines) number spare_capacity put end (at_end line lines refl comes (subst (λ (t : Step). IsEditLine t line.text) same is) (on.0 ∙ nothing) on.1)
        by one (begins_execution same begins) =
            ends_here standing (line ∷ lines) number spare_capacity put end
            (by_go line lines refl comes (subst (λ (t : Step). IsEditLine t line.text) same is) (opened_by standing line lines number spare_capacity put one.answer one.flow end begins one.on))
        by one (edits_on edits) =
            let over = edits_over standing step_stated line lines number spare_capacity put one.answer one.flow end edits one.on in
            goes_on standing step_stated line lines number spare_capacity put end comes is over (later over.next over.more over.later)

    -- a line that states nothing, or does not come, ends the run by its fault
    fault_ends : (kind : FormatKind) → coming most_line spare_capacity line ≡ Comes → IsEditFaultOfWords (words line.text) kind → (put ≡ fault_line (Format (number + 1) kind)) × (end ≡ fault_end (Format (number + 1) kind))
    fault_ends kind comes fault =
        let one = replied session_machine here line lines put end Comes comes run in
        let answers = fault_step steps standing (number + 1) kind line.text one.answer one.flow fault one.replies in
        let on = subst (λ (o : Flow InSession). Continues session_machine here line lines put end o one.answer) answers.1 one.on in
        (on.0 ∙ answers.0, on.1)

    long_ends : coming most_line spare_capacity line ≡ TooLong → (put ≡ fault_line (LongLine (number + 1))) × (end ≡ fault_end (LongLine (number + 1)))
    long_ends long =
        let one = replied session_machine here line lines put end TooLong long run in
        let on = subst (λ (o : Flow InSession). Continues session_machine here line lines put end o one.answer) one.replies.1 one.on in
        (on.0 ∙ one.replies.2.0, on.1 ∙ one.replies.2.1)

    much_ends : coming most_line spare_capacity line ≡ TooMuch → (put ≡ fault_line (MuchInput (number + 1))) × (end ≡ fault_end (MuchInput (number + 1)))
    much_ends much =
        let one = replied session_machine here line lines put end TooMuch much run in
        let on = subst (λ (o : Flow InSession). Continues session_machine here line lines put end o one.answer) one.replies.1 one.on in
        (on.0 ∙ one.replies.2.0, on.1 ∙ one.replies.2.1)

    line_ends : (how : Coming) → coming most_line spare_capacity line ≡ how → ReportsOrFails line
        → ((next : Standing) (more : List ℕ) → RunOver session_machine (at_edit next (number + 1) (spare_capacity - line_size line)) lines more end → EndsAfter next line lines number spare_capacity more end)
        → EndsSession standing (line ∷ lines) number spare_capacity put end
    line_ends Comes comes (inl (step_stated, is)) later = stated_ends step_stated comes is later
    line_ends Comes comes (inr (kind, fault)) later =
        let so = fault_ends kind comes fault in
        ends_here standing (line ∷ lines) number spare_capacity put end (by_fault (Format (number + 1) kind) (inr (inr (kind, comes, fault, refl))) so.0 so.1)
    line_ends TooLong comes either later = let so = long_ends comes in ends_here standing (line ∷ lines) number spare_capacity put end (by_fault (LongLine (number + 1)) (inl (comes, refl)) so.0 so.1)
    line_ends TooMuch comes either later = let so = much_ends comes in ends_here standing (line ∷ lines) number spare_capacity put end (by_fault (MuchInput (number + 1)) (inr (inl (comes, refl))) so.0 so.1)

  -- the end of the input ends it by its fault
  none_ends : (standing : Standing) (number spare_capacity : ℕ) (put : List ℕ) (end : End) → RunOver session_machine (at_edit standing number spare_capacity) [] put end
      → (put ≡ fault_line (Format (number + 1) NoEnd)) × (end ≡ fault_end (Format (number + 1) NoEnd))
  none_ends standing number spare_capacity put end run =
      let last = last_reply session_machine (at_edit standing number spare_capacity) put end run in
      let same : end ≡ last.0 = cc (last.1) in
      (last.2.0, same ∙ last.2.1)

  -- how a session ends
  pub session_ends : (lines : List InputLine) (standing : Standing) (number spare_capacity : ℕ) (put : List ℕ) (end : End) → RunOver session_machine (at_edit standing number spare_capacity) lines put end
      → EndsSession standing lines number spare_capacity put end
  session_ends [] standing number spare_capacity put end run =
      let so = none_ends standing number spare_capacity put end run in
      ends_here standing [] number spare_capacity put end (by_fault (Format (number + 1) NoEnd) refl so.0 so.1)
  session_ends (line ∷ lines) standing number spare_capacity put end run =
      line_ends standing line lines number spare_capacity put end run (coming most_line spare_capacity line) refl (steps (words line.text)).either
      (λ next more later. session_ends lines next (number + 1) (spare_capacity - line_size line) more end later)

  -- and if what comes next has a fault, it ends by that
  pub step_fault : (rest : List InputLine) (standing : Standing) (number spare_capacity : ℕ) (put : List ℕ) (end : End) (fault : Fault) → IsStepFault (number + 1) spare_capacity rest fault
      → RunOver session_machine (at_edit standing number spare_capacity) rest put end
      → (put ≡ fault_line fault) × (end ≡ fault_end fault)
  step_fault [] standing number spare_capacity put end fault is run = subst (λ (f : Fault). (put ≡ fault_line f) × (end ≡ fault_end f)) (sym is) (none_ends standing number spare_capacity put end run)
  step_fault (line ∷ rest) standing number spare_capacity put end fault (inl (long, is)) run = subst (λ (f : Fault). (put ≡ fault_line f) × (end ≡ fault_end f)) (sym is) (long_ends standing line rest number spare_capacity put end run long)
  step_fault (line ∷ rest) standing number spare_capacity put end fault (inr (inl (much, is))) run = subst (λ (f : Fault). (put ≡ fault_line f) × (end ≡ fault_end f)) (sym is)
      (much_ends standing line rest number spare_capacity put end run much)
  step_fault (line ∷ rest) standing number spare_capacity put end fault (inr (inr (kind, comes, faulty, is))) run =
      subst (λ (f : Fault). (put ≡ fault_line f) × (end ≡ fault_end f)) (sym is) (fault_ends standing line rest number spare_capacity put end run kind comes faulty)

  -- a run goes over lines that state steps
  pub over_steps : (edits rest : List InputLine) (standing : Standing) (step_stated : List Step) (net : Plan) (number spare_capacity : ℕ) (put : List ℕ) (end : End) → Come spare_capacity edits
      → StateSteps (net_of standing) (texts edits) step_stated net
      → RunOver session_machine (at_edit standing number spare_capacity) (edits ++ rest) put end → OverSteps standing step_stated net rest (number + length edits) (capacity_after spare_capacity edits) put end
  over_steps [] rest standing step_stated net number spare_capacity put end come in_steps run =
      let same : number ≡ number + 0 = omega arith in
      record {
        last = standing;
        said = [];
        more = put;
        says = subst (λ (ts : List Step). SaysSteps standing ts [] standing) (sym in_steps.0) (refl, refl);
        stands = in_steps.1;
        all = refl;
        later = subst (λ (n : ℕ). RunOver session_machine (at_edit standing n spare_capacity) rest put end) same run;
      }
  over_steps (line ∷ edits) rest standing step_stated net number spare_capacity put end come (first, others, is, still, all, in_steps) run =
      let over = over_step standing line (edits ++ rest) number spare_capacity put end run first still come.0 is in
      let on =
      over_steps edits rest over.next others net (number + 1) (spare_capacity - line_size line) over.more end come.1
      (subst (λ (n : Plan). StateSteps n (texts edits) others net) (sym (stands_net standing over.next first over.stands)) in_steps) over.later in
      let same : number + 1 + length edits ≡ number + length (line ∷ edits) = omega arith in
      record {
        last = on.last;
        said = over.answer ++ on.said;
        more = on.more;
        says = subst (λ (ts : List Step). SaysSteps standing ts (over.answer ++ on.said) on.last) (sym all) (over.answer, on.said, over.next, over.says, over.stands, refl, on.says);
        stands = on.stands;
        all = over.all ∙ (ap (λ (m : List ℕ). over.answer ++ m) on.all ∙ sym (append_assoc over.answer on.said on.more));
        later = subst (λ (n : ℕ). RunOver session_machine (at_edit on.last n (capacity_after (spare_capacity - line_size line) edits)) rest on.more end) same on.later;
      }

  -- and `end` ends it
  pub end_there : (line : InputLine) (others : List InputLine) (standing : Standing) (number spare_capacity : ℕ) (put : List ℕ) (end : End) → coming most_line spare_capacity line ≡ Comes → IsEditLine step.End line.text
      → RunOver session_machine (at_edit standing number spare_capacity) (line ∷ others) put end → (put ≡ []) × (end ≡ ends.Done)
  end_there line others standing number spare_capacity put end comes is run =
      let one = stated_there standing line others number spare_capacity put end run step.End comes is in
      let on = subst (λ (o : Flow InSession). Continues session_machine (at_edit standing number spare_capacity) line others put end o one.answer) one.answers.1 one.on in
      (on.0 ∙ one.answers.0, on.1)

  -- and `go` begins the execution of the network as it stands, if that is controllable
  pub go_there : (line : InputLine) (others : List InputLine) (standing : Standing) (number spare_capacity : ℕ) (put : List ℕ) (end : End) → coming most_line spare_capacity line ≡ Comes → IsEditLine step.Go line.text
      → IsPlan (net_of standing) → IsControllable (shown_form (net_of standing)) → RunOver session_machine (at_edit standing number spare_capacity) (line ∷ others) put end
      → Opened (shown_form (net_of standing)) (number + 1) (spare_capacity - line_size line) others put end
  go_there line others standing number spare_capacity put end comes is plan controls run =
      let one = stated_there standing line others number spare_capacity put end run step.Go comes is in
      by one one.answers
    where
      by : (one : StatedReply standing line others number spare_capacity put end run step.Go) → BeginsByGo standing one.answer one.flow ⊎ EditsOn standing step.Go one.answer one.flow
          → Opened (shown_form (net_of standing)) (number + 1) (spare_capacity - line_size line) others put end
      by one (inl begins) = opened_by standing line others number spare_capacity put one.answer one.flow end begins one.on
      by one (inr (after, never, stands, goes)) = absurd (never.0 ((law_controllable_is_shown (net_of standing) plan).1 controls))

-- ---- lines that were answered while the network is edited
pub record StillEdited (standing : Standing) (lines : List InputLine) (spare_capacity : ℕ) (said : List ℕ) (last : Standing) : Type 0 where
  pub step_stated : List Step
  pub come : Come spare_capacity lines
  pub in_steps : StateSteps (net_of standing) (texts lines) step_stated (net_of last)
  pub says : SaysSteps standing step_stated said last

editing_one : (a b : Standing) → Editing a ≡ Editing b → a ≡ b
editing_one a b same = cc

-- the reply to a line after which the network is edited further
record Edited (standing : Standing) (spare_capacity : ℕ) (line : InputLine) (answer : List ℕ) (after : Standing) : Type 0 where
  pub comes : coming most_line spare_capacity line ≡ Comes
  pub step_stated : Step
  pub is : IsEditLine step_stated line.text
  pub says : SaysStep standing step_stated answer
  pub stands : StandsAfter standing step_stated after

edited_by : (standing after : Standing) (spare_capacity : ℕ) (line : InputLine) (answer : List ℕ) (step_stated : Step) → coming most_line spare_capacity line ≡ Comes → IsEditLine step_stated line.text
    → Does standing step_stated answer (Continue (Editing after)) → Edited standing spare_capacity line answer after
edited_by standing after spare_capacity line answer step_stated comes is (ends_session same nothing so) = absurd cc
edited_by standing after spare_capacity line answer step_stated comes is (begins_execution same (controls, (Continue event_run, begins, goes))) = absurd cc
edited_by standing after spare_capacity line answer step_stated comes is (begins_execution same (controls, (Finish end, begins, goes))) = absurd cc
edited_by standing after spare_capacity line answer step_stated comes is (edits_on (next, says, stands, goes)) =
    let same : next ≡ after = cc in
    record { comes = comes; step_stated = step_stated; is = is; says = says; stands = subst (λ (s : Standing). StandsAfter standing step_stated s) same stands }

edited_there : (standing after : Standing) (number spare_capacity : ℕ) (line : InputLine) (answer : List ℕ) (how : Coming) → coming most_line spare_capacity line ≡ how
    → RepliesTo session_machine how (at_edit standing number spare_capacity) line.text answer (Continue (Editing after))
    → Edited standing spare_capacity line answer after
edited_there standing after number spare_capacity line answer Comes comes (inl (step_stated, is, answers)) =
    edited_by standing after spare_capacity line answer step_stated comes is (does standing step_stated answer (Continue (Editing after)) answers)
edited_there standing after number spare_capacity line answer Comes comes (inr (kind, is, put, ended)) = absurd cc
edited_there standing after number spare_capacity line answer TooLong comes (end, ended, stops) = absurd cc
edited_there standing after number spare_capacity line answer TooMuch comes (end, ended, stops) = absurd cc

pub still_edited : (lines : List InputLine) (standing last : Standing) (number spare_capacity : ℕ) (said : List ℕ) (there : Here InSession) → Answers session_machine (at_edit standing number spare_capacity) lines said there
    → there.state ≡ Editing last
    → StillEdited standing lines spare_capacity said last
still_edited [] standing last number spare_capacity said there (nothing, same) is =
    let one : standing ≡ last = editing_one standing last (ap (λ (h : Here InSession). h.state) same ∙ is) in
    record { step_stated = []; come = tt; in_steps = (refl, ap net_of one); says = (nothing, one) }
still_edited (line ∷ lines) standing last number spare_capacity said there (answer, more, Executing event_run, replies, all, later) is =
    let inner = served_lines executing_machine session_machine Executing wraps_executing (record { state = event_run; number = number + 1; spare_capacity = spare_capacity - line_size line }) lines more there later in
    let other : there.state ≡ Executing inner.0.state = ap (λ (h : Here InSession). h.state) inner.1 in
    absurd (cc (other, is))
still_edited (line ∷ lines) standing last number spare_capacity said there (answer, more, Editing after, replies, all, later) is =
    let one = edited_there standing after number spare_capacity line answer (coming most_line spare_capacity line) refl replies in
    let on = still_edited lines after last (number + 1) (spare_capacity - line_size line) more there later is in
    record {
      step_stated = one.step_stated ∷ on.step_stated;
      come = (one.comes, on.come);
      in_steps = (
        one.step_stated,
        on.step_stated,
        one.is,
        edits_still standing one.step_stated answer one.says,
        refl,
        subst (λ (n : Plan). StateSteps n (texts lines) on.step_stated (net_of last)) (stands_net standing after one.step_stated one.stands) on.in_steps,
      );
      says = (answer, more, after, one.says, one.stands, all, on.says);
    }

-- ---- the network as it stands is sound
-- after an accepted edit, and after a refused one
sound_edited : (before after : Standing) (edit : Edit) (made : Result Plan EditFault) → StandsAfterEdit before edit made after → IsPlan (net_of before) → IsPlan (net_of after)
sound_edited before after edit (Ok net) stands plan = subst IsPlan (sym (ap net_of stands.is)) stands.plan
sound_edited before after edit (Err cause) stands plan = subst (λ (s : Standing). IsPlan (net_of s)) (sym stands) plan

-- and after any other line, which changes nothing
sound_same : (before after : Standing) → after ≡ before → IsPlan (net_of before) → IsPlan (net_of after)
sound_same before after same = subst (λ (s : Standing). IsPlan (net_of s)) (sym same)

sound_after : (before after : Standing) (step_stated : Step) → StandsAfter before step_stated after → IsPlan (net_of before) → IsPlan (net_of after)
sound_after before after (step.Edit edit) stands = sound_edited before after edit (edited (net_of before) edit) stands
sound_after before after step.Blank stands = sound_same before after stands
sound_after before after step.Verdict stands = sound_same before after stands
sound_after before after step.Proof stands = sound_same before after stands
sound_after before after step.Table stands = sound_same before after stands
sound_after before after step.Plan stands = sound_same before after stands
sound_after before after step.Report stands = sound_same before after stands
sound_after before after step.Go stands = sound_same before after stands
sound_after before after step.End stands = sound_same before after stands

pub sound_then : (first : Standing) (steps : List Step) (said : List ℕ) (last : Standing) → SaysSteps first steps said last → IsPlan (net_of first) → IsPlan (net_of last)
sound_then first [] said last (nothing, same) plan = subst (λ (s : Standing). IsPlan (net_of s)) same plan
sound_then first (step_stated ∷ steps) said last (answer, more, next, says, stands, all, later) plan = sound_then next steps more last later (sound_after first next step_stated stands plan)
