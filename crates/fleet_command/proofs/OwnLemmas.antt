-- What one plan of a fleet says to a line of its own.
use Rattle.std.proofs.Common.{◌≡◌, inl, inr, ℕ, ◌≤◌, Bool, true, false, List, [], ◌∷◌, Option, Some, None, refl, sym, ap, ◌∙◌, subst, arith}
use Rattle.std.specs.Prelude.{codes}
use Rattle.std.specs.Fmt.{decimal}
use Rattle.texts.specs.PrintedLines.{joined, printed_line}
use Rattle.texts.specs.Words.{words, are_passed_over}
use Rattle.net_model.specs.Network.{Plan}
use Rattle.net_model.specs.NetworkParts.{point_name}
use Rattle.net_model.specs.ShownForm.{shown_form}
use Rattle.net_model.specs.declared.format.FormatKind.{FormatKind}
use Rattle.net_model.specs.declared.format.FormatKind.TheVariants as kind
use Rattle.event_stream.specs.EventText.{EventLine, blank, completed, done, after_at, after_done, unknown_word, IsEventLine, IsEventFault}
use Rattle.execution_model.specs.Feeds.{Execution}
use Rattle.execution_model.specs.declared.feed_answers.Act.{Act}
use Rattle.execution_model.specs.declared.feed_answers.Fed.{Fed}
use Rattle.execution_model.specs.declared.feed_answers.Fed.TheVariants as fed
use Rattle.execution_model.specs.declared.feed_answers.Finished.{Finished}
use Rattle.execution_model.specs.declared.feed_answers.Finished.TheVariants as finished
use Rattle.command_engine.specs.declared.machines.Flow.{Flow}
use Rattle.command_engine.specs.declared.machines.Flow.TheVariants.{Continue, Finish}
use Rattle.multiplexed_commands.specs.Alone.{MemberState, Runs, Idle, SaysLineAlone, stands_after, idle_said}
use Rattle.multiplexed_commands.specs.NamedLines.{IsOfWholeLines}
use Rattle.multiplexed_commands.specs.Projection.{SaysWholeLines}
use Rattle.multiplexed_commands.specs.Runs.{HasFixedLines}
use Rattle.multiplexed_commands.proofs.NamedLineLemmas.{unfinished_last, whole_both, whole_none}
use Rattle.event_phase.specs.EventRuns.{EventRun, event_run_of}
use Rattle.event_phase.specs.EventAnswers.{act_line, acts_text, complete_line, due_line, event_fault_line, event_refusal_line, why_words, unfinished_words}
use Rattle.event_phase.specs.EventPhase.{answer_capacity, AnswersEnd, AnswersEvent, AnswersFeed, executing_machine, GoesWith, TakesEvent}
use Rattle.event_phase.specs.CompletionOrders.{ReportsAs, as_named}
use Rattle.common_answers.specs.Faults.{fault_end, fault_words}
use Rattle.common_answers.specs.declared.faults.Fault.TheVariants.{Format}
use Rattle.plan_fleet.specs.FleetPlans.{FleetPlan}
use Rattle.event_phase.proofs.FeedAnswerLemmas.{reported_answers, fault_answers}
use Rattle.fleet_command.proofs.ShownLemmas.{fault_shown, line_shown}
use Rattle.plan_fleet.specs.declared.plan_execution.PlanExecution.{PlanExecution}
use Rattle.plan_fleet.specs.declared.plan_execution.PlanExecution.TheVariants.{NotControllable, Running, Complete, Ended}
use Rattle.fleet_command.specs.FleetStands.{SaysIdle, SaysLine, SaysStated, stands_by, stands_of, stands_capacity}

-- ---- the answers to events end with a line end
pub printed_whole : (words : List (List ℕ)) → IsOfWholeLines (printed_line words)
printed_whole words = unfinished_last (joined words)

acts_whole : (net : Plan) (acts : List Act) → IsOfWholeLines (acts_text net acts)
acts_whole net [] = whole_none
acts_whole net (act ∷ acts) =
    whole_both (act_line net act) (acts_text net acts) (printed_whole (codes "act" ∷ decimal act.moment ∷ point_name net.points act.point ∷ [])) (acts_whole net acts)

pub due_whole : (due : Option ℕ) → IsOfWholeLines (due_line due)
due_whole (Some moment) = printed_whole (codes "due" ∷ decimal moment ∷ [])
due_whole None = printed_whole (codes "due" ∷ codes "none" ∷ [])

fault_whole : (number : ℕ) (kind : FormatKind) → IsOfWholeLines (event_fault_line number kind)
fault_whole number kind.NumberLimit = printed_whole (codes "error" ∷ codes "limit" ∷ decimal number ∷ codes "moment" ∷ [])
fault_whole number other = printed_whole (codes "error" ∷ fault_words (Format number other))

event_line_whole : (number : ℕ) (words : List (List ℕ)) → IsOfWholeLines (event_refusal_line number words)
event_line_whole number words = printed_whole (codes "error" ∷ codes "event" ∷ decimal number ∷ words)

pub is_whole : (put said : List ℕ) → put ≡ said → IsOfWholeLines said → IsOfWholeLines put
is_whole put said is whole = subst IsOfWholeLines (sym is) whole

feed_whole : (state after : EventRun) (number : ℕ) (answer : Fed) (put : List ℕ) (flow : Flow EventRun) → AnswersFeed state number answer after put flow → IsOfWholeLines put
feed_whole state after number fed.Acts put flow (due, is, says, goes) =
    is_whole put _ says (whole_both (acts_text state.net after.execution.acts) (due_line due) (acts_whole state.net after.execution.acts) (due_whole due))
feed_whole state after number (fed.Refused cause) put flow (says, goes) = is_whole put _ says (event_line_whole number (why_words state.net cause))
feed_whole state after number (fed.Ended cause) put flow (says, goes) = is_whole put _ says (event_line_whole number (why_words state.net cause))

end_whole : (net : Plan) (number : ℕ) (answer : Finished) (acts : List Act) (put : List ℕ) (flow : Flow EventRun) → AnswersEnd net number answer acts put flow → IsOfWholeLines put
end_whole net number finished.Complete acts put flow (says, ends) =
    is_whole put _ says (whole_both (acts_text net acts) complete_line (acts_whole net acts) (printed_whole (codes "complete" ∷ [])))
end_whole net number (finished.Unfinished point) acts put flow (says, ends) = is_whole put _ says (event_line_whole number (unfinished_words net point))
end_whole net number (finished.Ended cause) acts put flow (says, ends) = is_whole put _ says (event_line_whole number (why_words net cause))

event_whole : (state : EventRun) (number : ℕ) (reported : EventLine) (put : List ℕ) (flow : Flow EventRun) → AnswersEvent state number reported put flow → IsOfWholeLines put
event_whole state number blank put flow (says, goes) = is_whole put [] says whole_none
event_whole state number (completed moment points) put flow (answered, after, feeds, answers) = feed_whole state _ number answered put flow answers
event_whole state number done put flow (answered, after, finishes, answers) = end_whole state.net number answered after.acts put flow answers

pub executing_whole : SaysWholeLines executing_machine
executing_whole state number line said flow (inl (reported, statement, answers)) = event_whole state number reported said flow answers
executing_whole state number line said flow (inr (kind, is, says, goes)) = is_whole said _ says (fault_whole number kind)

pub executing_fixed : HasFixedLines executing_machine
executing_fixed state = refl

idle_whole : (passed : Bool) → IsOfWholeLines (idle_said passed)
idle_whole true = whole_none
idle_whole false = printed_whole (codes "idle" ∷ [])

pub says_whole : (stands after : MemberState EventRun) (number : ℕ) (line said : List ℕ) → SaysLineAlone executing_machine stands number line said after → IsOfWholeLines said
says_whole (Runs event_run) after number line said (flow, takes, is) = executing_whole event_run number line said flow takes
says_whole Idle after number line said (says, is) = is_whole said _ says (idle_whole (are_passed_over (words line)))

-- ---- if an execution goes on, it does for the same network
feed_with : (state after : EventRun) (number : ℕ) (answer : Fed) (put : List ℕ) (flow : Flow EventRun) → after.net ≡ state.net → AnswersFeed state number answer after put flow → GoesWith state.net flow
feed_with state after number fed.Acts put flow same (due, is, says, goes) = subst (λ (o : Flow EventRun). GoesWith state.net o) (sym goes) same
feed_with state after number (fed.Refused cause) put flow same (says, goes) = subst (λ (o : Flow EventRun). GoesWith state.net o) (sym goes) tt
feed_with state after number (fed.Ended cause) put flow same (says, goes) = subst (λ (o : Flow EventRun). GoesWith state.net o) (sym goes) tt

end_with : (net : Plan) (number : ℕ) (answer : Finished) (acts : List Act) (put : List ℕ) (flow : Flow EventRun) → AnswersEnd net number answer acts put flow → GoesWith net flow
end_with net number finished.Complete acts put flow (says, goes) = subst (λ (o : Flow EventRun). GoesWith net o) (sym goes) tt
end_with net number (finished.Unfinished point) acts put flow (says, goes) = subst (λ (o : Flow EventRun). GoesWith net o) (sym goes) tt
end_with net number (finished.Ended cause) acts put flow (says, goes) = subst (λ (o : Flow EventRun). GoesWith net o) (sym goes) tt

event_with : (state : EventRun) (number : ℕ) (reported : EventLine) (put : List ℕ) (flow : Flow EventRun) → AnswersEvent state number reported put flow → GoesWith state.net flow
event_with state number blank put flow (says, goes) = subst (λ (o : Flow EventRun). GoesWith state.net o) (sym goes) refl
event_with state number (completed moment points) put flow (answered, after, feeds, answers) = feed_with state (record state { execution = after }) number answered put flow refl answers
event_with state number done put flow (answered, after, finishes, answers) = end_with state.net number answered after.acts put flow answers

takes_with : (state : EventRun) (number : ℕ) (line put : List ℕ) (flow : Flow EventRun) → TakesEvent state number line put flow → GoesWith state.net flow
takes_with state number line put flow (inl (reported, statement, answers)) = event_with state number reported put flow answers
takes_with state number line put flow (inr (kind, is, says, goes)) = subst (λ (o : Flow EventRun). GoesWith state.net o) (sym goes) tt

-- so the capacity of its answers does not grow
capacity_with : (state : EventRun) (flow : Flow EventRun) → GoesWith state.net flow → stands_capacity (stands_after flow) ≤ stands_capacity (Runs state)
capacity_with state (Continue next) same =
    let same_capacity : answer_capacity next.net ≡ answer_capacity state.net = ap answer_capacity same in
    omega (arith, same_capacity)
capacity_with state (Finish end) same = omega arith

pub says_capacity : (stands after : MemberState EventRun) (number : ℕ) (line said : List ℕ) → SaysLineAlone executing_machine stands number line said after → stands_capacity after ≤ stands_capacity stands
says_capacity (Runs event_run) after number line said (flow, takes, is) =
    subst (λ (s : MemberState EventRun). stands_capacity s ≤ stands_capacity (Runs event_run)) (sym is) (capacity_with event_run flow (takes_with event_run number line said flow takes))
says_capacity Idle after number line said (says, is) = subst (λ (s : MemberState EventRun). stands_capacity s ≤ 0) (sym is) (omega arith)

-- ---- what a line states
-- without feeders, what a line states is passed on as it is
reports_itself : (reported : EventLine) → ReportsAs as_named reported reported
reports_itself blank = refl
reports_itself (completed moment points) = (points, refl, refl)
reports_itself done = refl

-- what one says that does not run it says to each line that is not passed over
pub idle_says : (number : ℕ) (line said : List ℕ) (old new : FleetPlan) → are_passed_over (words line) ≡ false → SaysIdle said old new → SaysLine number line said old new
idle_says number line said old new stays idle = record {
  net = ap (λ (p : FleetPlan). p.net) idle.same;
  says =
      subst (λ (s : MemberState EventRun). SaysLineAlone executing_machine s number line said (stands_of new)) (sym idle.stands)
      (idle.says ∙ sym (ap idle_said stays), ap stands_of idle.same ∙ idle.stands);
}

-- a line that is passed over changes nothing
blank_alone : (net : Plan) (number : ℕ) (line said : List ℕ) (execution : PlanExecution) → said ≡ [] → IsEventLine net blank line
    → SaysLineAlone executing_machine (stands_by net execution) number line said (stands_by net execution)
blank_alone net number line said (Running execution) nothing is =
    let event_run = event_run_of (shown_form net) execution in
    (Continue event_run, reported_answers event_run number line blank said (Continue event_run) (line_shown net blank line is) (blank, refl, (nothing, refl)), refl)
blank_alone net number line said NotControllable nothing is = (nothing ∙ sym (ap idle_said is), refl)
blank_alone net number line said (Complete execution) nothing is = (nothing ∙ sym (ap idle_said is), refl)
blank_alone net number line said (Ended execution) nothing is = (nothing ∙ sym (ap idle_said is), refl)

pub blank_says : (number : ℕ) (line said : List ℕ) (plan : FleetPlan) → said ≡ [] → IsEventLine plan.net blank line → SaysLine number line said plan plan
blank_says number line said plan nothing is = record { net = refl; says = blank_alone plan.net number line said plan.execution nothing is }

-- a line that states something is not passed over, and neither is one with a fault
pub stated_stays : (net : Plan) (reported : EventLine) (line : List ℕ) → IsEventLine net reported line → (reported ≡ blank → ⊥) → are_passed_over (words line) ≡ false
stated_stays net blank line is never = absurd (never refl)
stated_stays net (completed moment points) line is never = ap are_passed_over is.spelled
stated_stays net done line is never = ap are_passed_over is

pub fault_stays : (net : Plan) (kind : FormatKind) (line : List ℕ) → IsEventFault net line kind → are_passed_over (words line) ≡ false
fault_stays net kind line (unknown_word stays at done_first is) = stays
fault_stays net kind line (after_at others is fault) = ap are_passed_over is
fault_stays net kind line (after_done next others is same) = ap are_passed_over is

-- what a plan says to what a line states it says to the line
pub reported_says : (number : ℕ) (line said : List ℕ) (reported : EventLine) (old new : FleetPlan) → IsEventLine old.net reported line → (reported ≡ blank → ⊥) → SaysStated number reported said old new
    → SaysLine number line said old new
reported_says number line said reported old new is never (inl says) = record {
  net = says.net;
  says =
      subst (λ (s : MemberState EventRun). SaysLineAlone executing_machine s number line said (stands_of new)) (sym says.was)
      (says.flow, reported_answers (event_run_of (shown_form old.net) says.execution) number line reported said says.flow (line_shown old.net reported line is) (reported, reports_itself reported, says.answers), says.stands);
}
reported_says number line said reported old new is never (inr idle) = idle_says number line said old new (stated_stays old.net reported line is never) idle

-- if a line states nothing it says why, and is idle
pub fault_says : (number : ℕ) (line said : List ℕ) (kind : FormatKind) (old new : FleetPlan) (execution : Execution) → stands_of old ≡ Runs (event_run_of (shown_form old.net) execution) → stands_of new ≡ Idle → new.net ≡ old.net
    → IsEventFault old.net line kind → said ≡ event_fault_line number kind → SaysLine number line said old new
fault_says number line said kind old new execution was ended net is says = record {
  net = net;
  says =
      subst (λ (s : MemberState EventRun). SaysLineAlone executing_machine s number line said (stands_of new)) (sym was)
      (Finish (fault_end (Format number kind)), fault_answers (event_run_of (shown_form old.net) execution) number line kind said (fault_end (Format number kind)) (fault_shown old.net line kind is) says refl, ended);
}
