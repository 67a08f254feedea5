use Rattle.std.proofs.Common.{subst}
use Rattle.event_stream.specs.EventText.{said}
use Rattle.command_engine.specs.declared.machines.Flow.TheVariants.{Finish}
use Rattle.event_phase.specs.EventRuns.{EventRun, event_run_in}
use Rattle.event_phase.specs.EventPhase.{TakesEvent}
use Rattle.event_phase.proofs.FeedAnswerLemmas.{reported_answers, fault_answers}
use Rattle.event_phase.proofs.CompletionOrderLemmas.{read_within}
use Rattle.event_phase.proofs.phase.ExecutingCommand.take_line.Goals as goal

pub answer_event-requires-clause-within : goal.answer_event-requires-clause-within
answer_event-requires-clause-within g c = λ lifetimes lives.
    read_within c.self.inside.parts.net (said c.in-Ok.event c.read-reported.new.self) c.args.line.now c.in-Ok.ensures.grammar

pub returns-in-Ok-clause-takes : goal.returns-in-Ok-clause-takes
returns-in-Ok-clause-takes g c =
    let reported = said c.in-Ok.event c.read-reported.new.self in
    subst (λ (s : EventRun). TakesEvent s c.args.number c.args.line.now c.answer_event.new.answer.text c.answer_event.result) c.self.view_is
    (reported_answers (event_run_in c.self.inside.parts) c.args.number c.args.line.now reported c.answer_event.new.answer.text c.answer_event.result c.in-Ok.ensures.grammar c.answer_event.ensures.answers)

pub returns-in-Err-clause-takes : goal.returns-in-Err-clause-takes
returns-in-Err-clause-takes g c =
    subst (λ (s : EventRun). TakesEvent s c.args.number c.args.line.now c.refuse_line.new.answer.text (Finish c.refuse_line.result)) c.self.view_is
    (fault_answers (event_run_in c.self.inside.parts) c.args.number c.args.line.now c.in-Err.kind c.refuse_line.new.answer.text c.refuse_line.result c.in-Err.ensures.fault c.refuse_line.ensures.put c.refuse_line.ensures.end)
