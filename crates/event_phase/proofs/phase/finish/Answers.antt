use Rattle.std.proofs.Common.{◌≤◌, ℕ, List, length, sym, subst}
use Rattle.execution_model.specs.declared.feed_answers.Act.{Act}
use Rattle.command_engine.specs.declared.machines.Flow.TheVariants.{Finish}
use Rattle.event_phase.specs.EventPhase.{AnswersEnd, EndsAmong}
use Rattle.event_phase.proofs.FeedAnswerLemmas.{ends_among}
use Rattle.event_phase.proofs.phase.finish.Goals as goal

pub put_end-requires-clause-points : goal.put_end-requires-clause-points
put_end-requires-clause-points c =
    let event_run = c.requires.parts.event_run in
    let few = subst (λ (n : ℕ). length c.finish-finished.new.self.acts ≤ n) c.acts.ensures.count c.acts.ensures.few in
    subst (EndsAmong c.args.parts.net c.finish-finished.result) (sym c.acts.ensures.value)
    (ends_among c.args.parts.net c.args.parts.executor c.finish-finished.result c.finish-finished.new.self event_run.goes_on event_run.dispatch c.finish-finished.ensures.finished few)

pub returns-clause-answers : goal.returns-clause-answers
returns-clause-answers c = (
  c.finish-finished.result,
  c.finish-finished.new.self,
  c.finish-finished.ensures.finished,
  subst (λ (acts : List Act). AnswersEnd c.args.parts.net c.args.number c.finish-finished.result acts c.put_end.new.answer.text (Finish c.put_end.result)) c.acts.ensures.value c.put_end.ensures.answers,
)
