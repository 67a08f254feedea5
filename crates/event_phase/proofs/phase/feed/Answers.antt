use Rattle.std.proofs.Common.{List, Option, ap, sym, subst}
use Rattle.execution_model.specs.declared.feed_answers.Act.{Act}
use Rattle.command_engine.specs.declared.endings.End.{End}
use Rattle.command_engine.specs.declared.machines.Flow.{Flow}
use Rattle.command_engine.specs.declared.machines.Flow.TheVariants.{Continue}
use Rattle.event_stream.specs.EventText.{completed}
use Rattle.event_phase.specs.EventRuns.{EventRun, event_run_in}
use Rattle.event_phase.specs.EventPhase.{AnswersRead, FeedsAmong, PutsFed}
use Rattle.event_phase.specs.declared.phase.ExecutingParts.{ExecutingParts}
use Rattle.event_phase.proofs.FeedAnswerLemmas.{put_among, named_answers, named_keeps, event_run_after, flow_of}
use Rattle.event_phase.proofs.phase.feed.Goals as goal

pub put_fed-requires-clause-points : goal.put_fed-requires-clause-points
put_fed-requires-clause-points g c =
    subst (FeedsAmong c.feed_named-fed.new.parts.net c.feed_named-fed.result) (sym c.acts.ensures.value)
    (put_among c.args.parts c.args.moment c.feed_named-fed.result c.feed_named-fed.new.parts c.feed_named-fed.ensures c.requires.parts c.requires.points c.acts.ensures.few c.acts.ensures.count)

pub invariant_of-result : goal.invariant_of-result
invariant_of-result g c =
    let after = c.feed_named-fed.new.parts in
    let puts = subst (λ (acts : List Act). PutsFed after.net c.args.number c.feed_named-fed.result acts c.next_due-due.result c.put_fed.new.answer.text c.put_fed.result) c.acts.ensures.value c.put_fed.ensures.answers in
    named_keeps c.args.parts c.args.moment c.feed_named-fed.result after c.feed_named-fed.ensures c.requires.parts c.args.number c.next_due-due.result c.put_fed.new.answer.text c.put_fed.result puts
    c.acts.ensures.count c.in-None.is

pub returns-in-None-clause-answers : goal.returns-in-None-clause-answers
returns-in-None-clause-answers g c =
    let before = c.args.parts in
    let after = c.feed_named-fed.new.parts in
    let put = c.put_fed.new.answer.text in
    let puts = subst (λ (acts : List Act). PutsFed after.net c.args.number c.feed_named-fed.result acts c.next_due-due.result put c.put_fed.result) c.acts.ensures.value c.put_fed.ensures.answers in
    let answers = named_answers before c.args.moment c.feed_named-fed.result after c.feed_named-fed.ensures c.requires.parts c.args.number c.next_due-due.result put c.put_fed.result puts c.next_due-due.ensures in
    let goes_on = subst (λ (e : Option End). AnswersRead (event_run_in before) c.args.number (completed c.args.moment before.events) put (flow_of (event_run_in before) after.executor e)) c.in-None.is answers in
    let goes : EventRun → Flow EventRun = λ event_run. Continue event_run in
    subst (AnswersRead (event_run_in before) c.args.number (completed c.args.moment before.events) put)
    (ap goes (sym (event_run_after before c.args.moment c.feed_named-fed.result after c.feed_named-fed.ensures c.requires.parts))) goes_on

pub returns-in-None-clause-kept : goal.returns-in-None-clause-kept
returns-in-None-clause-kept g c = ap (λ (parts : ExecutingParts). parts.net) c.feed_named-fed.ensures.same

pub returns-in-Some-clause-answers : goal.returns-in-Some-clause-answers
returns-in-Some-clause-answers g c =
    let before = c.args.parts in
    let after = c.feed_named-fed.new.parts in
    let put = c.put_fed.new.answer.text in
    let puts = subst (λ (acts : List Act). PutsFed after.net c.args.number c.feed_named-fed.result acts c.next_due-due.result put c.put_fed.result) c.acts.ensures.value c.put_fed.ensures.answers in
    let answers = named_answers before c.args.moment c.feed_named-fed.result after c.feed_named-fed.ensures c.requires.parts c.args.number c.next_due-due.result put c.put_fed.result puts c.next_due-due.ensures in
    subst (λ (e : Option End). AnswersRead (event_run_in before) c.args.number (completed c.args.moment before.events) put (flow_of (event_run_in before) after.executor e)) c.in-Some.is answers
