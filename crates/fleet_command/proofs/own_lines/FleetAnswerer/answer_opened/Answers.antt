use Rattle.std.proofs.Common.{subst}
use Rattle.event_stream.specs.EventText.{IsEventLine, completed, done, said}
use Rattle.event_stream.specs.declared.event.Event.{Event}
use Rattle.fleet_command.proofs.OpenedPlanLemmas.{blank_changes, reported_changes}
use Rattle.fleet_command.proofs.own_lines.FleetAnswerer.answer_opened.Goals as goal

pub returns-in-Ok-Blank-clause-changes : goal.returns-in-Ok-Blank-clause-changes
returns-in-Ok-Blank-clause-changes c =
    let net = c.network.result.now in
    blank_changes c.args.self.now.fleet c.args.place c.args.number c.args.line.now c.clear.new.self.text net c.network.ensures.value c.clear.ensures.text
    (subst (λ (e : Event). IsEventLine net (said e c.read.new.self) c.args.line.now) c.in-Ok-Blank.field-0-is c.in-Ok-Blank.ensures.grammar)

pub returns-in-Ok-At-clause-changes : goal.returns-in-Ok-At-clause-changes
returns-in-Ok-At-clause-changes c =
    let net = c.network.result.now in
    reported_changes c.args.self.now.fleet c.args.place c.args.number c.args.line.now c.feed.new.self.said.text net c.network.ensures.value (completed c.in-Ok-At.moment c.read.new.self) c.feed.new.self.fleet
    (subst (λ (e : Event). IsEventLine net (said e c.read.new.self) c.args.line.now) c.in-Ok-At.field-0-is c.in-Ok-At.ensures.grammar) (λ same. absurd (cc same)) c.feed.ensures.changes

pub returns-in-Ok-Done-clause-changes : goal.returns-in-Ok-Done-clause-changes
returns-in-Ok-Done-clause-changes c =
    let net = c.network.result.now in
    reported_changes c.args.self.now.fleet c.args.place c.args.number c.args.line.now c.finish.new.self.said.text net c.network.ensures.value done c.finish.new.self.fleet
    (subst (λ (e : Event). IsEventLine net (said e c.read.new.self) c.args.line.now) c.in-Ok-Done.field-0-is c.in-Ok-Done.ensures.grammar) (λ same. absurd (cc same)) c.finish.ensures.changes
