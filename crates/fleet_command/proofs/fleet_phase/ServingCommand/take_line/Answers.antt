use Rattle.std.proofs.Common.{rules, ◌≡◌, ℕ, List, false, ◌∷◌, length, sym, ap, ◌∙◌, subst}
use Rattle.std.specs.Prelude.{codes, is_none}
use Rattle.std.specs.Str.{bytes_eq}
use Rattle.texts.specs.Words.{words}
use Rattle.command_engine.specs.declared.endings.End.{End}
use Rattle.command_engine.specs.declared.endings.End.TheVariants as ends
use Rattle.command_engine.specs.declared.machines.Flow.TheVariants.{Continue, Finish}
use Rattle.multiplexed_commands.specs.Merged.{Member, TakesWords, closes}
use Rattle.multiplexed_commands.specs.NamedLines.{after_first}
use Rattle.event_phase.specs.EventRuns.{EventRun}
use Rattle.event_phase.specs.EventPhase.{executing_machine}
use Rattle.fleet_command.specs.FleetCommand.{fleet_around}
use Rattle.fleet_command.specs.FleetStands.{AnswersMember, HaveNone, IsFirstOfName}
use Rattle.fleet_command.specs.declared.entries.FleetEntry.{FleetEntry}
use Rattle.fleet_command.proofs.FleetPhaseLemmas.{answered_by, not_alone, not_closing, unknown_by}
use Rattle.fleet_command.proofs.fleet_phase.ServingCommand.take_line.Goals as goal
use Rattle.fleet_command.proofs.fleet_phase.ServingCommand.take_line.Goals.{else-eq-via-then-eq+else-is_none, else-eq-via-else-eq}

pub returns-in-Some-place_of-clause-takes : goal.returns-in-Some-place_of-clause-takes
returns-in-Some-place_of-clause-takes g c =
    let fleet = c.self.inside.answerer.fleet in
    let entries = c.self.inside.entries.items in
    let first = c.in-Some.name.now in
    let others = words c.in-Some.rest.now in
    let line = c.args.line.now in
    let unclosed : closes (first ∷ others) ≡ false =
    not_closing first others (λ is alone. elim c.else-eq.branch [
      | else-eq-via-then-eq+else-is_none w ↦
          (let none : is_none w.next_word.result ≡ false = search rules in
          not_alone w.next_word.result (λ f. f.0.now) (λ f. words f.1.now) others w.next_word.ensures none alone)
      | else-eq-via-else-eq w ↦
          (let same : bytes_eq first (codes "end") ≡ false = ap (λ (s : List ℕ). bytes_eq first s) (sym c.as_slice.ensures) ∙ sym w.if-eq.ensures in
          absurd (cc (is, same)))
    ]) in
    let found : IsFirstOfName entries first c.in-Some-place_of.place = subst (λ (es : List FleetEntry). IsFirstOfName es first c.in-Some-place_of.place) c.as_slice-2.ensures.value c.in-Some-place_of.ensures in
    let put = c.answer_line.new.answer.text in
    let after = c.answer_line.result in
    let said = subst (λ (l : List ℕ). AnswersMember c.args.self c.in-Some-place_of.place c.args.number l put after) c.after_first-own.ensures.text c.answer_line.ensures.answers in
    let here = subst (λ (ms : List (Member EventRun)). AnswersMember ms c.in-Some-place_of.place c.args.number (after_first line) put after) (sym c.self.view_is) said in
    let takes = answered_by fleet entries first others c.in-Some-place_of.place c.args.number line put after c.in-Some.ensures.1 unclosed found here in
    subst (λ (ws : List (List ℕ)). TakesWords executing_machine fleet_around ws c.args.self c.args.number line put (Continue after)) (sym c.in-Some.ensures.0)
    (subst (λ (ms : List (Member EventRun)). TakesWords executing_machine fleet_around (first ∷ others) ms c.args.number line put (Continue after)) c.self.view_is takes)

pub returns-in-None-clause-takes : goal.returns-in-None-clause-takes
returns-in-None-clause-takes g c =
    let fleet = c.self.inside.answerer.fleet in
    let entries = c.self.inside.entries.items in
    let first = c.in-Some.name.now in
    let others = words c.in-Some.rest.now in
    let line = c.args.line.now in
    let unclosed : closes (first ∷ others) ≡ false =
    not_closing first others (λ is alone. elim c.else-eq.branch [
      | else-eq-via-then-eq+else-is_none w ↦
          (let none : is_none w.next_word.result ≡ false = search rules in
          not_alone w.next_word.result (λ f. f.0.now) (λ f. words f.1.now) others w.next_word.ensures none alone)
      | else-eq-via-else-eq w ↦
          (let same : bytes_eq first (codes "end") ≡ false = ap (λ (s : List ℕ). bytes_eq first s) (sym c.as_slice.ensures) ∙ sym w.if-eq.ensures in
          absurd (cc (is, same)))
    ]) in
    let none : HaveNone entries first (length entries) = subst (λ (es : List FleetEntry). HaveNone es first (length es)) c.as_slice-2.ensures.value c.in-None.ensures in
    let put = c.put.new.answer.text in
    let takes = unknown_by fleet entries first others c.args.number line put c.in-Some.ensures.1 unclosed none c.put.ensures.line in
    let viewed = subst (λ (ms : List (Member EventRun)). TakesWords executing_machine fleet_around (first ∷ others) ms c.args.number line put (Finish ends.Fault)) c.self.view_is takes in
    let spelled = subst (λ (ws : List (List ℕ)). TakesWords executing_machine fleet_around ws c.args.self c.args.number line put (Finish ends.Fault)) (sym c.in-Some.ensures.0) viewed in
    subst (λ (e : End). TakesWords executing_machine fleet_around (words line) c.args.self c.args.number line put (Finish e)) (sym c.end.ensures) spelled
