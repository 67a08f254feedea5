use Rattle.std.proofs.Common.{◌≡◌, ◌++◌, ◌∷◌, [], ℕ, List, length, ap, ◌∙◌, arith}
use Rattle.std.specs.Prelude.{codes}
use Rattle.texts.specs.PrintedLines.{printed_line}
use Rattle.event_phase.specs.EventAnswers.{due_line}
use Rattle.multiplexed_commands.proofs.NamedLineLemmas.{whole_both}
use Rattle.fleet_command.specs.FleetCommand.{refusal_words}
use Rattle.fleet_command.proofs.OwnLemmas.{due_whole, is_whole, printed_whole}
use Rattle.fleet_command.proofs.fleet_question.say_start.Goals as goal

pub put_line-requires : goal.put_line-requires
put_line-requires c =
    let none = ap length c.clear.ensures.text in
    omega (arith, none, c.has_capacity.ensures, c.clear.ensures.capacity)

pub put_due-requires : goal.put_due-requires
put_due-requires c =
    let none = ap length c.clear.ensures.text in
    omega (arith, none, c.has_capacity.ensures, c.clear.ensures.capacity, c.put_line.ensures.size, c.put_line.ensures.capacity)

pub returns-in-Refused-clause-whole : goal.returns-in-Refused-clause-whole
returns-in-Refused-clause-whole c =
    is_whole c.say_refusal.new.said.text (printed_line (refusal_words c.in-Refused.why)) c.say_refusal.ensures (printed_whole (refusal_words c.in-Refused.why))

pub returns-then-eq-clause-whole : goal.returns-then-eq-clause-whole
returns-then-eq-clause-whole c =
    let line = printed_line (codes "controllable" ∷ []) in
    let due = due_line c.next_due.result in
    let first : c.put_line.new.self.text ≡ line = c.put_line.ensures.text ∙ ap (λ (t : List ℕ). t ++ line) c.clear.ensures.text in
    is_whole c.put_due.new.answer.text (line ++ due) (c.put_due.ensures.text ∙ ap (λ (t : List ℕ). t ++ due) first)
    (whole_both line due (printed_whole (codes "controllable" ∷ [])) (due_whole c.next_due.result))

pub returns-else-eq-clause-whole : goal.returns-else-eq-clause-whole
returns-else-eq-clause-whole c =
    let line = printed_line (codes "not controllable" ∷ []) in
    is_whole c.refuse.new.self.text line c.refuse.ensures.text (printed_whole (codes "not controllable" ∷ []))
