use Rattle.std.proofs.Common.{sym, subst}
use Rattle.fleet_command.specs.FleetStands.{SlotSays}
use Rattle.fleet_command.specs.declared.entries.FleetSlot.{FleetSlot}
use Rattle.fleet_command.proofs.SlotLemmas.{capacity_at, slot_opened}
use Rattle.fleet_command.proofs.own_lines.FleetAnswerer.answer.Goals as goal

pub returns-in-Opened-clause-says : goal.returns-in-Opened-clause-says
returns-in-Opened-clause-says c =
    subst (λ (h : FleetSlot). SlotSays c.args.self.now.fleet h c.args.number c.args.line.now c.answer_opened.new.self.said.text c.answer_opened.new.self.fleet) (sym c.in-Opened.is)
    (slot_opened c.args.self.now.fleet c.answer_opened.new.self.fleet c.in-Opened.place c.args.number c.args.line.now c.answer_opened.new.self.said.text c.answer_opened.ensures.changes)

pub answer_opened-requires-clause-spare_capacity : goal.answer_opened-requires-clause-spare_capacity
answer_opened-requires-clause-spare_capacity c =
    capacity_at c.args.self.now.fleet c.in-Opened.place c.args.self.now.said.capacity (c.requires.placed c.in-Opened.place c.in-Opened.is) c.requires.spare_capacity
