use Rattle.std.proofs.Common.{ap, subst}
use Rattle.std.specs.Mem.Slots.{slots_items}
use Rattle.shared_seats.specs.Steps.{IsLast}
use Rattle.sensor_desk.specs.DeskRule.{IsReachedBy}
use Rattle.sensor_desk.specs.Desks.{DeskSeen}
use Rattle.sensor_desk.specs.declared.view.About.{About}
use Rattle.sensor_desk.proofs.desk.Desk.into_words.Goals as goal

pub returns-clause-left : goal.returns-clause-left
returns-clause-left c =
    subst (λ (about : About). IsLast (IsReachedBy about) c.args.seat.view (slots_items c.close.result.words)) (ap (λ (s : DeskSeen). s.about) c.self.view_is) c.close.ensures.last
