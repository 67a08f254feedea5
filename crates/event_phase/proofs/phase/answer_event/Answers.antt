use Rattle.std.proofs.Common.{refl, subst, sym}
use Rattle.event_stream.specs.EventText.{done, said}
use Rattle.event_stream.specs.declared.event.Event.{Event}
use Rattle.event_phase.specs.CompletionOrders.{ReportsAs, completion_order_where}
use Rattle.event_phase.proofs.phase.answer_event.Goals as goal

pub returns-in-Done-clause-answers : goal.returns-in-Done-clause-answers
returns-in-Done-clause-answers g c = (
  done,
  subst (λ (event : Event). ReportsAs (completion_order_where c.args.parts.feeding) (said event c.args.parts.events) done) (sym c.in-Done.is) refl,
  c.finish.ensures.answers,
)
