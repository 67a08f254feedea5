-- A seat that found nothing left draws nothing; else the draw keeps all else.
use Rattle.example_rounds.proofs.SeatLemmas.{draws_same}
use Rattle.example_rounds.proofs.boards.next.Goals as goal

pub returns : goal.returns
returns c = draws_same c.args.seat.now c.draw.new.seat c.draw.result c.draw.ensures
