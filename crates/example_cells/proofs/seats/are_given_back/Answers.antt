use Rattle.closure_model.specs.Closure as closure
use Rattle.closure_model.proofs.LawProofs.{law_reached_are_derivable}
use Rattle.example_cells.proofs.seats.are_given_back.Goals as goal

pub of_table-requires-clause-derivable : goal.of_table-requires-clause-derivable
of_table-requires-clause-derivable c = law_reached_are_derivable c.args.net.now c.in_ok-base.base (closure.base c.in_ok-base.base c.in_ok-base.ensures.base)
