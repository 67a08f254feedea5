use Rattle.std.proofs.Common.{ap, sym, ◌∙◌, arith}
use Rattle.network_closure.specs.Saturation.{IsStorable, lowered_if}
use Rattle.network_closure.proofs.ConsequenceLemmas.{given_if}
use Rattle.network_closure.proofs.dense_copies.lower_to_found.Goals as goal

pub lower_to-requires-clause-key : goal.lower_to-requires-clause-key
lower_to-requires-clause-key c = (given_if (IsStorable c.args.table.now.shape) c.args.found c.in-Some.edge c.requires c.in-Some.is).key

pub lower_to-requires-clause-weight : goal.lower_to-requires-clause-weight
lower_to-requires-clause-weight c = let may = given_if (IsStorable c.args.table.now.shape) c.args.found c.in-Some.edge c.requires c.in-Some.is in omega (arith, may.weight)

pub returns-in_ok-lower_to-in-Some : goal.returns-in_ok-lower_to-in-Some
returns-in_ok-lower_to-in-Some c = c.in_ok-lower_to-in-Some.ensures.lowered.1 ∙ ap (lowered_if c.args.table.now) (sym c.in-Some.is)
