-- In the first round the rows are those of all points.
use Rattle.std.proofs.lemmas.Result.{IfOk-weaker}
use Rattle.parallel_rounds.specs.Targets.{AreRowsOfRound}
use Rattle.parallel_rounds.proofs.StaleSteps.{all_rows_are}
use Rattle.parallel_rounds.proofs.propagation.Rounds.all_rows.Goals as goal

pub returns : goal.returns
returns g c = IfOk-weaker c.round.result _ (λ rows. AreRowsOfRound c.args.self.now.net.now c.args.table.now rows.items) (λ rows is. all_rows_are c.args.self.now.net.now c.args.table.now rows.items is) c.round.ensures
