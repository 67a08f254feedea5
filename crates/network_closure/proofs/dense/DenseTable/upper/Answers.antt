use Rattle.std.proofs.Common.{◌∙◌}
use Rattle.network_closure.proofs.DenseLemmas.{labelled_read}
use Rattle.network_closure.proofs.dense.DenseTable.upper.Goals as goal

pub returns : goal.returns
returns c = λ to begins. c.get.ensures ∙ labelled_read c.self.inside c.args.self.now c.self.invariant c.self.view_is c.args.from to c.args.link c.requires.from_point begins c.index-row.result.now c.index-row.ensures
