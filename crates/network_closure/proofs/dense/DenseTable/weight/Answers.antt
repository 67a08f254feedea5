use Rattle.std.proofs.Common.{◌∙◌}
use Rattle.network_closure.proofs.DenseLemmas.{ordinary_read}
use Rattle.network_closure.proofs.dense.DenseTable.weight.Goals as goal

pub returns : goal.returns
returns c = c.get.ensures ∙ ordinary_read c.self.inside c.args.self.now c.self.invariant c.self.view_is c.args.from c.args.to c.requires.from_point c.requires.to_point c.index-row.result.now c.index-row.ensures
