use Rattle.std.proofs.Common.{rules}
use Rattle.cert_format.proofs.EdgeLemmas.{read_line}
use Rattle.cert_format.proofs.read.labelled.Goals as goal

pub returns : goal.returns
returns c = λ none. read_line _ _ _ _ _ _ none _ (search rules)
