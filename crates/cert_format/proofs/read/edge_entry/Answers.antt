use Rattle.std.proofs.Common.{rules}
use Rattle.cert_format.proofs.EdgeLemmas.{edge_made}
use Rattle.cert_format.proofs.read.edge_entry.Goals as goal

pub returns : goal.returns
returns c = edge_made c.args.from.now c.args.to.now c.args.weight.now _ _ _ _ (search rules) (search rules) (search rules)
