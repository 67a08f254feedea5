use Rattle.std.proofs.Common.{rules}
use Rattle.cert_format.proofs.EdgeLemmas.{upper_made}
use Rattle.cert_format.proofs.read.upper_entry.Goals as goal

pub returns : goal.returns
returns c = upper_made c.args.from.now c.args.label.now c.args.weight.now _ _ _ _ (search rules) (search rules) (search rules)
