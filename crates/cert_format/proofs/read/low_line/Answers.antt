use Rattle.std.proofs.Common.{rules, refl, ◌∙◌}
use Rattle.cert_format.proofs.read.low_line.Goals as goal

pub returns : goal.returns
returns c = c.unlabelled.ensures refl ∙ search rules
