use Rattle.std.proofs.Common.{rules, refl, ◌∙◌}
use Rattle.cert_format.proofs.read.up_line.Goals as goal

pub returns : goal.returns
returns c = c.labelled.ensures refl ∙ search rules
