use Rattle.std.proofs.Common.{◌≡◌, take}
use Rattle.refutation_certificates.specs.Certificates.{lines_among}
use Rattle.refutation_certificates.proofs.lines.lines_by.Given as goal

abbrev pub invariant-loop-id : goal.invariant-loop-id
invariant-loop-id l = l.made.items ≡ lines_among l.net l.dag l.lines (take l.id-index l.lines)
