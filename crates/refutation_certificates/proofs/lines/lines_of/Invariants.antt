use Rattle.std.proofs.Common.{◌≡◌, take}
use Rattle.refutation_certificates.specs.Certificates.{lines_among}
use Rattle.refutation_certificates.proofs.lines.lines_of.Given as goal

abbrev pub invariant-loop-numbered : goal.invariant-loop-numbered
invariant-loop-numbered l = l.made.items ≡ lines_among l.net l.store.nodes l.lines (take l.numbered-index l.lines)
