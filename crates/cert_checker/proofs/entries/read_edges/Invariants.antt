use Rattle.std.proofs.Common.{take}
use Rattle.cert_checker.specs.TableRefusals.{ReadsEach}
use Rattle.cert_checker.specs.Tables.{entry_passes}
use Rattle.cert_checker.proofs.entries.read_edges.Given as goal

abbrev pub invariant-loop-index : goal.invariant-loop-index
invariant-loop-index l = ReadsEach (entry_passes l.net) (take l.index l.entries) l.edges.items
