use Rattle.std.proofs.Common.{◌≡◌, map}
use Rattle.closure_certificates.specs.TableProofs.{entry_of}
use Rattle.closure_certificates.proofs.RowLemmas.{rows_before}
use Rattle.closure_certificates.proofs.entries.entries_of.Given as goal

abbrev pub invariant-loop-point : goal.invariant-loop-point
invariant-loop-point l = l.entries.items ≡ map (entry_of l.net) (rows_before l.table l.point)
