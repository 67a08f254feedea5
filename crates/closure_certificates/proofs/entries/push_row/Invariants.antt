use Rattle.std.proofs.Common.{◌≡◌, ◌++◌, map, take}
use Rattle.labelled_graph.specs.Entries.{edge_into}
use Rattle.closure_certificates.specs.TableProofs.{entry_of}
use Rattle.closure_certificates.proofs.entries.push_row.Given as goal

abbrev pub invariant-loop-entry : goal.invariant-loop-entry
invariant-loop-entry l = l.entries.items ≡ l.fn.entries.items ++ map (entry_of l.net) (map (edge_into l.to) (take l.entry-index l.row))
