use Rattle.network_closure.specs.Saturation.{IsPartialClosure}
use Rattle.forward_closure.proofs.search.lower_to_rows.Given as goal

abbrev pub invariant-loop-row : goal.invariant-loop-row
invariant-loop-row l = IsPartialClosure l.net l.table
