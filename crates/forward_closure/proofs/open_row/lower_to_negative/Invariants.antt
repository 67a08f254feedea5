use Rattle.network_closure.specs.Saturation.{IsPartialClosure}
use Rattle.forward_closure.proofs.open_row.lower_to_negative.Given as goal

abbrev pub invariant-loop-edge : goal.invariant-loop-edge
invariant-loop-edge l = IsPartialClosure l.net l.table
