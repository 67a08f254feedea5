use Rattle.std.proofs.Common.{◌≡◌, take}
use Rattle.std.specs.List.{fold}
use Rattle.closure_model.specs.Tables.{lowered}
use Rattle.network_closure.proofs.dense_copies.lower_to_row.Given as goal

abbrev pub invariant-loop-edge : goal.invariant-loop-edge
invariant-loop-edge l = l.dense ≡ fold lowered l.initial.dense (take l.edge-index l.row)
