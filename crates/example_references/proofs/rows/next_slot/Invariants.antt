use Rattle.std.proofs.Common.{take}
use Rattle.closure_model.specs.ReferenceRow.{open_weight}
use Rattle.closure_model.proofs.FirstLeast.{FirstIs}
use Rattle.example_references.proofs.rows.next_slot.Given as goal

abbrev pub invariant-loop-place : goal.invariant-loop-place
invariant-loop-place l = FirstIs open_weight (take l.place l.slots) l.next
