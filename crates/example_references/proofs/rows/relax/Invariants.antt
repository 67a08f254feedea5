use Rattle.std.proofs.Common.{◌≡◌, ◌++◌, map, take, drop}
use Rattle.example_references.specs.RowParts.{relaxed_to}
use Rattle.example_references.proofs.rows.relax.Given as goal

abbrev pub invariant-loop-slot : goal.invariant-loop-slot
invariant-loop-slot l = l.slots ≡ map (relaxed_to l.made) (take l.slot-index l.fn.slots) ++ drop l.slot-index l.fn.slots
