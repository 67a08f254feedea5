use Rattle.std.proofs.Common.{◌≡◌, fold, take}
use Rattle.closure_model.specs.ReferenceRow.{relaxed}
use Rattle.example_references.proofs.rows.relax_all.Given as goal

abbrev pub invariant-loop-one : goal.invariant-loop-one
invariant-loop-one l = l.slots ≡ fold relaxed l.fn.slots (take l.one-index l.made)
