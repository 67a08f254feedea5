use Rattle.std.proofs.Common.{◌≡◌, take}
use Rattle.derivation_dag.specs.Marks.{marked_with}
use Rattle.derivation_dag.proofs.ancestors.mark_all.Given as goal

abbrev pub invariant-loop-id : goal.invariant-loop-id
invariant-loop-id l = l.marks ≡ marked_with l.initial.marks (take l.id-index l.ids)
