use Rattle.std.proofs.Common.{◌≡◌, map, take}
use Rattle.edit_laws.specs.EditNumbers.{bound_in}
use Rattle.support_records.proofs.moves.bounds_in.Given as goal

abbrev pub invariant-loop-bound : goal.invariant-loop-bound
invariant-loop-bound l = l.bounds.items ≡ map (bound_in l.points.old.now l.edit l.points.new.now) (take l.bound-index l.points.old.now.bounds)
