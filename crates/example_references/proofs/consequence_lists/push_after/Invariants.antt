use Rattle.std.proofs.Common.{◌≡◌, ◌++◌, take}
use Rattle.std.specs.List.{flat_map}
use Rattle.closure_model.specs.ReferenceRow.{from_first}
use Rattle.example_references.proofs.consequence_lists.push_after.Given as goal

abbrev pub invariant-loop-first : goal.invariant-loop-first
invariant-loop-first l = l.made.items ≡ l.fn.made.items ++ flat_map (from_first l.edge) (take l.first-index l.firsts)
