use Rattle.std.proofs.Common.{take}
use Rattle.std.specs.List.{flat_map}
use Rattle.closure_model.specs.ReferenceRow.{from_first}
use Rattle.back_propagation.specs.OpenRows.{HasRelaxed}
use Rattle.back_propagation.proofs.open_row.OpenRow.relax_after_all.Given as goal

abbrev pub invariant-loop-first : goal.invariant-loop-first
invariant-loop-first l = HasRelaxed l.fn.self l.self (flat_map (from_first l.edge) (take l.first-index l.firsts))
