use Rattle.std.proofs.Common.{take}
use Rattle.std.specs.List.{flat_map}
use Rattle.back_propagation.specs.SlotPlaces.{after_entry}
use Rattle.back_propagation.specs.OpenRows.{HasRelaxed}
use Rattle.back_propagation.proofs.open_row.OpenRow.relax_after_entries.Given as goal

abbrev pub invariant-loop-entry : goal.invariant-loop-entry
invariant-loop-entry l = HasRelaxed l.fn.self l.self (flat_map (after_entry l.edge) (take l.entry-index l.entries))
