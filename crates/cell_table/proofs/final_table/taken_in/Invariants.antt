use Rattle.std.specs.Mem.Slots.{slots_items}
use Rattle.cell_table.proofs.TakeLemmas.{AreTaken}
use Rattle.cell_table.proofs.final_table.taken_in.Given as goal

abbrev pub invariant-loop-place : goal.invariant-loop-place
invariant-loop-place l = AreTaken l.initial.table (slots_items l.words.words) l.place l.table
