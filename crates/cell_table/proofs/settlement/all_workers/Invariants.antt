use Rattle.std.specs.List.{All}
use Rattle.cell_table.specs.SweepSeats.{IsAt, IsWorkerAt}
use Rattle.cell_table.proofs.settlement.all_workers.Given as goal

abbrev pub invariant-loop-first : goal.invariant-loop-first
invariant-loop-first l = All (IsWorkerAt l.net l.cells) l.all.items × IsAt l.net l.cells l.first

abbrev pub decreases-loop-first : goal.decreases-loop-first
decreases-loop-first l = l.first.view.to_split
