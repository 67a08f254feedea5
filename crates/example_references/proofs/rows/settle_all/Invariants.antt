use Rattle.closure_model.proofs.RowRun.{IsUnderWay}
use Rattle.closure_model.proofs.RowSteps.{unsettled}
use Rattle.example_references.specs.NodeTables.{table_in}
use Rattle.example_references.proofs.rows.settle_all.Given as goal

abbrev pub invariant-loop-next : goal.invariant-loop-next
invariant-loop-next l = IsUnderWay l.net (table_in l.net l.nodes) l.target (record { slots = l.slots; made = l.made.items })

abbrev pub decreases-loop-next : goal.decreases-loop-next
decreases-loop-next l = unsettled l.slots
