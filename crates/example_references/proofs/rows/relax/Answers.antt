-- Each turn relaxes one more slot with the edge.
use Rattle.example_references.specs.RowParts.{relaxed_to}
use Rattle.example_references.proofs.RowFacts.{changed_more}
use Rattle.example_references.proofs.rows.relax.Goals as goal

pub loop-slot-preserved : goal.loop-slot-preserved
loop-slot-preserved c = changed_more (relaxed_to c.args.made.now) c.args.slots.now c.loop-slot.slots c.loop-slot.slot-index c.relax_to.new.slot _ c.loop-slot-test.true c.loop-slot.invariant c.relax_to.ensures
