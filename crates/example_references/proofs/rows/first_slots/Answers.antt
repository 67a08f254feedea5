-- Each source adds the slots of its keys.
use Rattle.std.proofs.Common.{◌∙◌}
use Rattle.example_references.specs.NodeTables.{table_in}
use Rattle.example_references.proofs.RowFacts.{source_more, labels_agree}
use Rattle.example_references.proofs.rows.first_slots.Goals as goal

pub loop-from-preserved : goal.loop-from-preserved
loop-from-preserved c =
    let labels = c.as_slice.ensures.value ∙ (c.in_ok-labels.ensures ∙ labels_agree c.args.net.now c.args.nodes.now c.args.target) in
    source_more (table_in c.args.net.now c.args.nodes.now) c.args.target c.loop-from.from c.loop-from.slots.items c.push_slots.new.slots.items c.loop-from.invariant (c.in_ok-push_slots.ensures c.args.net.now labels)
