use Rattle.example_references.specs.Marks.{numbers}
use Rattle.example_references.proofs.MarkLemmas.{holds_next}
use Rattle.example_references.proofs.kept_nodes.followed.Goals as goal

pub loop-node-preserved : goal.loop-node-preserved
loop-node-preserved c =
    holds_next (numbers c.args.edited.now) c.args.nodes.now c.loop-node.node-index _ c.loop-node.marks.items c.as_slice.result.now c.push.new.self.items c.loop-node.kept.items c.push_some.new.nodes.items c.node_after-made.result
    c.is_none.result
    c.loop-node-test.true c.loop-node.invariant c.as_slice.ensures.value c.node_after-made.ensures c.is_none.ensures c.in_ok-push.ensures.items c.in_ok-push_some.ensures
