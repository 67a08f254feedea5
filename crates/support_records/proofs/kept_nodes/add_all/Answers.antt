use Rattle.std.proofs.Common.{arith}
use Rattle.support_records.proofs.NewNodeLemmas.{node_given}
use Rattle.support_records.proofs.kept_nodes.add_all.Goals as goal

pub add-requires-clause-follows : goal.add-requires-clause-follows
add-requires-clause-follows c = node_given c.args.new.now c.loop-node.after.nodes c.args.nodes.now c.loop-node.node-index _ (omega (arith, c.loop-node-test.true)) c.requires.base
