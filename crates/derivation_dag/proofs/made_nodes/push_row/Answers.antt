use Rattle.derivation_dag.specs.Rows.{nodes_with_all}
use Rattle.derivation_dag.proofs.RowLemmas.{none_without, one_comes}
use Rattle.derivation_dag.proofs.made_nodes.push_row.Goals as goal

pub returns-in_default : goal.returns-in_default
returns-in_default g c = absurd (none_without c.args.net.now (g.L.NodeList.nodes c.loop-one.list) c.args.row.now.made.now c.loop-one.one-index c.loop-one.firsts.now c.loop-one-test.true c.in_default.ensures.cases c.loop-one.invariant.left)

pub loop-one-preserved : goal.loop-one-preserved
loop-one-preserved g c =
    let start = g.L.NodeList.nodes c.args.list.now in
    one_comes c.args.net.now start (nodes_with_all start c.args.row.now.made.now c.args.row.now.firsts.now) (g.L.NodeList.nodes c.loop-one.list) (g.L.NodeList.nodes c.push_made.new.list) c.args.row.now.made.now c.loop-one.one-index _ c.loop-one.firsts.now
    c.in-Some.rest.now c.in-Some.premise.now c.loop-one-test.true c.in-Some.ensures.cases.0 c.loop-one.invariant c.in_ok-push_made.ensures
