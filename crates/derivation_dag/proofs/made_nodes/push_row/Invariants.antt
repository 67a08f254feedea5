use Rattle.std.proofs.Common.{drop}
use Rattle.derivation_dag.specs.Rows.{nodes_with_all}
use Rattle.derivation_dag.proofs.RowLemmas.{Comes}
use Rattle.derivation_dag.proofs.made_nodes.push_row.Given as goal

abbrev pub invariant-loop-one : goal.invariant-loop-one
invariant-loop-one g l =
    let start = g.L.NodeList.nodes l.fn.list in
    Comes l.net start (nodes_with_all start l.fn.row.made.now l.fn.row.firsts.now) (g.L.NodeList.nodes l.list) (drop l.one-index l.fn.row.made.now) l.firsts
