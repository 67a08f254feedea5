use Rattle.derivation_dag.proofs.RowLemmas.{made_for, below_nodes}
use Rattle.derivation_dag.proofs.plain.take_row.Goals as goal

pub push_row-requires-clause-below : goal.push_row-requires-clause-below
push_row-requires-clause-below g c =
    below_nodes c.args.net.now (record { nodes = g.L.NodeList.nodes c.args.list.now; table = c.args.table.now }) c.args.row.now.target c.args.row.now.made.now c.args.row.now.firsts.now c.requires.supported c.requires.row

pub lower_all-requires : goal.lower_all-requires
lower_all-requires g c =
    made_for c.args.net.now c.sound.ensures (record { nodes = g.L.NodeList.nodes c.args.list.now; table = c.args.table.now }) c.args.row.now.target c.args.row.now.made.now c.args.row.now.firsts.now c.requires.supported c.requires.row
