use Rattle.std.proofs.Common.{pos, None, get_or, take}
use Rattle.net_model.specs.declared.part.Edge.{Edge}
use Rattle.closure_model.specs.declared.rows.Made.{Made}
use Rattle.closure_model.specs.declared.rows.Why.TheVariants.{No}
use Rattle.labelled_graph.specs.MergedRows.{edges_made}
use Rattle.labelled_graph.proofs.LoopLemmas.{edge_still_for}
use Rattle.labelled_graph.proofs.table.Table.lower_each.Goals as goal

-- what is read if there is nothing
abbrev no_edge : Edge
no_edge = record { from = record { 0 = 0 }; to = record { 0 = 0 }; label = None; weight = pos 0 }

abbrev no_made : Made
no_made = record { edge = no_edge; why = No no_edge no_edge }

pub lower_to-requires-clause-key : goal.lower_to-requires-clause-key
lower_to-requires-clause-key c = (edge_still_for c.args.self.now c.loop-one.self (edges_made (take c.loop-one.one-index c.args.made.now)) (get_or c.args.made.now c.loop-one.one-index no_made).edge c.loop-one.invariant
    (c.requires c.loop-one.one-index no_made c.loop-one-test.true)).0
