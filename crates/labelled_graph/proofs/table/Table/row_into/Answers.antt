use Rattle.std.proofs.Common.{◌++◌, ◌∷◌, [], ◌∙◌, ap, map, take_all}
use Rattle.labelled_graph.specs.Entries.{edge_into}
use Rattle.labelled_graph.proofs.LoopLemmas.{mapped_more}
use Rattle.labelled_graph.proofs.table.Table.row_into.Goals as goal

pub loop-entry-preserved : goal.loop-entry-preserved
loop-entry-preserved c =
    mapped_more (edge_into c.args.target) c.entries-entries.result.now c.loop-entry.entry-index _ c.loop-entry-test.true c.loop-entry.row.items _ c.loop-entry.invariant
    (c.in_ok-push.ensures.items ∙ ap (λ edge. c.loop-entry.row.items ++ edge ∷ []) c.edge_into.ensures)

pub returns : goal.returns
returns c = c.loop-entry.invariant ∙ ap (map (edge_into c.args.target)) (take_all c.loop-entry.entry-index c.entries-entries.result.now c.loop-entry-test.false) ∙ c.entries-entries.ensures.row
