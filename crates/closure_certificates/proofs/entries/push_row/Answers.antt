use Rattle.std.proofs.Common.{sym, subst}
use Rattle.net_model.specs.Edges.{IsEdge}
use Rattle.closure_certificates.proofs.EntryLemmas.{row_edge}
use Rattle.closure_certificates.proofs.entries.push_row.Goals as goal

pub push_edge-requires : goal.push_edge-requires
push_edge-requires c =
    subst (IsEdge c.args.net.now) (sym c.edge_into.ensures)
    (row_edge c.args.net.now c.args.to c.entries-row.result.now _ c.entries-row.ensures.row c.requires.edges c.loop-entry.entry-index _ c.loop-entry-test.true)
