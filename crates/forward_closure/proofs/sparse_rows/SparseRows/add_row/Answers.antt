use Rattle.std.proofs.Common.{◌∙◌, ap, subst, sym}
use Rattle.net_model.specs.declared.part.Edge.{Edge}
use Rattle.forward_closure.specs.SparseRows.{HaveRoomFor, rows_with}
use Rattle.forward_closure.proofs.RowLemmas.{IsAddedUntil, no_entry, row_begins, entry_room, row_more, row_ends}
use Rattle.forward_closure.proofs.sparse_rows.SparseRows.add_row.Goals as goal

pub loop-entry-init : goal.loop-entry-init
loop-entry-init c = row_begins c.args.net.now c.args.table.now c.requires.partial_closure c.args.to c.entries-entry-items.result.now c.args.self.now c.requires.rows

pub add-requires : goal.add-requires
add-requires c =
    subst (HaveRoomFor c.loop-entry.self) (sym c.edge_into.ensures)
    (entry_room c.args.net.now c.args.table.now c.requires.partial_closure c.args.to c.entries-entry-items.result.now no_entry c.loop-entry.entry-index c.loop-entry.self
    (IsAddedUntil c.args.to c.entries-entry-items.result.now c.loop-entry.entry-index) c.entries-entry-items.ensures.row c.loop-entry-test.true c.loop-entry.invariant)

pub loop-entry-preserved : goal.loop-entry-preserved
loop-entry-preserved c =
    row_more c.args.net.now c.args.table.now c.requires.partial_closure c.args.to c.entries-entry-items.result.now no_entry c.loop-entry.entry-index c.loop-entry.self c.add.new.self c.entries-entry-items.ensures.row
    c.loop-entry-test.true c.loop-entry.invariant (c.in_ok-add.ensures ∙ ap (λ (e : Edge). rows_with c.loop-entry.self e e.label) c.edge_into.ensures)

pub returns : goal.returns
returns c =
    row_ends c.args.net.now c.args.table.now c.requires.partial_closure c.args.to c.entries-entry-items.result.now c.loop-entry.entry-index c.loop-entry.self c.entries-entry-items.ensures.row c.loop-entry-test.false
    c.loop-entry.invariant
