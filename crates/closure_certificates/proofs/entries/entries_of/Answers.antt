use Rattle.std.proofs.Common.{List, map, length, ◌++◌, ap, sym, ◌∙◌, arith}
use Rattle.cert_format.specs.declared.entry.Entry.{Entry}
use Rattle.closure_model.specs.Tables.{row_of}
use Rattle.closure_certificates.specs.TableProofs.{entry_of}
use Rattle.closure_certificates.proofs.RowLemmas.{row_edges, rows_more, all_rows}
use Rattle.closure_certificates.proofs.entries.entries_of.Goals as goal

pub push_row-requires-clause-edges : goal.push_row-requires-clause-edges
push_row-requires-clause-edges c = row_edges c.args.net.now c.args.table.now _ c.points.ensures.sound c.requires

pub loop-point-preserved : goal.loop-point-preserved
loop-point-preserved c =
    c.in_ok-push_row.ensures
    ∙ (ap (λ (entries : List Entry). entries ++ map (entry_of c.args.net.now) (row_of c.args.table.now (record { 0 = c.loop-point.point }))) c.loop-point.invariant
    ∙ sym (rows_more c.args.net.now c.args.table.now c.loop-point.point))

pub returns : goal.returns
returns c =
    let count = ap length c.points.ensures.points in
    let last = c.loop-point-test.false in
    let most = c.loop-point.auto.point-end in
    c.loop-point.invariant ∙ ap (map (entry_of c.args.net.now)) (all_rows c.args.net.now c.args.table.now c.loop-point.point c.points.ensures.sound c.requires (omega (arith, count, last, most)))
