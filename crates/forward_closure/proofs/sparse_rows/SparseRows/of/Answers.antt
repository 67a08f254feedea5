use Rattle.std.proofs.Common.{◌≡◌, ℕ, List, length, ap, arith}
use Rattle.forward_closure.proofs.RowLemmas.{rows_begin, rows_end}
use Rattle.forward_closure.proofs.sparse_rows.SparseRows.of.Goals as goal

pub loop-to-init : goal.loop-to-init
loop-to-init c = rows_begin c.args.net.now c.args.table.now c.in_ok-rows.rows c.in_ok-rows.ensures

pub returns : goal.returns
returns c =
    let same : length c.points.result.now ≡ length c.args.net.now.points = ap (λ (points : List (List ℕ)). length points) c.points.ensures.points in
    rows_end c.args.net.now c.args.table.now c.requires c.loop-to.to (omega (arith, same, c.loop-to-test.false)) c.loop-to.rows c.loop-to.invariant
