use Rattle.std.proofs.Common.{◌++◌, ◌∷◌, [], ◌∙◌, sym, arith}
use Rattle.std.proofs.lemmas.List.FromFn.{map-range_with_len_more}
use Rattle.labelled_graph.specs.Rows.{empty_row}
use Rattle.labelled_graph.proofs.table.empty_rows.Goals as goal

pub loop-point-preserved : goal.loop-point-preserved
loop-point-preserved c =
    c.in_ok-push.ensures.items
    ∙ (λ i. c.loop-point.invariant i ++ c.empty.ensures i ∷ [])
    ∙ sym (map-range_with_len_more empty_row 0 c.loop-point.point c.loop-point.point (omega arith))
