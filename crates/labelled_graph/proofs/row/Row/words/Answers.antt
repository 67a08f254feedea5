use Rattle.std.proofs.Common.{map, sym, subst}
use Rattle.labelled_graph.specs.Rows.{TargetRow, row_with, IsMirrorOf}
use Rattle.labelled_graph.specs.Words.{held}
use Rattle.labelled_graph.proofs.row.Row.words.Goals as goal

pub returns : goal.returns
returns c =
    subst (λ (row : TargetRow). IsMirrorOf row (map held c.words.result.now)) c.self.view_is
    (subst (IsMirrorOf (row_with c.self.inside.target c.self.inside.entries.items)) (sym c.words.ensures) c.self.invariant.mirror)
