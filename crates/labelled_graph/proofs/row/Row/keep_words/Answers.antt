use Rattle.std.proofs.Common.{sym, subst}
use Rattle.labelled_graph.specs.Rows.{TargetRow, IsMirrorOf}
use Rattle.labelled_graph.proofs.row.Row.keep_words.Goals as goal

pub invariant_of-self : goal.invariant_of-self
invariant_of-self c = record {
  rises = c.self.invariant.rises;
  mirror = subst (λ (row : TargetRow). IsMirrorOf row c.in_ok-self-inside.field-0) (sym c.self.view_is) c.in_ok-self-inside.ensures;
}
