use Rattle.std.proofs.Common.{sym, ◌∙◌}
use Rattle.forward_closure.proofs.SaturationLemmas.{edge_saturated}
use Rattle.forward_closure.proofs.forward_test.saturates.Goals as goal
use Rattle.forward_closure.proofs.forward_test.saturates.Goals.{then-has_given, else-has_given}

pub returns-then-has_given-2 : goal.returns-then-has_given-2
returns-then-has_given-2 c said = elim c.if-has_given.branch [
  | then-has_given w ↦
      edge_saturated c.args.net.now c.args.table.now c.args.edge.now c.without_label.result w.over_link.result c.without_label.ensures.exact w.over_link.ensures (c.has_given.ensures w.if-has_given.true)
      (w.has_given-then-has_given.ensures (sym w.value-is ∙ c.if-has_given-2.true)) (c.saturates_firsts.ensures said)
  | else-has_given w ↦ absurd (let no = w.value-is in let other = c.if-has_given-2.true in cc)
]
