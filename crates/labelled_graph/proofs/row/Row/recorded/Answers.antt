use Rattle.std.proofs.Common.{◌≡◌, ℤ, Option, Some, None, subst, sym}
use Rattle.std.specs.Prelude.{IfSome}
use Rattle.std.specs.FinMap as map_of
use Rattle.closure_model.specs.Keys.{ordinary_key}
use Rattle.net_model.specs.declared.ids.LinkId.{LinkId}
use Rattle.labelled_graph.specs.Entries.{key_with}
use Rattle.labelled_graph.specs.Rows.{TargetRow, IsMirrorOf}
use Rattle.labelled_graph.specs.Words.{IsRecorded}
use Rattle.labelled_graph.proofs.MirrorLemmas.{mirror_recorded}
use Rattle.labelled_graph.proofs.row.Row.recorded.Goals as goal

pub returns-in-None : goal.returns-in-None
returns-in-None c =
    subst (λ (label : Option LinkId). IfSome c.recorded.result (λ weight. map_of.get c.args.self.now.weights (key_with c.args.self.now.to c.args.from label) ≡ Some weight)) (sym c.in-None.is)
    (by c.recorded.result c.recorded.ensures)
  where
    by : (o : Option ℤ) → IfSome o (IsRecorded c.self.inside.ordinary c.args.from.0) → IfSome o (λ weight. map_of.get c.args.self.now.weights (ordinary_key c.args.from c.args.self.now.to) ≡ Some weight)
    by None none = none
    by (Some weight) recorded = mirror_recorded c.args.self.now c.self.inside.ordinary c.args.from weight (subst (λ (row : TargetRow). IsMirrorOf row c.self.inside.ordinary) c.self.view_is c.self.invariant.mirror) recorded
