-- One edge more.
use Rattle.std.proofs.Common.{Option, ◌∷◌, [], ◌++◌, ap, ◌∙◌}
use Rattle.closure_model.specs.declared.derivation.NodeId.{NodeId}
use Rattle.parallel_rounds.proofs.StoreUpdateSteps.{firsts_more}
use Rattle.parallel_rounds.proofs.store_update.push_row.Goals as goal

pub loop-place-preserved : goal.loop-place-preserved
loop-place-preserved g c =
    firsts_more (g.S.Supports.support c.args.store.now).nodes c.args.made.now c.loop-place.place c.get.result c.args.firsts.now.items c.loop-place.firsts.items c.push.new.self.items c.get.ensures c.loop-place.invariant
    (c.in_ok-push.ensures.items ∙ ap (λ (first : Option NodeId). c.loop-place.firsts.items ++ first ∷ []) c.first_of.ensures)
