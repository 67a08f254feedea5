use Rattle.std.proofs.Common.{◌≡◌, ◌∙◌, ◌+◌, None, ap, arith, length, sym, subst, take, get_or, List}
use Rattle.std.proofs.lemmas.List.{length-set, take_all}
use Rattle.net_model.specs.Moments.{Moments}
use Rattle.net_model.specs.declared.ids.PointId.{PointId}
use Rattle.live_executor.proofs.UndoLemmas.{AreTakenBack, taken_more, all_back}
use Rattle.live_executor.proofs.undo.take_back.Goals as goal

pub loop-point-preserved : goal.loop-point-preserved
loop-point-preserved c =
    let i = c.loop-point.invariant in
    let d : PointId = record { 0 = 0 } in
    let within = c.requires.inside c.loop-point.point-index d c.loop-point-test.true in
    record {
      back = subst (λ (moments : Moments). AreTakenBack (take (c.loop-point.point-index + 1) c.args.came.now) c.args.moments.now moments) (sym c.clear.ensures)
          (taken_more c.args.came.now c.loop-point.point-index d c.args.moments.now c.loop-point.moments c.loop-point-test.true (omega (arith, within, i.count)) i.back);
      count = ap (λ (moments : Moments). length moments) c.clear.ensures ∙ (length-set c.loop-point.moments (get_or c.args.came.now c.loop-point.point-index d).0 None ∙ i.count);
    }

pub returns : goal.returns
returns c =
    let i = c.loop-point.invariant in
    let whole : take c.loop-point.point-index c.args.came.now ≡ c.args.came.now = take_all c.loop-point.point-index c.args.came.now (omega arith) in
    let back = subst (λ (came : List PointId). AreTakenBack came c.args.moments.now c.loop-point.moments) whole i.back in
    record { before = λ before since. all_back c.args.came.now c.args.moments.now c.loop-point.moments before back i.count since; count = i.count }
