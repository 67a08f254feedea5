use Rattle.std.proofs.Common.{◌∙◌, List, ap, map}
use Rattle.std.specs.declared.alloc.Global.{Global}
use Rattle.std.specs.declared.vec.Vec.{Vec}
use Rattle.net_model.specs.declared.ids.PointId.{PointId}
use Rattle.live_executor.proofs.ListLemmas.{empty_more}
use Rattle.live_executor.proofs.point_lists.PointLists.new.Goals as goal

pub loop-preserved : goal.loop-preserved
loop-preserved c =
    let shows : Vec PointId Global → List PointId = λ (list : Vec PointId Global). list.items in
    ap (map shows) c.in_ok-push.ensures.items ∙ empty_more shows c.loop.lists.items c.loop.counter c.new.result c.loop.invariant c.new.ensures.items
