use Rattle.std.proofs.Common.{◌∙◌, List, ap, map}
use Rattle.std.specs.declared.alloc.Global.{Global}
use Rattle.std.specs.declared.vec.Vec.{Vec}
use Rattle.forward_closure.specs.declared.source.Source.{Source}
use Rattle.forward_closure.proofs.RowLemmas.{empty_more}
use Rattle.forward_closure.proofs.source_lists.SourceLists.empty.Goals as goal

pub loop-preserved : goal.loop-preserved
loop-preserved c =
    let shows : Vec Source Global → List Source = λ (list : Vec Source Global). list.items in
    ap (map shows) c.in_ok-push.ensures.items ∙ empty_more shows c.loop.lists.items c.loop.counter c.new.result c.loop.invariant c.new.ensures.items
