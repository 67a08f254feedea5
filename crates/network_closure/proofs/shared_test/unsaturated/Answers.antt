use Rattle.std.proofs.lemmas.Result.{IfOk-weaker}
use Rattle.network_closure.specs.Saturation.{TestsTo}
use Rattle.network_closure.proofs.ShareLemmas.{Gives, one_share}
use Rattle.network_closure.proofs.shared_test.unsaturated.Goals as goal

pub returns-then-shares-lt2 : goal.returns-then-shares-lt2
returns-then-shares-lt2 g c =
    IfOk-weaker c.unsaturated_in_share.result (Gives c.args.net.now c.args.sequence.is_order c.args.table.now 0 1) (TestsTo c.args.net.now c.args.table.now)
    (one_share c.args.net.now c.args.table.now c.args.sequence.points.now c.args.sequence.is_order c.requires.partial_closure c.requires.sequence) c.unsaturated_in_share.ensures
