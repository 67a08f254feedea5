use Rattle.std.proofs.Common.{rules}
use Rattle.std.proofs.lemmas.Result.{IfOk-weaker}
use Rattle.network_closure.specs.RowTest.{IsFirstFound}
use Rattle.network_closure.specs.Saturation.{TestsTo}
use Rattle.network_closure.proofs.ShareLemmas.{first_decides}
use Rattle.network_closure.proofs.shared_test.unsaturated_in_shares.Goals as goal

pub returns : goal.returns
returns g c =
    IfOk-weaker c.first_found.result (IsFirstFound c.as_slice.result.now) (TestsTo c.args.net.now c.args.table.now)
    (first_decides c.args.net.now c.args.table.now c.args.sequence.points.now c.args.sequence.is_order c.requires.partial_closure c.requires.sequence c.args.shares c.requires.shares c.in_ok-found.found.items c.as_slice.result.now
    (search rules) (search rules) (λ i d below. (c.in_ok-found.ensures.each i d below).1.met)) c.first_found.ensures
