use Rattle.std.proofs.Common.{◌≡◌, Bool, true}
use Rattle.std.proofs.lemmas.Result.{IfOk-weaker}
use Rattle.closure_model.specs.Tables.{IsForwardClosed}
use Rattle.forward_closure.specs.ForwardTest.{SaturatesForwardShare}
use Rattle.forward_closure.proofs.SaturationLemmas.{one_share_saturated}
use Rattle.forward_closure.proofs.forward_test.is_forward_closed.Goals as goal

pub returns-then-shares-lt2 : goal.returns-then-shares-lt2
returns-then-shares-lt2 g c =
    IfOk-weaker c.saturates_share.result (λ (saturates : Bool). saturates ≡ true → SaturatesForwardShare c.args.net.now c.args.table.now 0 1) (λ (closed : Bool). closed ≡ true → IsForwardClosed c.args.net.now c.args.table.now)
    (λ closed gives said. one_share_saturated c.args.net.now c.args.table.now c.requires.partial_closure (gives said)) c.saturates_share.ensures
