use Rattle.std.proofs.Common.{ap, subst}
use Rattle.plan_session.specs.SessionNetworks.{Makes, NetworkView}
use Rattle.plan_session.proofs.session_network.SessionNetwork.edited.Goals as goal

pub returns : goal.returns
returns c =
    let made = c.in_ok-edited.ensures in (
      subst (λ (network : NetworkView). Makes network.net c.args.edit.now c.in_ok-edited.edited) c.self.view_is (record { made = made.edited; plan = made.sound; numbers = made.numbers }),
      ap (λ (network : NetworkView). network.workers) c.self.view_is,
    )
