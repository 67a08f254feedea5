use Rattle.std.proofs.Common.{subst}
use Rattle.net_model.specs.Network.{Plan, IsLink}
use Rattle.net_model.specs.ShownForm.{shown_form}
use Rattle.net_model.proofs.ShownLemmas.{shown_sound}
use Rattle.strategy_model.proofs.PlayLemmas.{link_sound}
use Rattle.cert_checker.proofs.shown.ShownNetwork.link_numbered.Goals as goal

pub returns-clause-sound : goal.returns-clause-sound
returns-clause-sound c =
    let stated = c.self.inside.stated.now in
    subst (λ (net : Plan). IsLink net c.shown_link.result) c.self.view_is
    (link_sound (shown_form stated) (shown_sound stated c.sound.ensures) c.args.id.0 c.shown_link.result c.shown_link.ensures)
