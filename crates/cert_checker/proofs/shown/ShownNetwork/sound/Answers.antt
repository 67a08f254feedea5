use Rattle.std.proofs.Common.{subst}
use Rattle.net_model.specs.Network.{IsPlan}
use Rattle.net_model.proofs.ShownLemmas.{shown_sound}
use Rattle.cert_checker.proofs.shown.ShownNetwork.sound.Goals as goal

pub returns : goal.returns
returns c = subst IsPlan c.self.view_is (shown_sound c.self.inside.stated.now c.sound.ensures)
