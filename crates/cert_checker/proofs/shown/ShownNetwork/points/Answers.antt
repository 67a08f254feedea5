use Rattle.std.proofs.Common.{subst}
use Rattle.net_model.specs.Network.{IsPlan}
use Rattle.net_model.proofs.ShownLemmas.{shown_sound}
use Rattle.cert_checker.proofs.shown.ShownNetwork.points.Goals as goal

pub returns-clause-sound : goal.returns-clause-sound
returns-clause-sound c = subst IsPlan c.self.view_is (shown_sound c.self.inside.stated.now c.points.ensures.sound)
