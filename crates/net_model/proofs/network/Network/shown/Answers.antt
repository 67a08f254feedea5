use Rattle.std.proofs.Common.{◌∙◌}
use Rattle.net_model.specs.ShownForm.{shown_form}
use Rattle.net_model.proofs.EditLemmas.{made_sound}
use Rattle.net_model.proofs.ShownLemmas.{shown_sound}
use Rattle.net_model.proofs.network.Network.shown.Goals as goal

pub instant-requires : goal.instant-requires
instant-requires c =
    made_sound (shown_form c.args.self.now) c.points.result.now c.as_slice.result.now c.as_slice-2.result.now c.points.ensures.points
    (c.as_slice.ensures.value ∙ c.in_ok-bounds.ensures) (c.as_slice-2.ensures.value ∙ c.in_ok-links.ensures) (shown_sound c.args.self.now c.points.ensures.sound)
