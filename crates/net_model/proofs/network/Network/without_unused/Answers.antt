use Rattle.std.proofs.Common.{ap, ◌∙◌, List, ℕ}
use Rattle.std.specs.List.{remove}
use Rattle.net_model.specs.EditedNetwork.{closed_up_bounds, closed_up_links, without_point}
use Rattle.net_model.proofs.EditLemmas.{sound_without_point, made_sound}
use Rattle.net_model.proofs.network.Network.without_unused.Goals as goal

pub of_lists-requires : goal.of_lists-requires
of_lists-requires c =
    let net = c.args.self.now in
    let dropped = c.args.dropped in
    made_sound (without_point net dropped) c.as_slice.result.now c.as_slice-2.result.now c.as_slice-3.result.now
    (c.as_slice.ensures.value ∙ c.in_ok-points.ensures ∙ ap (λ (points : List (List ℕ)). remove points dropped.0) c.points.ensures.points)
    (c.as_slice-2.ensures.value ∙ c.in_ok-bounds.ensures ∙ ap (closed_up_bounds dropped) c.bounds.ensures.bounds)
    (c.as_slice-3.ensures.value ∙ c.in_ok-links.ensures ∙ ap (closed_up_links dropped) c.links.ensures.links)
    (sound_without_point net c.points.ensures.sound dropped c.requires.held c.requires.unused)
