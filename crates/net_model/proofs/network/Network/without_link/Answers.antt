use Rattle.std.proofs.Common.{sym, ap, ◌∙◌, List}
use Rattle.std.specs.List.{remove}
use Rattle.net_model.specs.declared.part.Link.{Link}
use Rattle.net_model.proofs.EditLemmas.{sound_without_link, link_within, made_sound}
use Rattle.net_model.proofs.network.Network.without_link.Goals as goal

pub of_lists-requires : goal.of_lists-requires
of_lists-requires c =
    let net = c.args.self.now in
    let place = c.in_ok-id.id.0 in
    let inside = link_within net c.args.to.now c.in_ok-id.id (sym c.named_link.ensures ∙ c.in_ok-id.ensures.ok_part) in
    made_sound (record net { links = remove net.links place }) c.points.result.now c.bounds.result.now c.as_slice.result.now
    c.points.ensures.points c.bounds.ensures.bounds (c.as_slice.ensures.value ∙ c.in_ok-links.ensures ∙ ap (λ (links : List Link). remove links place) c.links.ensures.links)
    (sound_without_link net c.links.ensures.sound place inside)
