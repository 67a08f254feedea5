use Rattle.std.proofs.Common.{sym, ap, ◌∙◌, List}
use Rattle.std.specs.List.{remove}
use Rattle.net_model.specs.declared.part.Bound.{Bound}
use Rattle.net_model.proofs.EditLemmas.{sound_without_bound, bound_within, made_sound}
use Rattle.net_model.proofs.network.Network.without_bound.Goals as goal

pub of_lists-requires : goal.of_lists-requires
of_lists-requires c =
    let net = c.args.self.now in
    let place = c.in_ok-id.id.0 in
    let inside = bound_within net c.args.name.now c.in_ok-id.id (sym c.named_bound.ensures ∙ c.in_ok-id.ensures.ok_part) in
    made_sound (record net { bounds = remove net.bounds place }) c.points.result.now c.as_slice.result.now c.links.result.now
    c.points.ensures.points (c.as_slice.ensures.value ∙ c.in_ok-bounds.ensures ∙ ap (λ (bounds : List Bound). remove bounds place) c.bounds.ensures.bounds) c.links.ensures.links
    (sound_without_bound net c.bounds.ensures.sound place inside)
