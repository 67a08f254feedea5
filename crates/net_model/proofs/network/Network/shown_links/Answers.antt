use Rattle.std.proofs.Common.{get_or}
use Rattle.std.proofs.lemmas.List.{get_or_default}
use Rattle.net_model.specs.Network.{IsLink}
use Rattle.net_model.specs.ShownForm.{shown_link}
use Rattle.net_model.proofs.ShownLemmas.{of_each, mapped_next}
use Rattle.net_model.proofs.network.Network.shown_links.Goals as goal

pub link_as_shown-requires : goal.link_as_shown-requires
link_as_shown-requires c =
    let links = c.links-link-items.result.now in
    let k = c.loop-link.link-index in
    let link = get_or links k _ in
    of_each c.args.self.now.links links k link c.links-link-items.ensures.links c.loop-link-test.true (get_or_default links k _ link c.loop-link-test.true)
    (IsLink c.args.self.now) c.links-link-items.ensures.sound.links_sound

pub loop-link-preserved : goal.loop-link-preserved
loop-link-preserved c =
    let links = c.links-link-items.result.now in
    let k = c.loop-link.link-index in
    let link = get_or links k _ in
    mapped_next c.args.self.now.links links k link c.links-link-items.ensures.links c.loop-link-test.true (get_or_default links k _ link c.loop-link-test.true)
    (shown_link c.args.self.now) c.loop-link.links.items c.push.new.self.items c.link_as_shown.result c.loop-link.invariant c.in_ok-push.ensures.items c.link_as_shown.ensures
