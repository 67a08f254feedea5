use Rattle.std.proofs.Common.{get_or}
use Rattle.std.proofs.lemmas.List.{get_or_default}
use Rattle.net_model.proofs.NetworkListLemmas.{next_link_not_taken, next_link_sound}
use Rattle.net_model.proofs.declarations.Declared.push_links.Goals as goal

pub push_link-requires-clause-not_taken : goal.push_link-requires-clause-not_taken
push_link-requires-clause-not_taken c =
    let link = get_or c.args.links.now c.loop-link.link-index _ in
    next_link_not_taken c.args.self.now c.loop-link.self c.args.links.now c.loop-link.link-index link c.loop-link-test.true c.requires c.loop-link.invariant
    (get_or_default c.args.links.now c.loop-link.link-index _ link c.loop-link-test.true)

pub push_link-requires-clause-sound : goal.push_link-requires-clause-sound
push_link-requires-clause-sound c =
    let link = get_or c.args.links.now c.loop-link.link-index _ in
    next_link_sound c.args.self.now c.loop-link.self c.args.links.now c.loop-link.link-index link c.loop-link-test.true c.requires c.loop-link.invariant (get_or_default c.args.links.now c.loop-link.link-index _ link c.loop-link-test.true)
