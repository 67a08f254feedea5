use Rattle.std.proofs.Common.{List, ap, length, subst}
use Rattle.net_model.specs.declared.part.Link.{Link}
use Rattle.live_executor.specs.ExpectedPoints.{AreActivated}
use Rattle.live_executor.proofs.SoundLemmas.{kept_sound, kept_count, kept}
use Rattle.live_executor.proofs.dispatched_network.Dispatched.new.Goals as goal

pub of-requires-clause-sound : goal.of-requires-clause-sound
of-requires-clause-sound c = kept_sound c.args.net.now c.args.dispatch c.requires c.links.ensures.kept

pub of-requires-clause-count : goal.of-requires-clause-count
of-requires-clause-count c = kept_count c.args.net.now c.args.dispatch c.requires c.links.ensures.kept (length c.points.result.now) (ap length c.points.ensures.points)

pub invariant_of-result : goal.invariant_of-result
invariant_of-result c =
    kept c.args.net.now c.args.dispatch c.requires c.links.ensures.kept (length c.points.result.now) c.in_ok-wakes.wakes c.in_ok-activated.activated (ap length c.points.ensures.points) c.in_ok-wakes.ensures
    (subst (λ (links : List Link). AreActivated links (length c.points.result.now) c.in_ok-activated.activated) c.links-2.ensures.links c.in_ok-activated.ensures)
