use Rattle.net_model.specs.Network.{IsBound}
use Rattle.net_model.specs.ShownForm.{shown_bound}
use Rattle.net_model.proofs.ShownLemmas.{of_each, mapped_next}
use Rattle.net_model.proofs.network.Network.shown_bounds.Goals as goal

pub bound_as_shown-requires : goal.bound_as_shown-requires
bound_as_shown-requires c =
    of_each c.args.self.now.bounds c.bounds-bound-items.result.now c.loop-bound.bound-index c.bound-item.result c.bounds-bound-items.ensures.bounds c.loop-bound-test.true c.bound-item.is
    (IsBound c.args.self.now) c.bounds-bound-items.ensures.sound.bounds_sound

pub loop-bound-preserved : goal.loop-bound-preserved
loop-bound-preserved c =
    mapped_next c.args.self.now.bounds c.bounds-bound-items.result.now c.loop-bound.bound-index c.bound-item.result c.bounds-bound-items.ensures.bounds c.loop-bound-test.true c.bound-item.is
    (shown_bound c.args.self.now) c.loop-bound.bounds.items c.push.new.self.items c.bound_as_shown.result c.loop-bound.invariant c.in_ok-push.ensures.items c.bound_as_shown.ensures
