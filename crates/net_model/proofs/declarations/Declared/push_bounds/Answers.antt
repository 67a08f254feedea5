use Rattle.net_model.proofs.NetworkListLemmas.{next_bound_not_taken, next_bound_sound}
use Rattle.net_model.proofs.declarations.Declared.push_bounds.Goals as goal

pub push_bound-requires-clause-not_taken : goal.push_bound-requires-clause-not_taken
push_bound-requires-clause-not_taken c =
    next_bound_not_taken c.args.self.now c.loop-bound.self c.args.bounds.now c.loop-bound.bound-index c.bound-item.result c.loop-bound-test.true c.requires c.loop-bound.invariant c.bound-item.is

pub push_bound-requires-clause-sound : goal.push_bound-requires-clause-sound
push_bound-requires-clause-sound c =
    next_bound_sound c.args.self.now c.loop-bound.self c.args.bounds.now c.loop-bound.bound-index c.bound-item.result c.loop-bound-test.true c.requires c.loop-bound.invariant c.bound-item.is
