use Rattle.net_model.proofs.NetworkListLemmas.{next_point_not_taken}
use Rattle.net_model.proofs.declarations.Declared.push_points.Goals as goal

pub push_point-requires-clause-not_taken : goal.push_point-requires-clause-not_taken
push_point-requires-clause-not_taken c =
    next_point_not_taken c.args.self.now c.loop-name.self c.args.points.now c.loop-name.name-index c.name-item.result c.loop-name-test.true c.requires c.loop-name.invariant c.name-item.is
