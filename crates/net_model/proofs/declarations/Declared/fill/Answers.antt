use Rattle.std.proofs.Common.{◌++◌, refl, subst, sym}
use Rattle.net_model.specs.Network.{Plan, IsPlan}
use Rattle.net_model.proofs.NetworkListLemmas.{points_alone}
use Rattle.net_model.proofs.declarations.Declared.fill.Goals as goal

pub push_points-requires : goal.push_points-requires
push_points-requires c =
    subst (λ (net : Plan). IsPlan (record net { points = net.points ++ c.args.points.now })) (sym c.requires.empty)
    (points_alone (record { points = c.args.points.now; bounds = c.args.bounds.now; links = c.args.links.now; delay = c.args.self.now.delay }) c.requires.sound c.args.points.now refl)
