use Rattle.std.proofs.Common.{sym, subst}
use Rattle.net_model.specs.Network.{IsPlan}
use Rattle.net_model.proofs.EditLemmas.{named_within, declared_bound}
use Rattle.net_model.proofs.declarations.Declared.add_bound.Goals as goal

pub push_bound-requires-clause-sound : goal.push_bound-requires-clause-sound
push_bound-requires-clause-sound c =
    let net = c.args.self.now in
    declared_bound net (subst IsPlan c.self.view_is c.self.invariant.plan) _ c.sound.ensures
    (named_within net c.args.from.now c.in_ok-from.from (sym c.in_ok-from.ensures)) (named_within net c.args.to.now c.in_ok-to.to (sym c.in_ok-to.ensures))
    (sym c.if-not-is_within_limit.ensures)
