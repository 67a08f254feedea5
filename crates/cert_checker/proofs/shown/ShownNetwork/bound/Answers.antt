use Rattle.std.proofs.Common.{sym, ap, ◌∙◌}
use Rattle.net_model.specs.Network.{Plan, bound_named}
use Rattle.cert_checker.proofs.ShownLemmas.{bound_named_shown}
use Rattle.cert_checker.proofs.shown.ShownNetwork.bound.Goals as goal

pub returns : goal.returns
returns c =
    c.bound.ensures ∙ sym (bound_named_shown c.self.inside.stated.now c.args.name.now) ∙ ap (λ (net : Plan). bound_named net c.args.name.now) c.self.view_is
