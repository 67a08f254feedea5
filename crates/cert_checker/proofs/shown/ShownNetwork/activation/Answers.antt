use Rattle.std.proofs.Common.{sym, ap, ◌∙◌}
use Rattle.net_model.specs.Network.{Plan, activation}
use Rattle.strategy_model.proofs.ShownPlayLemmas.{activation_shown}
use Rattle.cert_checker.proofs.shown.ShownNetwork.activation.Goals as goal

pub returns : goal.returns
returns c =
    c.activation.ensures ∙ sym (activation_shown c.self.inside.stated.now c.args.point) ∙ ap (λ (net : Plan). activation net c.args.point) c.self.view_is
