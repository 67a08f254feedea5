use Rattle.std.proofs.Common.{◌∙◌, sym}
use Rattle.net_model.proofs.NetworkLemmas.{point_named-bad}
use Rattle.net_model.proofs.network.Network.point.Goals as goal

pub returns-in_err-name : goal.returns-in_err-name
returns-in_err-name c =
    c.from_residual.ensures ∙ sym (point_named-bad c.args.self.now c.sound.ensures c.args.name.now (sym c.in_err-name.ensures.variant))
