use Rattle.std.proofs.Common.{◌∙◌, ℤ, ap, pos, is_some}
use Rattle.net_model.specs.Network.{activation}
use Rattle.net_model.specs.ShownForm.{lag}
use Rattle.net_model.proofs.ShownLemmas.{at_most_delay, difference_read}
use Rattle.net_model.proofs.network.Network.bound_as_shown.Goals as goal

pub returns : goal.returns
returns c =
    let net = c.args.self.now in
    let bound = c.args.bound.now in
    let shown = difference_read bound.most c.from-to.result (lag net bound.to) net.delay (c.from-to.ensures ∙ ap pos c.lag.ensures) (at_most_delay (is_some (activation net bound.to)) net.delay)
    c.requires.shown_within c.from-from.result (lag net bound.from) (c.from-from.ensures ∙ ap pos c.lag-2.ensures) (at_most_delay (is_some (activation net bound.from)) net.delay) in
    c.with_most.ensures ∙ ap (λ (most : ℤ). record bound { most = most }) shown
