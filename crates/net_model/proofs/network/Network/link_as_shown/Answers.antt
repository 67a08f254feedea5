use Rattle.std.proofs.Common.{◌∙◌, ap, pos, is_some}
use Rattle.net_model.specs.Network.{activation}
use Rattle.net_model.specs.ShownForm.{gain}
use Rattle.net_model.proofs.ShownLemmas.{at_most_gain, least_fits, sum_read}
use Rattle.net_model.proofs.network.Network.link_as_shown.Goals as goal

pub returns : goal.returns
returns c =
    let net = c.args.self.now in
    let link = c.args.link.now in
    let gains = c.from-gain.ensures ∙ ap pos c.gain.ensures in
    let least = at_most_gain (is_some (activation net link.from)) net.delay in
    let low = sum_read link.low c.from-gain.result (gain net link) net.delay gains least (least_fits link.low link.high net.delay c.requires.positive c.requires.interval c.requires.shown_within) in
    let high = sum_read link.high c.from-gain.result (gain net link) net.delay gains least c.requires.shown_within in
    c.with_interval.ensures ∙ (λ i. record link { low = low i; high = high i })
