use Rattle.std.proofs.Common.{◌<◌, pos, length, ap, ◌∙◌, arith}
use Rattle.net_model.specs.declared.part.Link.{Link}
use Rattle.net_model.proofs.ShownLemmas.{durations_next}
use Rattle.net_model.proofs.network.Network.shown_situation.Goals as goal

-- the default if there is no link
nothing : Link
nothing = record { from = record { 0 = 0 }; low = pos 0; high = pos 0; to = record { 0 = 0 } }

pub loop-k-preserved : goal.loop-k-preserved
unfolding nothing
loop-k-preserved c =
    let net = c.args.self.now in
    let inside : c.loop-k.k < length net.links = omega (arith, c.loop-k-test.true, c.loop-k.auto.k-end, ap length c.links-k-end.ensures.links) in
    let within : c.loop-k.k < length c.args.situation.now = omega (arith, inside, c.requires.each) in
    let next = durations_next net net.links c.args.situation.now c.loop-k.shown.items c.push.new.self.items c.loop-k.k nothing 0 inside within (cc (c.in_ok-push.ensures.items, c.from.ensures, c.gain-gain.ensures, c.links.ensures.links)) in
    next ∙ c.loop-k.invariant
