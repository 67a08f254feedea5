use Rattle.std.proofs.Common.{◌≡◌, None, Some, sym, ap, ◌∙◌}
use Rattle.std.specs.Prelude.{slice_get}
use Rattle.net_model.specs.Network.{Plan, activation}
use Rattle.cert_checker.proofs.OpensLemmas.{after_none, after_no_link, after_link}
use Rattle.cert_checker.proofs.closure.opens_after.Goals as goal

pub returns-in_default : goal.returns-in_default
returns-in_default c =
    let net = c.args.table.now.net in
    let second = c.args.second.now in
    let found : activation net second.from ≡ None = sym (c.activation.ensures ∙ ap (λ (n : Plan). activation n second.from) c.net-net.ensures.net) ∙ c.in_default.is in
    after_none net c.net-net.ensures.sound c.args.table.now.edges second c.requires.sound c.requires.negative found

pub returns-in-Some-link_at : goal.returns-in-Some-link_at
returns-in-Some-link_at c =
    let net = c.args.table.now.net in
    let second = c.args.second.now in
    let name = c.in-Some.name in
    let link = c.in-Some-link_at.link in
    let found : activation net second.from ≡ Some name = sym (c.activation.ensures ∙ ap (λ (n : Plan). activation n second.from) c.net-net.ensures.net) ∙ c.in-Some.is in
    let declared : slice_get net.links name.0 ≡ Some link = sym (c.link_at.ensures.link ∙ ap (λ (n : Plan). slice_get n.links name.0) c.net-net.ensures.net) ∙ c.in-Some-link_at.is in
    c.opens_at_link.ensures ∙ after_link net c.net-net.ensures.sound c.args.table.now.edges second c.requires.sound c.requires.negative name link found declared

pub returns-in-None : goal.returns-in-None
returns-in-None c =
    let net = c.args.table.now.net in
    let second = c.args.second.now in
    let name = c.in-Some.name in
    let found : activation net second.from ≡ Some name = sym (c.activation.ensures ∙ ap (λ (n : Plan). activation n second.from) c.net-net.ensures.net) ∙ c.in-Some.is in
    let gone : slice_get net.links name.0 ≡ None = sym (c.link_at.ensures.link ∙ ap (λ (n : Plan). slice_get n.links name.0) c.net-net.ensures.net) ∙ c.in-None.is in
    after_no_link net c.net-net.ensures.sound c.args.table.now.edges second c.requires.sound c.requires.negative name found gone
