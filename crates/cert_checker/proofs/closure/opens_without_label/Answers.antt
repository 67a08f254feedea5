use Rattle.std.proofs.Common.{sym, ap, ◌∙◌}
use Rattle.net_model.specs.Network.{Plan}
use Rattle.net_model.specs.Rules.{removal}
use Rattle.cert_checker.proofs.OpensLemmas.{removal_small}
use Rattle.cert_checker.proofs.closure.opens_without_label.Goals as goal

pub lacks-requires : goal.lacks-requires
lacks-requires c = removal_small c.args.table.now.net c.net.ensures.sound c.args.table.now.edges c.args.edge.now c.requires c.in-Some.given (sym (c.without_label.ensures ∙ ap (λ (net : Plan). removal net c.args.edge.now) c.net.ensures.net)
    ∙ c.in-Some.is)
