use Rattle.std.proofs.Common.{rules, ◌≡◌, true, false, sym, ◌∙◌}
use Rattle.net_model.specs.Rules.{is_negative}
use Rattle.cert_checker.proofs.OpensLemmas.{opens_negative, opens_nothing}
use Rattle.cert_checker.proofs.closure.opens.Goals as goal

pub returns-then-second-lt0 : goal.returns-then-second-lt0
returns-then-second-lt0 c =
    let negative : is_negative c.args.second.now ≡ true = search rules in
    c.opens_negative.ensures ∙ opens_negative c.args.table.now.net c.args.table.now.edges c.args.second.now (sym c.opens_without_label.ensures ∙ c.if-opens_without_label.false) negative

pub returns-else-second-lt0 : goal.returns-else-second-lt0
returns-else-second-lt0 c =
    let not_negative : is_negative c.args.second.now ≡ false = search rules in
    c.if-second-lt0.false ∙ opens_nothing c.args.table.now.net c.args.table.now.edges c.args.second.now (sym c.opens_without_label.ensures ∙ c.if-opens_without_label.false) not_negative
