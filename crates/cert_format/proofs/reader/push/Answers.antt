use Rattle.std.proofs.Common.{rules, List, ◌++◌, ◌∷◌, [], ap, ◌∙◌}
use Rattle.cert_format.specs.declared.line.CertLine.{CertLine}
use Rattle.cert_format.proofs.EdgeLemmas.{same_again}
use Rattle.cert_format.proofs.reader.push.Goals as goal

pub returns-clause-kept : goal.returns-clause-kept
returns-clause-kept c =
    let before : List CertLine = c.args.lines.now.items in
    c.in_ok-push.ensures.items ∙ ap (λ (line : CertLine). before ++ line ∷ []) (same_again c.args.line _ _ (search rules))
