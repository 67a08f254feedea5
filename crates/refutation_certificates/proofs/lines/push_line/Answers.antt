use Rattle.std.proofs.Common.{rules, List, ◌++◌, ◌∷◌, [], ap, ◌∙◌}
use Rattle.cert_format.specs.declared.line.CertLine.{CertLine}
use Rattle.refutation_certificates.proofs.LineNumbers.{line_built}
use Rattle.refutation_certificates.proofs.lines.push_line.Goals as goal

pub returns : goal.returns
returns c =
    let before : List CertLine = c.args.made.now.items in
    c.in_ok-push.ensures.items ∙ ap (λ (line : CertLine). before ++ line ∷ []) (line_built c.args.net.now c.args.lines.now c.args.node.now _ _ _ _ _ _
    (record { weight_is = search rules; kind_is = c.kind_of-kind.ensures; label_is = c.label_of-label.ensures; from_is = c.point_name.ensures; to_is = c.point_name-2.ensures }))
