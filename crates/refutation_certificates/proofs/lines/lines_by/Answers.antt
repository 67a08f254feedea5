use Rattle.std.proofs.Common.{List, ◌++◌, ◌∷◌, [], ap, sym, ◌∙◌}
use Rattle.cert_format.specs.declared.line.CertLine.{CertLine}
use Rattle.refutation_certificates.specs.Certificates.{rule_line_of_node}
use Rattle.refutation_certificates.proofs.LineNumbers.{lines_more}
use Rattle.refutation_certificates.proofs.lines.lines_by.Goals as goal

pub loop-id-preserved : goal.loop-id-preserved
loop-id-preserved c =
    c.in_ok-push_line.ensures ∙ (ap (λ (made : List CertLine). made ++ rule_line_of_node c.args.net.now c.args.lines.now c.node.result.now ∷ []) c.loop-id.invariant
    ∙ sym (lines_more c.args.net.now c.args.dag.now c.args.lines.now c.args.lines.now c.loop-id.id-index _ c.node.result.now c.loop-id-test.true c.node.ensures))
