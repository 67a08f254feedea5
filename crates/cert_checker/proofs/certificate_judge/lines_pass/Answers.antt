use Rattle.std.proofs.Common.{rules, ◌≡◌, true, Ok, ◌∙◌, take, subst}
use Rattle.std.proofs.lemmas.List.Elements.{All-more}
use Rattle.cert_format.specs.declared.line.CertLine.{CertLine}
use Rattle.cert_checker.specs.Lines.{in_range, line_passes}
use Rattle.cert_checker.proofs.LineLoop.{lines_step}
use Rattle.cert_checker.proofs.certificate_judge.lines_pass.Goals as goal

pub loop-index-preserved : goal.loop-index-preserved
loop-index-preserved c =
    let lines = c.args.lines.now in
    let line = c.index-lines-index.result in
    let i = c.loop-index.index in
    let passes : line_passes c.args.net.now (take i lines) line ≡ Ok tt = search rules in
    let ranged : in_range line.weight ≡ true = search rules in (
      All-more (λ (l : CertLine). in_range l.weight ≡ true) lines i line c.loop-index-test.true c.loop-index.invariant.0 (subst (λ (l : CertLine). in_range l.weight ≡ true) c.index-lines-index.is ranged),
      lines_step c.args.net.now lines i
          line c.loop-index-test.true c.index-lines-index.is passes ∙ c.loop-index.invariant.1,
    )
