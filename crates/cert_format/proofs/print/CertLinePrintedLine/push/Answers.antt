use Rattle.std.proofs.Common.{refl, ◌∙◌}
use Rattle.cert_format.specs.CertificateWords.{operand_words, label_words}
use Rattle.cert_format.proofs.PrintLemmas.{rule_written}
use Rattle.cert_format.proofs.print.CertLinePrintedLine.push.Goals as goal

pub returns-clause-text : goal.returns-clause-text
returns-clause-text c =
    let line = c.args.self.now in
    let written = rule_written c.args.out.now.items c.spelled.result.now c.bytes.result.now c.bytes-2.result.now c.as_bytes.result.now (operand_words line.kind) (label_words line.label) in
    rw (c.in_ok-push.ensures.items, c.in_ok-push_word-3.ensures, c.in_ok-push_label.ensures.text, c.in_ok-push_word-2.ensures, c.in_ok-push_word.ensures, c.in_ok-push_operands.ensures.text, c.in_ok-extend_from_slice.ensures.items)
    (written ∙ rw (c.spelled.ensures, c.rule_word.ensures, c.bytes.ensures.text, c.bytes-2.ensures.text, c.as_bytes.ensures.value, c.in_ok-to_string.ensures.ok) refl)
