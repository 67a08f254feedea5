use Rattle.std.proofs.Common.{refl, ◌∙◌}
use Rattle.cert_format.specs.CertificateWords.{label_words}
use Rattle.cert_format.proofs.PrintLemmas.{entry_written}
use Rattle.cert_format.proofs.print.EntryPrintedLine.push.Goals as goal

pub returns-clause-text : goal.returns-clause-text
returns-clause-text c =
    let entry = c.args.self.now in
    let written = entry_written c.args.out.now.items c.spelled.result.now c.bytes.result.now c.as_bytes.result.now (label_words entry.to) (label_words entry.label) in
    rw (c.in_ok-push.ensures.items, c.in_ok-push_word-2.ensures, c.in_ok-push_label-2.ensures.text, c.in_ok-push_label.ensures.text, c.in_ok-push_word.ensures, c.in_ok-extend_from_slice.ensures.items)
    (written ∙ rw (c.spelled.ensures, c.entry_word.ensures, c.bytes.ensures.text, c.as_bytes.ensures.value, c.in_ok-to_string.ensures.ok) refl)
