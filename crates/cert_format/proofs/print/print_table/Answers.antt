use Rattle.std.proofs.Common.{◌≡◌, ap, ◌∙◌}
use Rattle.cert_format.specs.CertificateWords.{printed_certificate}
use Rattle.cert_format.specs.CertificateFormat.{certificate_text}
use Rattle.cert_format.specs.declared.certificate.Certificate.TheVariants.{TableProof}
use Rattle.cert_format.proofs.PrintLemmas.{printed_table}
use Rattle.cert_format.proofs.TextLemmas.{printed_read}
use Rattle.cert_format.proofs.print.print_table.Goals as goal

text_is : (c : goal.In_ok-push_line-3) → c.push_line-3.new.out.items ≡ printed_certificate (TableProof c.args.order.now c.args.entries.now)
text_is c =
    rw (c.in_ok-push_line-3.ensures, c.in_ok-push_lines.ensures.text, c.in_ok-push_points.ensures.text, c.in_ok-push_line-2.ensures, c.in_ok-push_line.ensures, c.new-out.ensures.items, c.as_slice.ensures)
    (printed_table c.args.order.now c.args.entries.now)

pub returns : goal.returns
returns c = record {
  text = text_is c;
  back = ap certificate_text (text_is c) ∙ printed_read (TableProof c.args.order.now c.args.entries.now) (c.in_ok-push_points.ensures.spelled, c.in_ok-push_lines.ensures.spelled);
}
