use Rattle.std.proofs.Common.{◌≡◌, ap, ◌∙◌}
use Rattle.cert_format.specs.CertificateWords.{printed_certificate}
use Rattle.cert_format.specs.CertificateFormat.{certificate_text}
use Rattle.cert_format.specs.declared.certificate.Certificate.TheVariants.{Refutation}
use Rattle.cert_format.proofs.PrintLemmas.{printed_pieces}
use Rattle.cert_format.proofs.TextLemmas.{printed_read}
use Rattle.cert_format.proofs.print.print_refutation.Goals as goal

text_is : (c : goal.In_ok-push_line-3) → c.push_line-3.new.out.items ≡ printed_certificate (Refutation c.args.lines.now c.args.walk.now)
text_is c =
    rw (c.in_ok-push_line-3.ensures, c.in_ok-push_lines-2.ensures.text, c.in_ok-push_lines.ensures.text, c.in_ok-push_line-2.ensures, c.in_ok-push_line.ensures, c.new-out.ensures.items, c.as_slice.ensures)
    (printed_pieces c.args.lines.now c.args.walk.now)

pub returns : goal.returns
returns c = record {
  text = text_is c;
  back = ap certificate_text (text_is c) ∙ printed_read (Refutation c.args.lines.now c.args.walk.now) (c.in_ok-push_lines.ensures.spelled, c.in_ok-push_lines-2.ensures.spelled);
}
