use Rattle.std.proofs.Common.{◌≡◌, ℕ, List, IsTrue, ap, subst, ◌∙◌}
use Rattle.std.specs.List.{All}
use Rattle.net_model.specs.Names.{is_name}
use Rattle.cert_format.specs.StrongWords.{printed_strong, IsSpelledBy}
use Rattle.cert_format.specs.StrongGrammar.{strong_text}
use Rattle.cert_format.proofs.StrongPrintLemmas.{printed_pieces}
use Rattle.cert_format.proofs.StrongTextLemmas.{printed_read}
use Rattle.cert_format.proofs.strong_print.print_strong.Goals as goal

text_is : (c : goal.In_ok-push_line-2) → c.push_line-2.new.out.items ≡ printed_strong c.args.cert.now
text_is c =
    rw (c.in_ok-push_line-2.ensures, c.in_ok-push_points.ensures.text, c.in_ok-push_lines.ensures.text, c.in_ok-push_line.ensures, c.new-out.ensures.items, c.as_slice.ensures, c.as_slice-2.ensures, c.as_slice-3.ensures)
    (printed_pieces c.args.cert.now)

pub returns : goal.returns
returns c = record {
  text = text_is c;
  back = ap strong_text (text_is c) ∙ printed_read c.args.cert.now (record {
    of_one_kind = c.requires.of_one_kind;
    by = subst (All IsSpelledBy) c.as_slice-2.ensures c.in_ok-push_lines.ensures.spelled;
    ring = subst (All (λ (point : List ℕ). IsTrue (is_name point))) c.as_slice-3.ensures c.in_ok-push_points.ensures.spelled;
  });
}
