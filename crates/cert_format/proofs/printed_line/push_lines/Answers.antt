use Rattle.std.proofs.Common.{◌++◌, All, ap, sym, subst, ◌∙◌}
use Rattle.std.specs.List.{flat_map}
use Rattle.std.proofs.lemmas.List.{take_all}
use Rattle.std.proofs.lemmas.List.Elements.{All-more}
use Rattle.texts.specs.PrintedLines.{printed_line}
use Rattle.cert_format.proofs.PrintLemmas.{written_more}
use Rattle.cert_format.proofs.printed_line.push_lines.Goals as goal

pub push-requires : goal.push-requires
push-requires g c = subst g.L.PrintedLine.has_limits (sym c.line-item.is) (c.requires c.loop-line.line-index c.line-item.result c.loop-line-test.true)

pub loop-line-preserved : goal.loop-line-preserved
loop-line-preserved g c = record {
  text = rw (c.in_ok-push.ensures.text, c.loop-line.invariant.text)
      (written_more (λ line. printed_line (g.L.PrintedLine.words_of line)) c.args.out.now.items c.args.lines.now c.loop-line.line-index c.line-item.result c.loop-line-test.true c.line-item.is);
  spelled = All-more g.L.PrintedLine.is_spelled c.args.lines.now c.loop-line.line-index c.line-item.result c.loop-line-test.true c.loop-line.invariant.spelled
      (subst g.L.PrintedLine.is_spelled c.line-item.is c.in_ok-push.ensures.spelled);
}

pub returns-clause-text : goal.returns-clause-text
returns-clause-text g c =
    c.loop-line.invariant.text
    ∙ ap (λ lines. c.args.out.now.items ++ flat_map (λ line. printed_line (g.L.PrintedLine.words_of line)) lines) (take_all c.loop-line.line-index c.args.lines.now c.loop-line-test.false)

pub returns-clause-spelled : goal.returns-clause-spelled
returns-clause-spelled g c = subst (All g.L.PrintedLine.is_spelled) (take_all c.loop-line.line-index c.args.lines.now c.loop-line-test.false) c.loop-line.invariant.spelled
