use Rattle.std.proofs.Common.{◌≡◌, ◌+◌, ◌+ℤ◌, drop, sym, ap, ◌∙◌, arith}
use Rattle.std.proofs.lemmas.Int.{ints}
use Rattle.std.proofs.lemmas.List.{at_drop_more}
use Rattle.strong_plan.specs.Judgement.{total_of}
use Rattle.cert_format.specs.declared.strong_cert.StrongLine.{StrongLine}
use Rattle.strong_plan.proofs.lines.total_of.Goals as goal

pub loop-line-preserved : goal.loop-line-preserved
loop-line-preserved c =
    let lines = c.args.lines.now in
    let i = c.loop-line.line-index in
    let item = c.line-item.result in
    let more : total_of (drop i lines) ≡ (item.weight +ℤ total_of (drop (i + 1) lines)) = at_drop_more total_of lines i item c.loop-line-test.true ∙ ap (λ (l : StrongLine). l.weight +ℤ total_of (drop (i + 1) lines)) (sym c.line-item.is) in
    (omega (arith, ints, more), omega (arith, ints), omega (arith, ints))
