use Rattle.std.proofs.Common.{◌≡◌, ◌==◌, false, get_or, sym, ◌∙◌, arith}
use Rattle.std.proofs.lemmas.Bool.{ne_eqb}
use Rattle.texts.proofs.LineLemmas.{lines_is, lines_after-more, more_size}
use Rattle.texts.proofs.lines.end_of_line.Goals as goal

pub loop-place-init : goal.loop-place-init
loop-place-init c = record { lines = sym (lines_is c.args.bytes.now); sizes = λ count. omega arith }

pub loop-place-preserved : goal.loop-place-preserved
loop-place-preserved c =
    let bytes = c.args.bytes.now in
    let place = c.loop-place.place in
    let other : (get_or bytes place 0 == 10) ≡ false = ne_eqb _ 10 (λ same. omega arith) in
    record {
      lines = c.loop-place.invariant.lines ∙ lines_after-more bytes place c.loop-place-test.true other;
      sizes = λ count. more_size bytes place count c.loop-place-test.true other (c.loop-place.invariant.sizes count);
    }
