use Rattle.std.proofs.Common.{◌∙◌, sym}
use Rattle.texts.proofs.WordLemmas.{words_past_blank}
use Rattle.texts.proofs.words.skip_blanks.Goals as goal

pub loop-place-preserved : goal.loop-place-preserved
loop-place-preserved c =
    words_past_blank c.args.line.now c.loop-place.place c.loop-place-test.true (sym c.is_blank.ensures ∙ c.if-not-is_blank.false)
    ∙ c.loop-place.invariant
