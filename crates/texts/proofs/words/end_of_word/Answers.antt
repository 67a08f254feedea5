use Rattle.std.proofs.Common.{◌∙◌, sym}
use Rattle.texts.proofs.WordLemmas.{words_is, words_cut_at_blank, words_uncut}
use Rattle.texts.proofs.words.end_of_word.Goals as goal

pub loop-place-init : goal.loop-place-init
loop-place-init c = words_is c.args.line.now

pub returns-then-is_blank-clause-words : goal.returns-then-is_blank-clause-words
returns-then-is_blank-clause-words c =
    words_cut_at_blank c.args.line.now c.loop-place.place c.loop-place-test.true (sym c.is_blank.ensures ∙ c.if-is_blank.true) c.loop-place.invariant

pub returns-clause-words : goal.returns-clause-words
returns-clause-words c =
    words_uncut c.args.line.now c.loop-place.place c.loop-place-test.false c.loop-place.invariant
