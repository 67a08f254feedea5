use Rattle.std.proofs.Common.{sym, ◌∙◌}
use Rattle.std.proofs.lemmas.Bool.{eqb-true, eqb-false}
use Rattle.texts.proofs.WordLemmas.{words_of_none, first_word}
use Rattle.texts.proofs.words.next_word.Goals as goal

pub returns-then-is_empty : goal.returns-then-is_empty
returns-then-is_empty c =
    words_of_none c.args.line.now c.skip_blanks-line.result.now c.skip_blanks-line.ensures.words (eqb-true _ 0 (sym c.is_empty.ensures ∙ c.if-is_empty.true))

pub returns : goal.returns
returns c =
    first_word c.args.line.now c.skip_blanks-line.result.now c.end_of_word-end.result c.skip_blanks-line.ensures.words (eqb-false _ 0 (sym c.is_empty.ensures ∙ c.if-is_empty.false)) c.skip_blanks-line.ensures.starts
    c.end_of_word-end.ensures.found c.end_of_word-end.ensures.words
