use Rattle.std.proofs.Common.{◌≡◌, take, drop}
use Rattle.texts.specs.Words.{words, words_after}
use Rattle.texts.proofs.words.end_of_word.Given as goal

abbrev pub invariant-loop-place : goal.invariant-loop-place
invariant-loop-place l = words_after (take l.place l.line) (drop l.place l.line) ≡ words l.line
