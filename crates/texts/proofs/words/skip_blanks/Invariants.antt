use Rattle.std.proofs.Common.{◌≡◌, drop}
use Rattle.texts.specs.Words.{words}
use Rattle.texts.proofs.words.skip_blanks.Given as goal

abbrev pub invariant-loop-place : goal.invariant-loop-place
invariant-loop-place l = words (drop l.place l.line) ≡ words l.line
