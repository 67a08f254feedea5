use Rattle.std.proofs.Common.{◌≡◌, ◌≤◌, ◌++◌, drop}
use Rattle.command_engine.specs.Words.{words_after_blanks}
use Rattle.command_engine.proofs.answers.Answer.push_others.Given as goal

abbrev pub invariant-loop-word : goal.invariant-loop-word
invariant-loop-word l = record {
  goes_on : l.self.text ++ words_after_blanks (drop l.word-index l.words) ≡ l.initial.self.text ++ words_after_blanks l.words;
  capacity : l.initial.self.capacity ≤ l.self.capacity;
}
