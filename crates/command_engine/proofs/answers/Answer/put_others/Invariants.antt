use Rattle.std.proofs.Common.{◌≡◌, ◌≤◌, ◌+◌, ◌++◌, drop, length}
use Rattle.command_engine.specs.Words.{words_after_blanks, most_bytes}
use Rattle.command_engine.proofs.answers.Answer.put_others.Given as goal

abbrev pub invariant-loop-word : goal.invariant-loop-word
invariant-loop-word l = record {
  goes_on : l.self.text ++ words_after_blanks (drop l.word-index l.words) ≡ l.initial.self.text ++ words_after_blanks l.words;
  spare_capacity : length l.self.text + most_bytes (drop l.word-index l.words) ≤ length l.initial.self.text + most_bytes l.words;
  capacity : l.initial.self.capacity ≤ l.self.capacity;
}
