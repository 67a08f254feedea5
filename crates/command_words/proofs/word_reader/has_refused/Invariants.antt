use Rattle.std.proofs.Common.{◌≡◌, map, drop, string_bytes}
use Rattle.std.specs.List.{list_any}
use Rattle.command_words.specs.ArgumentReading.{is_refused}
use Rattle.command_words.proofs.word_reader.has_refused.Given as goal

-- none came before
abbrev pub invariant-loop-word : goal.invariant-loop-word
invariant-loop-word l = list_any is_refused (map string_bytes (drop l.word-index l.words)) ≡ list_any is_refused (map string_bytes l.words)
