use Rattle.std.proofs.Common.{◌+◌, ◌≤◌, length, vec_len}
use Rattle.std.specs.Vec.{vec_capacity}
use Rattle.texts.specs.Words.{words}
use Rattle.event_stream.specs.Limits.{most_completions}
use Rattle.event_stream.proofs.NameLemmas.{GoesOn}
use Rattle.event_stream.proofs.reader.EventReader.keep.Given as goal

abbrev pub invariant-loop-word : goal.invariant-loop-word
invariant-loop-word l = record {
  points : GoesOn l.net (words l.rest) (words l.names) l.self-inside.completions.items;
  fits : vec_len l.self-inside.completions + length (words l.rest) ≤ most_completions;
  spare_capacity : most_completions ≤ vec_capacity l.self-inside.completions;
}

abbrev pub decreases-loop-word : goal.decreases-loop-word
decreases-loop-word l = length (words l.rest)
