use Rattle.std.proofs.Common.{length}
use Rattle.texts.specs.Words.{words}
use Rattle.event_stream.proofs.NameLemmas.{Decides}
use Rattle.event_stream.proofs.names.check_names.Given as goal

abbrev pub invariant-loop-word : goal.invariant-loop-word
invariant-loop-word l = Decides l.net (words l.rest) (words l.names)

abbrev pub decreases-loop-word : goal.decreases-loop-word
decreases-loop-word l = length (words l.rest)
