use Rattle.support_records.specs.Moves.{moves_of}
use Rattle.support_records.proofs.FollowLemmas.{KeptFirst}
use Rattle.support_records.proofs.kept_nodes.keep_all.Given as goal

abbrev pub invariant-loop-place : goal.invariant-loop-place
invariant-loop-place l = KeptFirst l.moves.points.new.now (moves_of l.moves) l.before l.place l.places.items l.after
