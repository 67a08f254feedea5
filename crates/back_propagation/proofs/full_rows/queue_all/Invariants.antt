use Rattle.std.proofs.Common.{true, take}
use Rattle.back_propagation.specs.QueuedPlaces.{IsQueued}
use Rattle.back_propagation.proofs.full_rows.queue_all.Given as goal

abbrev pub invariant-loop-place : goal.invariant-loop-place
invariant-loop-place l = IsQueued (λ _. true) (take l.place l.slots) l.queue
