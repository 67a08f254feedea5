use Rattle.std.proofs.Common.{take}
use Rattle.live_executor.specs.ExpectedPoints.{AreActivated}
use Rattle.live_executor.proofs.activations.activations.Given as goal

abbrev pub invariant-loop-link : goal.invariant-loop-link
invariant-loop-link l = AreActivated (take l.link-index l.links) l.points l.lists
