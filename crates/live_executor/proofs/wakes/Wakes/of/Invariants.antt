use Rattle.std.proofs.Common.{take}
use Rattle.live_executor.specs.Wakes.{AreWakesOf}
use Rattle.live_executor.proofs.wakes.Wakes.of.Given as goal

abbrev pub invariant-loop-number : goal.invariant-loop-number
invariant-loop-number l = AreWakesOf (record { links = l.dispatch.links; dispatch = take l.number l.dispatch.kept }) l.points l.wakes
