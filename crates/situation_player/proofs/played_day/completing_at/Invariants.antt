use Rattle.std.proofs.Common.{◌≡◌, take}
use Rattle.situation_player.specs.PlayedDays.{completing_at}
use Rattle.situation_player.proofs.played_day.completing_at.Given as goal

abbrev pub invariant-loop-lasting : goal.invariant-loop-lasting
invariant-loop-lasting l = l.points.items ≡ completing_at l.executor.moments l.moment (take l.lasting-index l.lastings)
