use Rattle.std.proofs.Common.{◌≡◌, map, take, Some}
use Rattle.situation_player.proofs.played_day.moments_of.Given as goal

abbrev pub invariant-loop-k : goal.invariant-loop-k
invariant-loop-k l = map Some l.schedule.items ≡ take l.k l.executor.moments
