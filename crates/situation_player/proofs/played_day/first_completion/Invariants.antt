use Rattle.std.proofs.Common.{◌≡◌, take}
use Rattle.situation_player.specs.PlayedDays.{first_completion}
use Rattle.situation_player.proofs.played_day.first_completion.Given as goal

abbrev pub invariant-loop-lasting : goal.invariant-loop-lasting
invariant-loop-lasting l = l.first ≡ first_completion l.executor.moments (take l.lasting-index l.lastings)
