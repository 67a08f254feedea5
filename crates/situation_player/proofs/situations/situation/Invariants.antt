use Rattle.std.proofs.Common.{◌≡◌, ◌++◌, drop}
use Rattle.situation_player.specs.Numbered.{numbered}
use Rattle.situation_player.proofs.situations.situation.Given as goal

abbrev pub invariant-loop-link : goal.invariant-loop-link
invariant-loop-link l = l.durations.items ++ numbered l.rest (drop l.link-index l.links) ≡ numbered l.fn.number l.links
