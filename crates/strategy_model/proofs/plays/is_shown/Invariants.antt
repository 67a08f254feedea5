use Rattle.std.proofs.Common.{◌≡◌, length, drop}
use Rattle.strategy_model.specs.Plays.{is_shown}
use Rattle.strategy_model.proofs.plays.is_shown.Given as goal

abbrev pub invariant-loop-link : goal.invariant-loop-link
invariant-loop-link l =
    is_shown l.net l.so_far l.t l.links l.durations l.point ≡ is_shown l.net l.so_far l.t (drop (length l.yielded) l.links) (drop (length l.yielded) l.durations) l.point
