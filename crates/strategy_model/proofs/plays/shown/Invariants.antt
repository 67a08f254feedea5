use Rattle.std.proofs.Common.{◌≡◌, take}
use Rattle.std.specs.Prelude.{filter}
use Rattle.strategy_model.specs.Plays.{is_shown, points_of}
use Rattle.strategy_model.proofs.plays.shown.Given as goal

abbrev pub invariant-loop-k : goal.invariant-loop-k
invariant-loop-k l =
    l.points.items ≡ filter (is_shown l.net l.so_far l.t l.net.links l.situation) (take l.k (points_of l.net))
