use Rattle.std.proofs.Common.{◌≡◌}
use Rattle.strategy_model.specs.Plays.{play, play_from}
use Rattle.strategy_model.proofs.TreeLemmas.{depth}
use Rattle.strategy_model.proofs.plays.play.Given as goal

abbrev pub invariant-loop-node : goal.invariant-loop-node
invariant-loop-node l =
    play l.tree l.net l.situation.items ≡ play_from l.node l.net l.situation.items l.moments.items l.t

abbrev pub decreases-loop-node : goal.decreases-loop-node
decreases-loop-node l = depth l.node
