use Rattle.std.proofs.Common.{◌≡◌, ◌-◌, suc}
use Rattle.net_model.specs.Limits.{most_moment}
use Rattle.execution_model.specs.Feeds.{next_moment}
use Rattle.situation_player.specs.PlayedDays.{FollowsSituation, lastings_of}
use Rattle.situation_player.proofs.played_day.play_out.Given as goal

abbrev pub invariant-loop-moment : goal.invariant-loop-moment
invariant-loop-moment l = record {
  follows : FollowsSituation l.net l.situation.items l.executor;
  lastings : l.lastings.items ≡ lastings_of l.net.links l.situation.items;
}

abbrev pub decreases-loop-moment : goal.decreases-loop-moment
decreases-loop-moment l = suc most_moment - next_moment l.executor
