use Rattle.std.proofs.Common.{◌≡◌, ◌<◌, ℕ, length, get_or}
use Rattle.net_model.specs.declared.ids.PointId.{PointId}
use Rattle.dispatch_net.proofs.slim_lists.ranks_of.Given as goal

abbrev pub invariant-loop-rank : goal.invariant-loop-rank
invariant-loop-rank l = record {
  count : length l.ranks.items ≡ l.points;
  ranked : (place : ℕ) (d : PointId) → place < l.rank → place < length l.order → get_or l.ranks.items (get_or l.order place d).0 0 ≡ place;
}
