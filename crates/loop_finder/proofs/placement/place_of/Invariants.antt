use Rattle.std.proofs.Common.{◌≡◌, ℕ, ◌<◌, ◌==◌, false, get_or}
use Rattle.net_model.specs.declared.ids.PointId.{PointId}
use Rattle.loop_finder.proofs.placement.place_of.Given as goal

abbrev pub invariant-loop-place : goal.invariant-loop-place
invariant-loop-place l = (k : ℕ) (d : PointId) → k < l.place → (get_or l.order k d).0 == l.point.0 ≡ false
