use Rattle.std.proofs.Common.{◌≡◌, ◌≤◌, false, drop, length}
use Rattle.std.specs.Prelude.{◌||◌, slice_get}
use Rattle.std.specs.List.{list_any}
use Rattle.std.specs.Option.{option_map_or}
use Rattle.dispatch_net.specs.Slim.{over_end, over_wait}
use Rattle.dispatch_net.proofs.held_lists.Held.is_wait_implied.Given as goal

abbrev pub invariant-loop-left : goal.invariant-loop-left
invariant-loop-left l = record {
  none : list_any (λ other. option_map_or (over_end l.wait.1 other) (slice_get l.self.links l.wait.0.0) false || over_wait l.self.lists l.wait other) (drop l.left l.others) ≡ false;
  within : l.left ≤ length l.others;
}

abbrev pub decreases-loop-left : goal.decreases-loop-left
decreases-loop-left l = l.left
