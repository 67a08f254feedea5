use Rattle.std.proofs.Common.{◌≡◌, ◌≤◌, false, drop, length}
use Rattle.std.specs.Prelude.{◌||◌}
use Rattle.std.specs.List.{list_any}
use Rattle.dispatch_net.specs.Slim.{over_point, implied_over_link}
use Rattle.dispatch_net.proofs.held_lists.Held.is_bound_implied.Given as goal

abbrev pub invariant-loop-left : goal.invariant-loop-left
invariant-loop-left l = record {
  none : list_any (λ other. over_point l.self.lists l.bound other || implied_over_link l.self.links l.bound other) (drop l.left l.others) ≡ false;
  within : l.left ≤ length l.others;
}

abbrev pub decreases-loop-left : goal.decreases-loop-left
decreases-loop-left l = l.left
