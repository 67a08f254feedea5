use Rattle.std.proofs.Common.{◌≡◌, ◌≤◌, length, vec_capacity}
use Rattle.dispatch_net.proofs.DownLemmas.{IsPartway}
use Rattle.dispatch_net.proofs.held_lists.Held.slim.Given as goal

abbrev pub invariant-loop-left : goal.invariant-loop-left
invariant-loop-left l = record {
  links : l.self.links ≡ l.fn.self.links;
  partway : IsPartway l.fn.self.links l.fn.self.lists l.self.lists l.order l.left;
  within : l.left ≤ length l.order;
  spare_capacity : vec_capacity l.others ≡ vec_capacity l.fn.others;
}

abbrev pub decreases-loop-left : goal.decreases-loop-left
decreases-loop-left l = l.left
