use Rattle.std.proofs.Common.{◌≡◌, take, vec_capacity}
use Rattle.dispatch_net.proofs.slim_lists.put_in_order.Given as goal

abbrev pub invariant-loop-bound : goal.invariant-loop-bound
invariant-loop-bound l = record {
  copied : l.ordered.items ≡ take l.bound-index l.bounds;
  spare_capacity : vec_capacity l.ordered ≡ vec_capacity l.fn.ordered;
}
