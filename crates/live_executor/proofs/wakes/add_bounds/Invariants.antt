use Rattle.std.proofs.Common.{◌≡◌, length, take}
use Rattle.live_executor.specs.Wakes.{gathered, bound_place}
use Rattle.live_executor.proofs.wakes.add_bounds.Given as goal

abbrev pub invariant-loop-after : goal.invariant-loop-after
invariant-loop-after l = record {
  gathered : l.lists ≡ gathered bound_place l.point l.initial.lists (take l.after-index l.bounds);
  count : length l.lists ≡ length l.initial.lists;
}
