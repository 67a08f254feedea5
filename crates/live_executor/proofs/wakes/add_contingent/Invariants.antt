use Rattle.std.proofs.Common.{◌≡◌, length, take}
use Rattle.live_executor.specs.Wakes.{gathered, wait_place}
use Rattle.live_executor.proofs.wakes.add_contingent.Given as goal

abbrev pub invariant-loop-link : goal.invariant-loop-link
invariant-loop-link l = record {
  gathered : l.lists ≡ gathered (wait_place (λ link. link.to) l.links) l.point l.initial.lists (take l.link-index l.waits);
  count : length l.lists ≡ length l.initial.lists;
}
