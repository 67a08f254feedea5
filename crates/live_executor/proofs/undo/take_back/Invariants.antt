use Rattle.std.proofs.Common.{◌≡◌, length, take}
use Rattle.live_executor.proofs.UndoLemmas.{AreTakenBack}
use Rattle.live_executor.proofs.undo.take_back.Given as goal

abbrev pub invariant-loop-point : goal.invariant-loop-point
invariant-loop-point l = record {
  back : AreTakenBack (take l.point-index l.came) l.initial.moments l.moments;
  count : length l.moments ≡ length l.initial.moments;
}
