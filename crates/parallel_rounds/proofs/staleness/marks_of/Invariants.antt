use Rattle.std.proofs.Common.{◌≡◌, length, take}
use Rattle.loop_finder.specs.Marks.{AreMarks}
use Rattle.parallel_rounds.proofs.staleness.marks_of.Given as goal

abbrev pub invariant-loop-point : goal.invariant-loop-point
invariant-loop-point l = (length l.marks.items ≡ l.points) × AreMarks (take l.point-index l.listed) l.marks.items
