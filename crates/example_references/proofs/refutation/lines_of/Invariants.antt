use Rattle.std.proofs.Common.{◌-◌, length}
use Rattle.example_references.specs.LinesFrom.{AreLinesFrom}
use Rattle.example_references.proofs.refutation.lines_of.Given as goal

abbrev pub invariant-loop-passed : goal.invariant-loop-passed
invariant-loop-passed l = AreLinesFrom l.nodes l.steps (length l.nodes - l.passed) l.lines.items
