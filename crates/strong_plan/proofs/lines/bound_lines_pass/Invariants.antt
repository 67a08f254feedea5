use Rattle.std.proofs.Common.{◌≡◌, ◌+◌, drop}
use Rattle.strong_plan.specs.Judgement.{bound_lines_pass}
use Rattle.strong_plan.proofs.lines.bound_lines_pass.Given as goal

abbrev pub invariant-loop-index : goal.invariant-loop-index
invariant-loop-index l = bound_lines_pass l.net (1 + l.index) (drop l.index l.lines) ≡ bound_lines_pass l.net 1 l.lines
