use Rattle.std.proofs.Common.{length}
use Rattle.plan_format.proofs.ReadLemmas.{AtLine}
use Rattle.plan_format.proofs.read.read_lines.Given as goal

abbrev pub invariant-loop-line : goal.invariant-loop-line
invariant-loop-line l = AtLine l.bytes l.rest l.number l.reader

abbrev pub decreases-loop-line : goal.decreases-loop-line
decreases-loop-line l = length l.rest
