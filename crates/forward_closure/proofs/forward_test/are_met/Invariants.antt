use Rattle.std.proofs.Common.{◌<◌, ℕ, pos, ◌≤ℤ◌, ◌+ℤ◌, get_or}
use Rattle.forward_closure.specs.declared.source.Source.{Source}
use Rattle.forward_closure.proofs.forward_test.are_met.Given as goal

abbrev pub invariant-loop-first : goal.invariant-loop-first
invariant-loop-first l = (k : ℕ) → k < l.first-index → (d : Source) → get_or l.words (get_or l.firsts k d).from.0 (pos 0) ≤ℤ ((get_or l.firsts k d).weight +ℤ l.weight)
