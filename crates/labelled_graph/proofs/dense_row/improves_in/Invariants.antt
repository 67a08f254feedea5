use Rattle.std.proofs.Common.{◌≡◌, ◌<◌, ◌≤◌, ℕ, pos, false, get_or}
use Rattle.labelled_graph.specs.Words.{held, SaturatesHeld}
use Rattle.labelled_graph.proofs.dense_row.improves_in.Given as goal

abbrev pub invariant-loop-place : goal.invariant-loop-place
invariant-loop-place l = l.improves_in ≡ false → (k : ℕ) → l.from ≤ k → k < l.place → SaturatesHeld (held (get_or l.firsts k (pos 0))) (held (get_or l.there k (pos 0))) l.weight
