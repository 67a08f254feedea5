use Rattle.std.proofs.Common.{◌≡◌, ◌<◌, ◌%◌, ℕ}
use Rattle.forward_closure.specs.ForwardTest.{AreNoWords, SaturatesForwardRow}
use Rattle.forward_closure.proofs.forward_test.saturates_share.Given as goal

abbrev pub invariant-loop-row : goal.invariant-loop-row
invariant-loop-row l = record {
  saturates : (k : ℕ) → k < l.row → k % l.shares ≡ l.share → SaturatesForwardRow l.net l.table k;
  words : AreNoWords l.net l.words.items;
}
