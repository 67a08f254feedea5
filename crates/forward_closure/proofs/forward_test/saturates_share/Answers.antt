use Rattle.std.proofs.Common.{◌≡◌, ◌%◌, ℕ, refl}
use Rattle.network_closure.proofs.ConsequenceLemmas.{below_next}
use Rattle.forward_closure.specs.ForwardTest.{SaturatesForwardRow}
use Rattle.forward_closure.proofs.forward_test.saturates_share.Goals as goal

pub loop-row-preserved-then-row-shares : goal.loop-row-preserved-then-row-shares
loop-row-preserved-then-row-shares c = record {
  saturates = below_next (λ (k : ℕ). k % c.args.shares ≡ c.args.share → SaturatesForwardRow c.args.net.now c.args.table.now k) c.loop-row.row c.loop-row.invariant.saturates
      (λ same. absurd (c.if-row-shares.true same));
  words = c.loop-row.invariant.words;
}

pub loop-row-preserved : goal.loop-row-preserved
loop-row-preserved c = record {
  saturates = below_next (λ (k : ℕ). k % c.args.shares ≡ c.args.share → SaturatesForwardRow c.args.net.now c.args.table.now k) c.loop-row.row c.loop-row.invariant.saturates
      (λ _. c.if-not-saturates_row.ensures.saturates refl);
  words = c.saturates_row.ensures.words;
}
