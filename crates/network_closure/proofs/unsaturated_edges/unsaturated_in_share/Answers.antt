use Rattle.std.proofs.Common.{◌≡◌, ◌%◌, ℕ, Option, subst}
use Rattle.std.specs.Prelude.{MatchOption}
use Rattle.net_model.specs.declared.part.Edge.{Edge}
use Rattle.network_closure.specs.RowTest.{SaturatesRow}
use Rattle.network_closure.specs.Saturation.{IsUnsaturated}
use Rattle.network_closure.proofs.ConsequenceLemmas.{below_next}
use Rattle.network_closure.proofs.unsaturated_edges.unsaturated_in_share.Goals as goal

pub loop-row-preserved-then-row-shares : goal.loop-row-preserved-then-row-shares
loop-row-preserved-then-row-shares c =
    below_next (λ (k : ℕ). k % c.args.shares ≡ c.args.share → SaturatesRow c.args.net.now c.args.sequence.is_order c.args.table.now k) c.loop-row.row c.loop-row.invariant (λ same. absurd (c.if-row-shares.true same))

pub loop-row-preserved : goal.loop-row-preserved
loop-row-preserved c =
    below_next (λ (k : ℕ). k % c.args.shares ≡ c.args.share → SaturatesRow c.args.net.now c.args.sequence.is_order c.args.table.now k) c.loop-row.row c.loop-row.invariant
    (λ _. subst (λ (found : Option Edge). MatchOption found (SaturatesRow c.args.net.now c.args.sequence.is_order c.args.table.now c.loop-row.row) (IsUnsaturated c.args.net.now c.args.table.now)) c.in_default.is
    c.in_ok-edge.ensures)
