use Rattle.std.proofs.Common.{ℕ, get_or, arith}
use Rattle.std.proofs.lemmas.List.{get_or_default}
use Rattle.std.proofs.Common.{subst}
use Rattle.net_model.specs.declared.ids.PointId.{PointId}
use Rattle.network_closure.specs.RowTest.{SaturatesAt}
use Rattle.network_closure.proofs.ConsequenceLemmas.{below_next}
use Rattle.network_closure.proofs.RowTestLemmas.{none_are_covered, tested_into}
use Rattle.network_closure.proofs.unsaturated_edges.unsaturated_into.Goals as goal

pub loop-from-init : goal.loop-from-init
loop-from-init c = record {
  saturates = λ k below. absurd (omega (arith, below));
  covered = none_are_covered c.args.net.now c.args.table.now c.args.to c.args.label c.in_ok-covered.covered.items c.in_ok-covered.ensures;
}

pub unsaturated_at-requires-clause-from_point : goal.unsaturated_at-requires-clause-from_point
unsaturated_at-requires-clause-from_point c = c.requires.sequence.within c.loop-from.from-index (record { 0 = 0 }) c.loop-from-test.true

pub loop-from-preserved : goal.loop-from-preserved
loop-from-preserved c = record {
  saturates = below_next (λ (k : ℕ). (d : PointId) → SaturatesAt c.args.net.now c.args.sequence.is_order c.args.table.now (get_or c.args.sequence.points.now k d) c.args.to c.args.label) c.loop-from.from-index c.loop-from.invariant.saturates
      (λ d. subst (λ (p : PointId). SaturatesAt c.args.net.now c.args.sequence.is_order c.args.table.now p c.args.to c.args.label)
      (get_or_default c.args.sequence.points.now c.loop-from.from-index (record { 0 = 0 }) d c.loop-from-test.true) c.in_default.ensures.saturates);
  covered = c.unsaturated_at.ensures.covered;
}

pub returns : goal.returns
returns c = tested_into c.args.net.now c.args.sequence.is_order c.args.table.now c.args.sequence.points.now c.args.to c.args.label c.loop-from.from-index c.requires.partial_closure c.requires.sequence c.loop-from-test.false
    c.loop-from.invariant.saturates
