use Rattle.std.proofs.Common.{◌==◌, length, sym, arith}
use Rattle.std.proofs.lemmas.List.Sums.{position_or_len_is}
use Rattle.closure_model.specs.declared.derivation.NodeId.{NodeId}
use Rattle.example_references.proofs.refutation.place_in.Goals as goal

pub returns-then-eq-clause-place : goal.returns-then-eq-clause-place
returns-then-eq-clause-place c = sym (position_or_len_is (λ (line : NodeId). line.0 == c.args.id.0) c.args.lines.now c.loop-place.place (record { 0 = 0 }) (omega arith) (λ k less. c.loop-place.invariant k (record { 0 = 0 }) less)
    (λ inside. sym c.if-eq.ensures))

pub returns-clause-place : goal.returns-clause-place
returns-clause-place c = sym (position_or_len_is (λ (line : NodeId). line.0 == c.args.id.0) c.args.lines.now (length c.args.lines.now) c.args.id (omega arith) (λ k less. c.loop-place.invariant k c.args.id (omega arith))
    (λ inside. absurd (omega arith)))
