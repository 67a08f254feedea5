use Rattle.std.proofs.Common.{rules, ◌≡◌, ℕ, length, arith, ap, refl, List}
use Rattle.net_model.specs.declared.part.Edge.{Edge}
use Rattle.closure_model.specs.Tables.{HasEdge}
use Rattle.network_closure.specs.Saturation.{SaturatesAfter}
use Rattle.network_closure.proofs.PartialClosureLemmas.{derivable_key, derivable_size}
use Rattle.network_closure.proofs.ConsequenceLemmas.{saturates_by_test, below_next, saturates_firsts, up_to}
use Rattle.network_closure.proofs.unsaturated_edges.unsaturated_firsts.Goals as goal

pub improves_before-improves-requires-clause-key : goal.improves_before-improves-requires-clause-key
improves_before-improves-requires-clause-key c = derivable_key c.args.net.now c.requires.partial_closure.plan c.args.edge.now c.requires.edge c.args.table.now c.requires.partial_closure.fits

pub improves_before-improves-requires-clause-weight : goal.improves_before-improves-requires-clause-weight
improves_before-improves-requires-clause-weight c = derivable_size c.args.net.now c.requires.partial_closure.plan c.args.edge.now c.requires.edge

pub returns-then-not-improves : goal.returns-then-not-improves
returns-then-not-improves c =
    let same : length c.points.result.now ≡ length c.args.net.now.points = ap (λ (points : List (List ℕ)). length points) c.points.ensures.points in
    saturates_by_test c.args.net.now c.args.table.now c.requires.partial_closure c.args.edge.now (λ first inside. c.if-not-improves.ensures refl first (omega arith) (omega (arith, inside, same)))

pub loop-from-preserved : goal.loop-from-preserved
loop-from-preserved c =
    below_next (λ (k : ℕ). (first : Edge) → HasEdge c.args.table.now first → first.from ≡ record { 0 = k } → SaturatesAfter c.args.table.now first c.args.edge.now) c.loop-from.from c.loop-from.invariant c.in_default.ensures

pub returns : goal.returns
returns c =
    saturates_firsts c.args.net.now c.args.table.now c.requires.partial_closure c.args.edge.now
    (up_to (λ (k : ℕ). (first : Edge) → HasEdge c.args.table.now first → first.from ≡ record { 0 = k } → SaturatesAfter c.args.table.now first c.args.edge.now) c.loop-from.from (length c.args.net.now.points)
    (search rules) c.loop-from.invariant)
