use Rattle.std.proofs.Common.{◌≡◌, ◌∙◌, ◌<◌, ◌≤ℤ◌, ℕ, ℤ, pos, List, length, subst, sym, ap, arith}
use mir.Val.{to_z, of_z}
use mir.Syntax.{w32}
use Rattle.std.specs.List.{All}
use Rattle.std.proofs.lemmas.Int.{ints}
use Rattle.network_closure.proofs.ConsequenceLemmas.{saturates_no_firsts}
use Rattle.network_closure.proofs.PartialClosureLemmas.{derivable_is, derivable_size}
use Rattle.forward_closure.specs.ForwardTest.{AreMetBy}
use Rattle.forward_closure.specs.declared.source.Source.{Source}
use Rattle.forward_closure.proofs.SaturationLemmas.{firsts_within, met_saturates}
use Rattle.forward_closure.proofs.forward_test.saturates_firsts.Goals as goal

pub returns-then-edge-ge0 : goal.returns-then-edge-ge0
returns-then-edge-ge0 c _ first has high =
    let small = derivable_size c.args.net.now c.requires.partial_closure.plan c.args.edge.now (c.requires.partial_closure.derivable c.args.edge.now c.requires.edge) in
    let test = c.if-edge-ge0.true in
    let from_nought : pos 0 ≤ℤ c.args.edge.now.weight = grind (arith, ints) in
    saturates_no_firsts c.args.table.now c.args.edge.now from_nought first

pub at-firsts-requires : goal.at-firsts-requires
at-firsts-requires c =
    subst (λ (n : ℕ). c.args.edge.now.from.0 < n) (sym c.requires.rows.have_rows.firsts)
    (derivable_is c.args.net.now c.requires.partial_closure.plan c.args.edge.now (c.requires.partial_closure.derivable c.args.edge.now c.requires.edge)).from_point

pub of-requires : goal.of-requires
of-requires c = derivable_size c.args.net.now c.requires.partial_closure.plan c.args.edge.now (c.requires.partial_closure.derivable c.args.edge.now c.requires.edge)

pub are_met-requires-clause-firsts : goal.are_met-requires-clause-firsts
are_met-requires-clause-firsts c =
    subst (All (λ (first : Source). (first.from.0 < length c.args.words.now) × (pos 0 ≤ℤ first.weight))) (sym c.at-firsts.ensures)
    (firsts_within c.args.net.now c.args.table.now c.requires.partial_closure c.args.rows.now c.requires.rows c.args.edge.now.from (length c.args.words.now) c.requires.words.each_point)

pub are_met-requires-clause-negative : goal.are_met-requires-clause-negative
are_met-requires-clause-negative c =
    let small = derivable_size c.args.net.now c.requires.partial_closure.plan c.args.edge.now (c.requires.partial_closure.derivable c.args.edge.now c.requires.edge) in
    let weight : c.of.result.weight ≡ c.args.edge.now.weight = ap (λ (s : Source). s.weight) c.of.ensures in
    let test = c.if-edge-ge0.false in
    grind (arith, ints)

pub returns : goal.returns
returns c said =
    let small = derivable_size c.args.net.now c.requires.partial_closure.plan c.args.edge.now (c.requires.partial_closure.derivable c.args.edge.now c.requires.edge) in
    let weight : c.of.result.weight ≡ c.args.edge.now.weight = ap (λ (s : Source). s.weight) c.of.ensures in
    let narrow : to_z w32 (of_z w32 c.args.edge.now.weight) ≡ c.args.edge.now.weight = omega (arith, ints, small) in
    let kept : to_z w32 (of_z w32 c.of.result.weight) ≡ c.args.edge.now.weight = ap (λ (w : ℤ). to_z w32 (of_z w32 w)) weight ∙ narrow in
    let met : AreMetBy c.at-firsts.result.now c.args.words.now (to_z w32 (of_z w32 c.of.result.weight)) = c.are_met.ensures said in
    met_saturates c.args.net.now c.args.table.now c.requires.partial_closure c.args.rows.now c.requires.rows c.args.edge.now c.requires.edge (let low = c.if-edge-ge0.false in grind (arith, ints)) c.args.words.now c.requires.words
    (subst (λ (sources : List Source). AreMetBy sources c.args.words.now c.args.edge.now.weight) c.at-firsts.ensures (subst (AreMetBy c.at-firsts.result.now c.args.words.now) kept met))
