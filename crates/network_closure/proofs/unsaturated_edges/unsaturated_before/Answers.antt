use Rattle.std.proofs.Common.{◌≡◌, pos, ◌≤ℤ◌, length, get_or, Bool, List, false, refl, ap, sym, ◌∙◌, inl, inr, arith}
use Rattle.std.proofs.lemmas.Int.{ints}
use Rattle.network_closure.proofs.ConsequenceLemmas.{saturates_no_firsts, from_point}
use Rattle.network_closure.proofs.RowTestLemmas.{both_hold}
use Rattle.network_closure.proofs.unsaturated_edges.unsaturated_before.Goals as goal

pub returns-then-edge-ge0-clause-saturates : goal.returns-then-edge-ge0-clause-saturates
returns-then-edge-ge0-clause-saturates c =
    let high : pos 0 ≤ℤ c.args.edge.now.weight = (let no_less = c.if-edge-ge0.true in grind (arith, ints)) in
    inl (λ first before. saturates_no_firsts c.args.table.now c.args.edge.now high first)

pub is_covered-requires : goal.is_covered-requires
is_covered-requires c =
    let long : length c.as_slice.result.now ≡ length c.args.net.now.points = ap (λ (l : List Bool). length l) c.as_slice.ensures.value ∙ c.requires.covered.each_point in
    let inside = from_point c.args.net.now c.args.table.now c.requires.partial_closure c.args.edge.now c.requires.edge in
    omega (arith, long, inside)

pub returns-then-is_covered-clause-saturates : goal.returns-then-is_covered-clause-saturates
returns-then-is_covered-clause-saturates c =
    let (ordered, marked) = both_hold c.args.is_order (get_or c.as_slice.result.now c.args.edge.now.from.0 false) (sym c.is_covered.ensures ∙ c.if-is_covered.true) in
    inr (ordered, c.requires.covered.goes_by c.args.edge.now.from.0 (ap (λ (l : List Bool). get_or l c.args.edge.now.from.0 false) (sym c.as_slice.ensures.value) ∙ marked) c.args.edge.now c.requires.edge refl refl refl)
