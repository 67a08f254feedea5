use Rattle.std.proofs.Common.{◌≡◌, ◌≤◌, ◌∙◌, ℤ, pos, List, Option, None, length, map, get_or, ap, sym, subst, arith}
use Rattle.std.proofs.Math.Facts.{to_z-of_z}
use Rattle.std.proofs.Math.ListN.{length-map}
use Rattle.std.proofs.lemmas.Int.{ints}
use mir.Val.{to_z, of_z}
use mir.Syntax.{w32, w64}
use Rattle.labelled_graph.specs.Words.{held, SaturatesHeld}
use Rattle.labelled_graph.proofs.WordLemmas.{held_at, AreMet}
use Rattle.labelled_graph.proofs.dense_row.DenseRow.improves_before.Goals as goal

pub improves_in-requires-clause-lengths : goal.improves_in-requires-clause-lengths
improves_in-requires-clause-lengths c =
    let below = c.if-end-len.false in
    (omega (arith, below, c.len.ensures, c.as_slice.ensures.len), c.if-end-there.false)

pub returns-clause-within : goal.returns-clause-within
returns-clause-within c none =
    let below = c.if-end-len.false in
    omega (arith, below, c.len.ensures, ap length c.self.view_is, length-map c.self.inside.words.items held)

pub returns-clause-saturates : goal.returns-clause-saturates
returns-clause-saturates c none k after below =
    let words : map held c.as_slice.result.now ≡ c.args.self.now = ap (λ (words : List ℤ). map held words) c.as_slice.ensures.value ∙ c.self.view_is in
    let few : c.args.end ≤ length c.as_slice.result.now = (let within = c.if-end-len.false in omega (arith, within, c.len.ensures, c.as_slice.ensures.len)) in
    let small = c.requires.weight in
    let narrow : to_z w32 (of_z w32 c.args.weight) ≡ c.args.weight = omega (arith, ints, small) in
    let kept : to_z w32 (of_z w32 (to_z w64 (of_z w64 c.args.weight))) ≡ c.args.weight = ap (λ (w : ℤ). to_z w32 (of_z w32 w)) (to_z-of_z c.ranges.weight) ∙ narrow in
    subst (λ (row : List (Option ℤ)). SaturatesHeld (get_or row k None) (held (get_or c.args.there.now k (pos 0))) c.args.weight) words
    (subst (λ (o : Option ℤ). SaturatesHeld o (held (get_or c.args.there.now k (pos 0))) c.args.weight) (sym (held_at c.as_slice.result.now k (omega (arith, below, few))))
    (subst (λ (w : ℤ). AreMet c.as_slice.result.now c.args.there.now c.args.from c.args.end w) kept (c.improves_in.ensures none) k after below))
