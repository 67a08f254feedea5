use Rattle.std.proofs.Common.{◌≡◌, ◌≤◌, ◌∙◌, List, ℤ, length, map, ap, subst, arith}
use Rattle.std.proofs.Math.Facts.{to_z-of_z}
use Rattle.std.proofs.lemmas.Int.{ints}
use mir.Val.{to_z, of_z}
use mir.Syntax.{w32, w64}
use Rattle.std.proofs.Math.ListN.{length-map}
use Rattle.labelled_graph.specs.Words.{held}
use Rattle.labelled_graph.proofs.WordLemmas.{row_meets, AreMet}
use Rattle.labelled_graph.proofs.dense_row.DenseRow.improves_in.Goals as goal

pub returns : goal.returns
returns c none =
    let one : map held c.as_slice.result.now ≡ c.args.self.now = ap (λ (words : List ℤ). map held words) c.as_slice.ensures.value ∙ c.self.view_is in
    let two : map held c.as_slice-2.result.now ≡ c.args.there.now = ap (λ (words : List ℤ). map held words) c.as_slice-2.ensures.value ∙ c.there.view_is in
    let few : c.args.end ≤ length c.as_slice.result.now = omega (arith, c.requires.lengths.0, ap length one, length-map c.as_slice.result.now held) in
    let fewer : c.args.end ≤ length c.as_slice-2.result.now = omega (arith, c.requires.lengths.1, ap length two, length-map c.as_slice-2.result.now held) in
    let small = c.requires.weight in
    let narrow : to_z w32 (of_z w32 c.args.weight) ≡ c.args.weight = omega (arith, ints, small) in
    let kept : to_z w32 (of_z w32 (to_z w64 (of_z w64 c.args.weight))) ≡ c.args.weight = ap (λ (w : ℤ). to_z w32 (of_z w32 w)) (to_z-of_z c.ranges.weight) ∙ narrow in
    row_meets c.as_slice.result.now c.as_slice-2.result.now c.args.self.now c.args.there.now c.args.from c.args.end c.args.weight one two few fewer
    (subst (λ (w : ℤ). AreMet c.as_slice.result.now c.as_slice-2.result.now c.args.from c.args.end w) kept (c.improves_in.ensures none))
