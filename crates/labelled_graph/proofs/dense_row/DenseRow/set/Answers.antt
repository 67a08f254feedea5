use Rattle.std.proofs.Common.{◌≡◌, ◌∙◌, ℤ, ap, arith}
use Rattle.std.proofs.Math.Facts.{to_z-of_z}
use Rattle.std.proofs.lemmas.Int.{ints}
use mir.Val.{to_z, of_z}
use mir.Syntax.{w32, w64}
use Rattle.labelled_graph.proofs.WordLemmas.{row_with}
use Rattle.labelled_graph.proofs.dense_row.DenseRow.set.Goals as goal

pub returns : goal.returns
returns c =
    let small = c.requires.weight in
    let narrow : to_z w32 (of_z w32 c.args.weight) ≡ c.args.weight = omega (arith, ints, small) in
    let kept : to_z w32 (of_z w32 (to_z w64 (of_z w64 c.args.weight))) ≡ c.args.weight = ap (λ (w : ℤ). to_z w32 (of_z w32 w)) (to_z-of_z c.ranges.weight) ∙ narrow in
    row_with c.self.inside.words.items c.args.self.now c.args.from.0 _ c.args.weight c.self.view_is kept small
