-- If no word of the column improves, all is saturated.
use Rattle.std.proofs.Common.{◌≡◌, length, get_or, pos, ap, arith}
use Rattle.net_model.specs.declared.ids.PointId.{PointId}
use Rattle.net_model.proofs.NetworkLemmas.{greatest-le}
use Rattle.closure_model.specs.Keys.{Shape, edge_of, ordinary_key}
use Rattle.closure_model.specs.Tables.{weight_of}
use Rattle.labelled_graph.specs.Words.{held, AllFitWords, SaturatesHeld}
use Rattle.back_propagation.proofs.BlockSteps.{column_place, column_saturated, part_more}
use Rattle.back_propagation.proofs.open_row.OpenRow.may_improve.Goals as goal

pub words-words-requires : goal.words-words-requires
words-words-requires c = column_place c.args.basis.net.now c.args.basis.table.now c.args.edge.now.to c.args.self.now.slots c.args.self.now.width c.requires.row.slots c.args.edge.now c.args.column c.requires.row.of_row

pub improves_before-requires-clause-begins : goal.improves_before-requires-clause-begins
improves_before-requires-clause-begins c = c.requires.row.of_row.key.from_point

pub improves_before-requires-clause-weight : goal.improves_before-requires-clause-weight
improves_before-requires-clause-weight c =
    let within = c.requires.row.of_row.within in
    let small = greatest-le c.args.basis.net.now c.requires.row.slots.plan in
    omega (arith, within, small)

pub loop-at-preserved : goal.loop-at-preserved
loop-at-preserved c =
    let fit : AllFitWords c.args.basis.table.now = λ key weight has. (let within = c.requires.row.slots.within (edge_of key weight) has in let small = greatest-le c.args.basis.net.now c.requires.row.slots.plan in
    omega (arith, within, small)) in (
      c.part_end-end.ensures.within,
      part_more (λ (first : PointId). SaturatesHeld (weight_of c.args.basis.table.now (ordinary_key first c.args.edge.now.from)) (held (get_or c.words-words.result.now first.0 (pos 0))) c.args.edge.now.weight) c.loop-at.at
          c.part_end-end.result c.loop-at.invariant.1
          (λ first from end. c.improves_before.ensures fit c.if-improves_before.false first from end),
    )

pub returns : goal.returns
returns c = λ none.
    let many : c.args.basis.table.now.shape.points ≡ length c.args.basis.net.now.points = ap (λ (s : Shape). s.points) c.requires.row.slots.fits in
    let names = ap length c.points-points.ensures.points in
    let past = c.loop-at-test.false in
    column_saturated c.args.basis.net.now c.args.basis.table.now c.args.edge.now.to c.args.self.now.slots c.args.self.now.width c.args.edge.now c.args.column c.words-words.result.now c.requires.row.slots c.requires.row.of_row
    c.words-words.ensures
    (λ first inside. c.loop-at.invariant.1 first (omega (arith, inside, many, names, past)))
