-- One row more.
use Rattle.std.proofs.Common.{List, subst, ◌<◌, sym, arith}
use Rattle.std.proofs.lemmas.List.{take_all}
use Rattle.back_propagation.specs.declared.full_rows.NewRow.{NewRow}
use Rattle.parallel_rounds.specs.LastRounds.{AreListed}
use Rattle.parallel_rounds.proofs.DeltaSteps.{listed_none, listed_more}
use Rattle.parallel_rounds.proofs.last_round.delta_in.Goals as goal

pub loop-row-init : goal.loop-row-init
loop-row-init c = (c.in_ok-delta.ensures.count, listed_none c.args.before.now c.args.rows.now c.in_ok-delta.delta.items c.in_ok-delta.ensures.none)

pub loop-row-preserved : goal.loop-row-preserved
loop-row-preserved c =
    listed_more c.args.before.now c.args.rows.now c.loop-row.row-index c.row-item.result c.args.points c.loop-row.delta.items c.in_ok-delta-2.field-0 c.loop-row-test.true c.row-item.is c.requires.points c.requires.rise
    c.loop-row.invariant.0 c.loop-row.invariant.1 c.in_ok-delta-2.ensures

pub index_mut-requires : goal.index_mut-requires
index_mut-requires c =
    let below : c.row-item.result.target.0 < c.args.points = subst (λ (row : NewRow). row.target.0 < c.args.points) (sym c.row-item.is) (c.requires.points c.loop-row.row-index c.row-item.result c.loop-row-test.true) in
    omega (arith, below, c.loop-row.invariant.0)

pub returns-clause-count : goal.returns-clause-count
returns-clause-count c = c.loop-row.invariant.0

pub returns-clause-delta : goal.returns-clause-delta
returns-clause-delta c = subst (λ (rows : List NewRow). AreListed c.args.before.now rows c.loop-row.delta.items) (take_all c.loop-row.row-index c.args.rows.now c.loop-row-test.false) c.loop-row.invariant.1
