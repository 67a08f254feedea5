use Rattle.std.proofs.Common.{take, ap, ◌∙◌}
use Rattle.std.specs.List.{fold}
use Rattle.std.proofs.lemmas.List.{take_all}
use Rattle.closure_model.specs.Tables.{lowered}
use Rattle.network_closure.proofs.CopyLemmas.{row_key, row_on}
use Rattle.network_closure.proofs.dense_copies.lower_to_row.Goals as goal

pub lower_to-requires-clause-key : goal.lower_to-requires-clause-key
lower_to-requires-clause-key c = row_key c.args.dense.now c.loop-edge.dense (take c.loop-edge.edge-index c.args.row.now) _ c.loop-edge.invariant (c.requires c.loop-edge.edge-index _ c.loop-edge-test.true)

pub lower_to-requires-clause-weight : goal.lower_to-requires-clause-weight
lower_to-requires-clause-weight c = (c.requires c.loop-edge.edge-index _ c.loop-edge-test.true).weight

pub loop-edge-preserved : goal.loop-edge-preserved
loop-edge-preserved c = row_on c.args.dense.now c.loop-edge.dense c.lower_to.new.self c.args.row.now c.loop-edge.edge-index _ c.loop-edge-test.true c.loop-edge.invariant c.lower_to.ensures.lowered

pub returns : goal.returns
returns c = c.loop-edge.invariant ∙ ap (fold lowered c.args.dense.now) (take_all c.loop-edge.edge-index c.args.row.now c.loop-edge-test.false)
