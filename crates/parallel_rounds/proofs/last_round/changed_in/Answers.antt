-- One row more.
use Rattle.std.proofs.Common.{ap, ◌∙◌}
use Rattle.std.proofs.lemmas.List.{take_all}
use Rattle.parallel_rounds.specs.LastRounds.{changed_in}
use Rattle.parallel_rounds.proofs.DeltaSteps.{changed_more}
use Rattle.parallel_rounds.proofs.last_round.changed_in.Goals as goal

pub loop-row-preserved : goal.loop-row-preserved
loop-row-preserved c = changed_more c.args.rows.now c.loop-row.row-index c.row-item.result c.loop-row.changed.items c.push_changed.new.changed.items c.loop-row-test.true c.row-item.is c.loop-row.invariant c.in_ok-push_changed.ensures

pub returns : goal.returns
returns c = c.loop-row.invariant ∙ ap changed_in (take_all c.loop-row.row-index c.args.rows.now c.loop-row-test.false)
