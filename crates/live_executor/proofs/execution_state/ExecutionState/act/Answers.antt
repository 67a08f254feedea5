use Rattle.live_executor.proofs.FirstDueLemmas.{none_made, lowest_may_come, one_less_left, one_act_more, acts_made}
use Rattle.live_executor.proofs.execution_state.ExecutionState.act.Goals as goal

pub loop-point-init : goal.loop-point-init
loop-point-init c = none_made c.args.dispatched.now c.args.t c.args.self.now c.requires.stands

pub execute-requires-clause-stands : goal.execute-requires-clause-stands
execute-requires-clause-stands c = c.loop-point.invariant.goes.stands

pub execute-requires-clause-may : goal.execute-requires-clause-may
execute-requires-clause-may c =
    lowest_may_come c.args.dispatched.now c.executes_the_same.ensures c.args.t c.loop-point.self c.loop-point.invariant.goes.stands c.in-Some.point c.in-Some.ensures c.requires.soon

pub loop-point-smaller : goal.loop-point-smaller
loop-point-smaller c =
    one_less_left c.args.dispatched.now c.executes_the_same.ensures c.args.t c.loop-point.self c.loop-point.invariant.goes.stands c.in-Some.point c.in-Some.ensures c.execute.new.self c.execute.ensures

pub loop-point-preserved : goal.loop-point-preserved
loop-point-preserved c =
    one_act_more c.args.dispatched.now c.executes_the_same.ensures c.args.t c.loop-point.self c.loop-point.invariant.goes.stands c.in-Some.point c.in-Some.ensures c.args.self.now c.execute.new.self
    c.loop-point.invariant c.execute.ensures

pub returns : goal.returns
returns c =
    acts_made c.args.dispatched.now c.executes_the_same.ensures c.args.t c.loop-point.self c.loop-point.invariant.goes.stands c.in_default.ensures c.args.self.now c.requires.stands c.loop-point.invariant
