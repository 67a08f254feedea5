use Rattle.live_executor.proofs.FirstDueLemmas.{not_run, stands_at, fewer_left, run_on, run_ends}
use Rattle.live_executor.proofs.execution_state.ExecutionState.run.Goals as goal

pub loop-moment-init : goal.loop-moment-init
loop-moment-init c = not_run c.args.dispatched.now c.executes_the_same.ensures c.args.from c.args.until c.args.self.now c.requires.range c.requires.stands

pub act-requires-clause-stands : goal.act-requires-clause-stands
act-requires-clause-stands c =
    stands_at c.args.dispatched.now c.executes_the_same.ensures c.args.from c.args.until c.args.self.now c.loop-moment.self c.loop-moment.invariant c.in-Some.moment c.in-Some.ensures

pub loop-moment-smaller : goal.loop-moment-smaller
loop-moment-smaller c =
    fewer_left c.args.dispatched.now c.executes_the_same.ensures c.args.from c.args.until c.args.self.now c.loop-moment.self c.loop-moment.invariant c.in-Some.moment c.in-Some.ensures c.act.new.self c.act.ensures

pub loop-moment-preserved : goal.loop-moment-preserved
loop-moment-preserved c =
    run_on c.args.dispatched.now c.executes_the_same.ensures c.args.from c.args.until c.args.self.now c.loop-moment.self c.loop-moment.invariant c.in-Some.moment c.in-Some.ensures c.act.new.self c.act.ensures

pub returns : goal.returns
returns c = run_ends c.args.dispatched.now c.executes_the_same.ensures c.args.from c.args.until c.args.self.now c.loop-moment.self c.loop-moment.invariant c.in_default.ensures
