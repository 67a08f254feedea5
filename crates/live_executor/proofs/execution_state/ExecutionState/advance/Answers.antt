use Rattle.std.proofs.Common.{rules, subst}
use Rattle.live_executor.specs.ExecutionStates.{ExecutionSoFar, Runs}
use Rattle.live_executor.proofs.MomentLemmas.{advances, advances_not}
use Rattle.live_executor.proofs.execution_state.ExecutionState.advance.Goals as goal

pub returns-in_err-settle : goal.returns-in_err-settle
returns-in_err-settle c =
    let network = c.args.dispatched.now in
    let runs = subst (λ (state : ExecutionSoFar). Runs network c.args.from c.args.moment state c.run.new.self) c.begin.ensures c.run.ensures in
    advances_not network c.args.from c.args.moment c.args.listed.now c.args.self.now c.run.new.self c.settle.new.self runs c.in_err-settle.field-0.0 c.from_residual.result (search rules) c.in_err-settle.ensures

pub returns : goal.returns
returns c =
    let network = c.args.dispatched.now in
    let runs = subst (λ (state : ExecutionSoFar). Runs network c.args.from c.args.moment state c.run.new.self) c.begin.ensures c.run.ensures in
    advances network c.args.from c.args.moment c.args.listed.now c.args.self.now c.run.new.self c.settle.new.self runs c.act.new.self c.in_ok-settle.ensures c.act.ensures
