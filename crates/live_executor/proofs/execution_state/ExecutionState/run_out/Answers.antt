use Rattle.std.proofs.Common.{◌-◌, ◌∙◌, ap, sym, subst, arith}
use Rattle.std.specs.Prelude.{[], IsSome, find}
use Rattle.std.specs.List.{All}
use Rattle.net_model.specs.Limits.{most_size}
use Rattle.execution_model.specs.Execution.{time_runs}
use Rattle.execution_model.specs.Feeds.{is_open}
use Rattle.execution_model.proofs.MomentLemmas.{length-time_runs}
use Rattle.live_executor.specs.ExecutionStates.{ExecutionSoFar, StandsAt, Runs, points_left}
use Rattle.live_executor.specs.Limits.{end_of_time}
use Rattle.live_executor.specs.Sound.{made_setting}
use Rattle.live_executor.proofs.FirstDueLemmas.{stands_with}
use Rattle.live_executor.proofs.EndLemmas.{closed_have_come}
use Rattle.live_executor.proofs.SameLemmas.{points_same, time_same}
use Rattle.live_executor.proofs.SettleLemmas.{settled}
use Rattle.live_executor.proofs.execution_state.ExecutionState.run_out.Goals as goal

pub run-requires-clause-stands : goal.run-requires-clause-stands
run-requires-clause-stands c =
    subst (λ (state : ExecutionSoFar). StandsAt c.args.dispatched.now c.args.from state) (sym c.begin.ensures) (stands_with c.args.dispatched.now c.args.from c.args.self.now [] [] c.requires.goes_on.stands)

pub run-requires-clause-range : goal.run-requires-clause-range
run-requires-clause-range c = let left = c.requires.goes_on.time_left in omega (arith, left)

pub returns : goal.returns
returns c =
    let network = c.args.dispatched.now in
    let same = c.executes_the_same.ensures in
    let setting = network.setting in
    let goes = c.requires.goes_on in
    let old = c.args.self.now.moments in
    let from = c.args.from in
    let count = end_of_time - from in
    let whole = goes.stands.awake.moments_count in
    let left = goes.time_left in
    let closed = sym (ap (find (is_open (made_setting network) old)) (points_same network same)) in
    let runs = subst (λ (state : ExecutionSoFar). Runs network from end_of_time state c.run.new.self) c.begin.ensures c.run.ensures in
    record {
      runs = runs;
      come = subst (All IsSome) (sym (runs.moments_are ∙ sym (time_same network same old goes.stands.paced from count goes.stands.count)))
          (c.comes_to_its_end.ensures (time_runs setting old from count) (length-time_runs setting old from count whole)
          (closed_have_come setting old from count whole (sym closed ∙ c.requires.closed))
          (settled setting c.points.ensures.sound most_size (omega arith) (omega arith) (points_left old) old from count whole goes.before (omega arith) (omega (arith, left))));
    }
