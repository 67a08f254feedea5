use Rattle.std.proofs.Common.{◌≡◌, rules}
use Rattle.plan_fleet.specs.declared.states.State.TheVariants as state
use Rattle.fleet_command.proofs.OpenedPlanLemmas.{fault_changes, idle_changes}
use Rattle.fleet_command.proofs.own_lines.FleetAnswerer.end.Goals as goal

pub returns-then-eq-clause-changes : goal.returns-then-eq-clause-changes
returns-then-eq-clause-changes c = λ line is.
    let runs : c.state.result ≡ state.Running = search rules in
    fault_changes c.args.self.now.fleet c.args.place c.args.number line c.refuse_line.new.answer.text c.args.kind c.state.result c.state.ensures is c.end.new.self runs c.refuse_line.ensures.put c.end.ensures

pub returns-else-eq-clause-changes : goal.returns-else-eq-clause-changes
returns-else-eq-clause-changes c = λ line is.
    let never : c.state.result ≡ state.Running → ⊥ = search rules in
    idle_changes c.args.self.now.fleet c.args.place c.args.number line c.put_idle.new.said.text c.args.kind c.state.result c.state.ensures is never c.put_idle.ensures.text
