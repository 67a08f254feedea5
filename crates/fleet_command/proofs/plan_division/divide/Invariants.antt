use Rattle.std.proofs.Common.{◌≡◌}
use Rattle.fleet_command.specs.PlanDivision.{fleet_entries_of, nets_in}
use Rattle.fleet_command.proofs.plan_division.divide.Given as goal

abbrev pub invariant-loop-plan : goal.invariant-loop-plan
invariant-loop-plan l = record {
  entries : l.entries.items ≡ fleet_entries_of 0 l.yielded;
  nets : l.nets.items ≡ nets_in l.yielded;
}
