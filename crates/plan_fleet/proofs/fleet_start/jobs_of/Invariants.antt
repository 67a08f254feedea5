use Rattle.std.proofs.Common.{◌≡◌, length}
use Rattle.plan_fleet.specs.FleetStart.{AreNumbered, nets_of, nets_given}
use Rattle.plan_fleet.proofs.fleet_start.jobs_of.Given as goal

abbrev pub invariant-loop-plan : goal.invariant-loop-plan
invariant-loop-plan l = record {
  nets : nets_of l.jobs.items ≡ nets_given l.yielded;
  places : AreNumbered l.jobs.items;
  count : length l.jobs.items ≡ length l.yielded;
}
