use Rattle.std.specs.List.{AllZip}
use Rattle.plan_fleet.specs.FleetStart.{OpensDecided}
use Rattle.plan_fleet.proofs.fleet_start.gather.Given as goal

abbrev pub invariant-loop-one : goal.invariant-loop-one
invariant-loop-one l = AllZip OpensDecided l.yielded l.members.items
