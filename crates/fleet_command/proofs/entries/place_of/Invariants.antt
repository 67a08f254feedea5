use Rattle.fleet_command.specs.FleetStands.{HaveNone}
use Rattle.fleet_command.proofs.entries.place_of.Given as goal

abbrev pub invariant-loop-place : goal.invariant-loop-place
invariant-loop-place l = HaveNone l.entries l.name l.place
