use Rattle.fleet_command.proofs.WordLemmas.{fleet_exactly}
use Rattle.fleet_command.proofs.laws.law_fleet_is_read_exactly.Goals as goal

pub returns : goal.returns
returns c = fleet_exactly
