use Rattle.fleet_command.proofs.HeaderLemmas.{header_by}
use Rattle.fleet_command.proofs.header.FleetHeaderInGrammar.reads_by_grammar.Goals as goal

pub returns : goal.returns
returns c = header_by
