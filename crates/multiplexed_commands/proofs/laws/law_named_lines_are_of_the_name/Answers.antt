use Rattle.multiplexed_commands.proofs.NamedLineLemmas.{of_own_name}
use Rattle.multiplexed_commands.proofs.laws.law_named_lines_are_of_the_name.Goals as goal

pub returns : goal.returns
returns c = of_own_name
