use Rattle.play_command.proofs.ForgeLemmas.{forge_defines_one}
use Rattle.play_command.proofs.forged_network.ForgeNoInput.prints_one.Goals as goal

pub returns : goal.returns
returns c = forge_defines_one c.law_at_most_one_earliest.ensures
