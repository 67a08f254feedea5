use Rattle.play_command.proofs.ForgeWordLemmas.{forge_exactly}
use Rattle.play_command.proofs.laws.law_forge_is_read_exactly.Goals as goal

pub returns : goal.returns
returns c = forge_exactly
