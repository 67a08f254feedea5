use Rattle.play_command.proofs.PlayWordLemmas.{play_exactly}
use Rattle.play_command.proofs.laws.law_play_is_read_exactly.Goals as goal

pub returns : goal.returns
returns c = play_exactly
