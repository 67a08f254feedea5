use Rattle.show_command.proofs.ShowWordLemmas.{show_exactly}
use Rattle.show_command.proofs.laws.law_show_is_read_exactly.Goals as goal

pub returns : goal.returns
returns c = show_exactly
