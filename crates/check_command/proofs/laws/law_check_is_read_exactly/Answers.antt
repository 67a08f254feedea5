use Rattle.check_command.proofs.CheckWordLemmas.{check_exactly}
use Rattle.check_command.proofs.laws.law_check_is_read_exactly.Goals as goal

pub returns : goal.returns
returns c = check_exactly
