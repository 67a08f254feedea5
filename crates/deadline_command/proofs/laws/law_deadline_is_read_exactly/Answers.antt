use Rattle.deadline_command.proofs.DeadlineWordLemmas.{deadline_exactly}
use Rattle.deadline_command.proofs.laws.law_deadline_is_read_exactly.Goals as goal

pub returns : goal.returns
returns c = deadline_exactly
