use Rattle.strong_command.proofs.StrongAnswerLemmas.{strong_exactly}
use Rattle.strong_command.proofs.laws.law_strong_is_read_exactly.Goals as goal

pub returns : goal.returns
returns c = strong_exactly
