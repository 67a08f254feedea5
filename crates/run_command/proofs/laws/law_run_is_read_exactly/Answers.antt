use Rattle.run_command.proofs.RunWordLemmas.{run_exactly}
use Rattle.run_command.proofs.laws.law_run_is_read_exactly.Goals as goal

pub returns : goal.returns
returns c = run_exactly
