use Rattle.command_contracts.proofs.FormWordLemmas.{form_exactly}
use Rattle.session_command.proofs.laws.law_session_is_read_exactly.Goals as goal

pub returns : goal.returns
returns c = form_exactly
