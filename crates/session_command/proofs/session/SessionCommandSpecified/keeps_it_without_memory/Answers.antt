use Rattle.session_command.proofs.SessionLemmas.{session_wants}
use Rattle.session_command.proofs.session.SessionCommandSpecified.keeps_it_without_memory.Goals as goal

pub returns : goal.returns
returns c = session_wants
