use Rattle.session_command.proofs.SessionEndLemmas.{session_ends}
use Rattle.session_command.proofs.session.SessionCommandSpecified.ends_by_its_causes.Goals as goal

pub returns : goal.returns
returns c = λ form holds input put end runs. session_ends form input put end (holds input put end runs)
