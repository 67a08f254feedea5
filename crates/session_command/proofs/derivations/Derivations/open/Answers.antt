use Rattle.session_command.proofs.EditingLemmas.{none_followed}
use Rattle.session_command.proofs.derivations.Derivations.open.Goals as goal

pub invariant_of-result : goal.invariant_of-result
invariant_of-result g c = none_followed _ _ _ _ _ c.of-first.ensures c.new.ensures.items c.in_ok-session.ensures.opened
