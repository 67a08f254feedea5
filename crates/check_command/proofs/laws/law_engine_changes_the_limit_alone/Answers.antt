use Rattle.check_command.proofs.EngineLemmas.{changes_the_limit_alone}
use Rattle.check_command.proofs.laws.law_engine_changes_the_limit_alone.Goals as goal

pub returns : goal.returns
returns c = changes_the_limit_alone
