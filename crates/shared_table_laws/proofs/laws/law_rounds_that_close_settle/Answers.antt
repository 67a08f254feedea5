use Rattle.shared_table_laws.proofs.SettledRounds.{law_rounds_that_close_settle}
use Rattle.shared_table_laws.proofs.laws.law_rounds_that_close_settle.Goals as goal

pub returns : goal.returns
returns c = law_rounds_that_close_settle
