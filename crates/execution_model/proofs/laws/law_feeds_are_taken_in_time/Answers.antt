use Rattle.execution_model.proofs.TimelyLemmas.{taken_in_time}
use Rattle.execution_model.proofs.laws.law_feeds_are_taken_in_time.Goals as goal

pub returns : goal.returns
returns c = taken_in_time
