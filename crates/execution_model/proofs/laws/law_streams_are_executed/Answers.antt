use Rattle.execution_model.proofs.LawLemmas.{law_streams_are_executed}
use Rattle.execution_model.proofs.laws.law_streams_are_executed.Goals as goal

pub returns : goal.returns
returns c = law_streams_are_executed
