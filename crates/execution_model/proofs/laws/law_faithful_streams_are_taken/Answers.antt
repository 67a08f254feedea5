use Rattle.execution_model.proofs.LawLemmas.{law_faithful_streams_are_taken}
use Rattle.execution_model.proofs.laws.law_faithful_streams_are_taken.Goals as goal

pub returns : goal.returns
returns c = law_faithful_streams_are_taken
