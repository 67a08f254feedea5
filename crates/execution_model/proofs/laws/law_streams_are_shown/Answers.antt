use Rattle.execution_model.proofs.ShownStreamLemmas.{law_streams_are_shown}
use Rattle.execution_model.proofs.laws.law_streams_are_shown.Goals as goal

pub returns : goal.returns
returns c = law_streams_are_shown
