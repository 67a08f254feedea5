use Rattle.execution_model.proofs.ShownStreamLemmas.{law_acts_are_shown}
use Rattle.execution_model.proofs.laws.law_acts_are_shown.Goals as goal

pub returns : goal.returns
returns c = law_acts_are_shown
