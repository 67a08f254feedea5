use Rattle.execution_model.proofs.SlimFeedLemmas.{law_slim_feeds_are_the_same}
use Rattle.execution_model.proofs.laws.law_slim_feeds_are_the_same.Goals as goal

pub returns : goal.returns
returns c = law_slim_feeds_are_the_same
