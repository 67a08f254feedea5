use Rattle.strategy_model.proofs.ShownPlayLemmas.{law_plays_are_shown}
use Rattle.strategy_model.proofs.laws.shown.law_plays_are_shown.Goals as goal

pub returns : goal.returns
returns c = law_plays_are_shown
