use Rattle.strategy_model.proofs.CompareLemmas.{law_plays_agree}
use Rattle.strategy_model.proofs.laws.law_plays_agree.Goals as goal

pub returns : goal.returns
returns c = law_plays_agree
