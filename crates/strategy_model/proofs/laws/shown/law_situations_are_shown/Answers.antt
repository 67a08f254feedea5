use Rattle.strategy_model.proofs.ShownFormLemmas.{law_situations_are_shown}
use Rattle.strategy_model.proofs.laws.shown.law_situations_are_shown.Goals as goal

pub returns : goal.returns
returns c = law_situations_are_shown
