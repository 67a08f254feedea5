use Rattle.strategy_model.proofs.LooserLemmas.{law_looser_bounds_keep_control}
use Rattle.strategy_model.proofs.laws.law_looser_bounds_keep_control.Goals as goal

pub returns : goal.returns
returns c = law_looser_bounds_keep_control
