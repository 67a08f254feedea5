use Rattle.net_model.proofs.ShownLemmas.{shown_same}
use Rattle.net_model.proofs.laws.law_shown_without_delay_is_same.Goals as goal

pub returns : goal.returns
returns c = shown_same
