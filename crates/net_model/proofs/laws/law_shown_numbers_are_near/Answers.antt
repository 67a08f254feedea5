use Rattle.net_model.proofs.ShownLemmas.{shown_near}
use Rattle.net_model.proofs.laws.law_shown_numbers_are_near.Goals as goal

pub returns : goal.returns
returns c = shown_near
