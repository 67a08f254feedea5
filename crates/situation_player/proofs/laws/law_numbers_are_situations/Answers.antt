use Rattle.situation_player.proofs.NumberedLemmas.{law_numbers_are_situations}
use Rattle.situation_player.proofs.laws.law_numbers_are_situations.Goals as goal

pub returns : goal.returns
returns c = law_numbers_are_situations
