use Rattle.situation_player.proofs.NumberedLemmas.{law_situations_have_numbers}
use Rattle.situation_player.proofs.laws.law_situations_have_numbers.Goals as goal

pub returns : goal.returns
returns c = law_situations_have_numbers
