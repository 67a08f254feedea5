use Rattle.multiplexed_commands.proofs.NamedLineLemmas.{words_after_first}
use Rattle.multiplexed_commands.proofs.laws.law_other_words_stand_after_the_first.Goals as goal

pub returns : goal.returns
returns c = words_after_first
