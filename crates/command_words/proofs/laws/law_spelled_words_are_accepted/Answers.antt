use Rattle.command_words.proofs.LawLemmas.{clap_accepts}
use Rattle.command_words.proofs.laws.law_spelled_words_are_accepted.Goals as goal

pub returns : goal.returns
returns c = clap_accepts
