use Rattle.command_words.proofs.LawLemmas.{read_exactly}
use Rattle.command_words.proofs.laws.law_arguments_are_those_meant.Goals as goal

pub returns : goal.returns
returns c = read_exactly
