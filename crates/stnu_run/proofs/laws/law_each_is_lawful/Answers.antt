use Rattle.command_contracts.proofs.ProgramLemmas.{chosen_prints_one, refused_defines_one, requested_program_prints_one}
use Rattle.command_contracts.proofs.StatusLemmas.{chosen_causes, refused_causes, requested_program_causes}
use Rattle.command_contracts.proofs.SameLemmas.{same_self, chosen_same, taken_self, chosen_taken, other_same, without_same}
use Rattle.stnu_run.proofs.laws.law_each_is_lawful.Goals as goal

pub returns : goal.returns
returns c = record {
  prints = λ command words. search (chosen_prints_one, refused_defines_one, requested_program_prints_one) depth 13;
  causes = λ command words. search (chosen_causes, refused_causes, requested_program_causes) depth 13;
  other = λ command prefix spelled others back count number spells other. search (chosen_same, same_self, other_same) depth 13 fits 20000;
  without = λ command prefix spelled back count spells. search (chosen_taken, taken_self, without_same) depth 13 fits 20000;
}
