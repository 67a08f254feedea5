use Rattle.command_contracts.proofs.ProgramLemmas.{chosen_defines_one, refused_defines_one, requested_program_defines_one}
use Rattle.stnu_run.proofs.laws.law_each_defines_one.Goals as goal

pub returns : goal.returns
returns c = λ command words. search (chosen_defines_one, refused_defines_one, requested_program_defines_one) depth 13
