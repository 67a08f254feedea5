-- Whatever the words are, their program is lawful if that of each command is.
use Rattle.std.proofs.Common.{ℕ, List, Option, Some, None}
use Rattle.command_contracts.specs.Programs.{DefinesOne, PrintsOne, RunsEndByCause}
use Rattle.stnu_run.specs.DefinedRuns.{program_named, program_for, program_of, command_of}
use Rattle.command_contracts.proofs.ProgramLemmas.{refused_defines_one}
use Rattle.command_contracts.proofs.StatusLemmas.{refused_causes}

named_defines_one : ((command : List ℕ) (words : List (List ℕ)) → DefinesOne (program_named command words)) → (named : Option (List ℕ × List (List ℕ))) → DefinesOne (program_for named)
named_defines_one each (Some (command, words)) = each command words
named_defines_one each None = refused_defines_one

pub words_define_one : ((command : List ℕ) (words : List (List ℕ)) → DefinesOne (program_named command words)) → (words : List (List ℕ)) → DefinesOne (program_of words)
words_define_one each words = named_defines_one each (command_of words)

named_prints_one : ((command : List ℕ) (words : List (List ℕ)) → PrintsOne (program_named command words)) → (named : Option (List ℕ × List (List ℕ))) → PrintsOne (program_for named)
named_prints_one each (Some (command, words)) = each command words
named_prints_one each None = refused_defines_one

pub words_print_one : ((command : List ℕ) (words : List (List ℕ)) → PrintsOne (program_named command words)) → (words : List (List ℕ)) → PrintsOne (program_of words)
words_print_one each words = named_prints_one each (command_of words)

named_causes : ((command : List ℕ) (words : List (List ℕ)) → RunsEndByCause (program_named command words)) → (named : Option (List ℕ × List (List ℕ))) → RunsEndByCause (program_for named)
named_causes each (Some (command, words)) = each command words
named_causes each None = refused_causes

pub words_causes : ((command : List ℕ) (words : List (List ℕ)) → RunsEndByCause (program_named command words)) → (words : List (List ℕ)) → RunsEndByCause (program_of words)
words_causes each words = named_causes each (command_of words)
