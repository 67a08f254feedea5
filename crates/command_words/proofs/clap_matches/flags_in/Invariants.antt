use Rattle.std.proofs.Common.{◌≡◌, ◌++◌, map, drop}
use Rattle.clap.specs.Words.{first_value, found_of}
use Rattle.command_words.specs.ClapRules.{is_true}
use Rattle.command_words.proofs.clap_matches.flags_in.Given as goal

abbrev pub invariant-loop-name : goal.invariant-loop-name
invariant-loop-name l = l.flags.items ++ map (λ name. is_true (first_value (found_of l.matches) name)) (map (λ name. name.now) (drop l.name-index l.names)) ≡ map (λ name. is_true (first_value (found_of l.matches) name))
    (map (λ name. name.now) l.names)
