use Rattle.std.proofs.Common.{◌≡◌, ◌++◌, map, drop, option_map}
use Rattle.clap.specs.Words.{first_value, found_of}
use Rattle.command_words.proofs.clap_matches.options_in.Given as goal

abbrev pub invariant-loop-name : goal.invariant-loop-name
invariant-loop-name l = map (λ text. option_map (λ t. t.now) text) l.options.items ++ map (first_value (found_of l.matches)) (map (λ name. name.now) (drop l.name-index l.names)) ≡ map (first_value (found_of l.matches))
    (map (λ name. name.now) l.names)
