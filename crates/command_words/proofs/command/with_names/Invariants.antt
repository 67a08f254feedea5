use Rattle.std.proofs.Common.{◌≡◌, map, fold, drop}
use Rattle.clap.specs.Words.{app_of, with_rule}
use Rattle.command_words.specs.ClapRules.{clap_rule_for}
use Rattle.command_words.proofs.command.with_names.Given as goal

-- what the names that are left make of the command is what all of them do
abbrev pub invariant-loop-name : goal.invariant-loop-name
invariant-loop-name l =
    fold with_rule (app_of l.command) (map (clap_rule_for l.kind) (map (λ name. name.now) (drop l.name-index l.names))) ≡ fold with_rule (app_of l.initial.command) (map (clap_rule_for l.kind) (map (λ name. name.now) l.names))
