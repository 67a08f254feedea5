-- The command that `clap` gets for a syntax, in the words of its own contracts, and what is taken from its matches.
use Rattle.std.specs.Prelude.{Bool, true, false, List, [], map, Option, Some, codes, fold}
use Rattle.std.specs.Option.{option_map, option_map_or}
use Rattle.std.specs.Str.{bytes_eq}
use Rattle.clap.specs.Words.{App, Rule, new_app, new_rule, with_rule}
use Rattle.clap.specs.Simple.{on_top}
use Rattle.clap.specs.declared.builder.action.ArgAction.TheVariants.{Set, SetTrue}
use Rattle.command_words.specs.declared.command.Kind.{Kind}
use Rattle.command_words.specs.declared.command.Kind.TheVariants as Kinds
use Rattle.command_words.specs.declared.command.Kind.TheVariants.{Flag, Operand}
use Rattle.command_words.specs.Syntax.{Syntax, Text}
use Rattle.command_words.specs.Arguments.{Arguments}
use Rattle.command_words.specs.ArgumentReading.{all_texts}

-- what `clap` gets for a flag
abbrev pub flag_rule : Text → Rule
flag_rule name = record (new_rule name) { long = Some name; action = Some SetTrue }

-- what `clap` gets for an option with a value
abbrev pub option_rule : Text → Rule
option_rule name = record (new_rule name) { long = Some name; action = Some Set }

-- what `clap` gets for an operand
abbrev pub operand_rule : Text → Rule
operand_rule name = record (new_rule name) { action = Some Set }

-- what `clap` gets for a name of this kind
abbrev pub clap_rule_for : Kind → Text → Rule
clap_rule_for Flag name = flag_rule name
clap_rule_for Kinds.Option name = option_rule name
clap_rule_for Operand name = operand_rule name

-- a command without arguments, that answers neither for help nor for a version
abbrev pub bare_app : App
bare_app = on_top (λ s. record s { no_binary_name = true; disable_help_flag = true; disable_version_flag = true }) (new_app [])

-- an argument more for each of these names
abbrev pub with_named : Kind → List Text → App → App
with_named kind names app = fold with_rule app (map (clap_rule_for kind) names)

-- the command of these names
abbrev pub app_with : (flags options operands : List Text) → App
app_with flags options operands = with_named Operand operands (with_named Kinds.Option options (with_named Flag flags bare_app))

-- the command that `clap` gets for a syntax
abbrev pub app_for : Syntax → App
app_for command = app_with command.flags command.options command.operands

-- what `clap` answers of a flag that is given
abbrev pub is_true : Option Text → Bool
is_true found = option_map_or (λ text. bytes_eq text (codes "true")) found false

-- the arguments by the text that is found for each name, if each operand has one
abbrev pub arguments_found : Syntax → (Text → Option Text) → Option Arguments
arguments_found command text_at = option_map
    (λ texts. record { flags = map (λ name. is_true (text_at name)) command.flags; options = map text_at command.options; operands = texts })
    (all_texts (map text_at command.operands))
