-- The arguments of a command as `clap` builds them, and how they are found.
use Rattle.std.proofs.Common.{◌≡◌, ℕ, suc, ◌+◌, ◌<◌, List, [], ◌∷◌, ◌++◌, map, length, min, Option, Some, None, refl, sym, ap, ◌∙◌, arith, append-nil, append_assoc}
use Rattle.std.specs.Prelude.{fold}
use Rattle.std.proofs.lemmas.Bool.Decides.{nat_tests}
use Rattle.clap.specs.Lexer.{usize_max}
use Rattle.clap.specs.Walk.{Rule, Text}
use Rattle.clap.specs.Simple.{App, filled, filled_from, with_index, with_rule, on_top}
use Rattle.command_words.specs.Syntax.{Syntax}
use Rattle.command_words.specs.ClapRules.{flag_rule, option_rule, operand_rule, bare_app, app_for}

abbrev pub flag_arg : Text → Rule
flag_arg name = with_index 1 (filled (flag_rule name))

-- an argument with one text
abbrev pub text_arg : Text → Option Text → Option ℕ → Rule
text_arg name long index = record (with_index 1 (filled (option_rule name))) { long = long; index = index }

abbrev pub option_arg : Text → Rule
option_arg name = text_arg name (Some name) None

abbrev pub operand_arg : ℕ → Text → Rule
operand_arg index name = text_arg name None (Some index)

abbrev pub operand_args : ℕ → List Text → List Rule
operand_args i [] = []
operand_args i (name ∷ names) = operand_arg i name ∷ operand_args (suc i) names

abbrev pub rules_for : Syntax → List Rule
rules_for command = map flag_arg command.flags ++ (map option_arg command.options ++ operand_args 1 command.operands)

-- what building makes of arguments with a long name, which have no place
named_filled : (rule arg : Text → Rule) → ((name : Text) (rest : List Rule) → filled_from 1 (rule name ∷ rest) ≡ arg name ∷ filled_from 1 rest) → (names : List Text) (rest : List Rule)
    → filled_from 1 (map rule names ++ rest) ≡ map arg names ++ filled_from 1 rest
named_filled rule arg one [] rest = refl
named_filled rule arg one (name ∷ names) rest = one name (map rule names ++ rest) ∙ ap (λ rs. arg name ∷ rs) (named_filled rule arg one names rest)

operands_filled : (i : ℕ) (names : List Text) → i + length names < usize_max → filled_from i (map operand_rule names) ≡ operand_args i names
operands_filled i [] few = refl
operands_filled i (name ∷ names) few =
    let next : min (i + 1) usize_max ≡ suc i = grind (arith, nat_tests) in
    ap (λ rs. operand_arg i name ∷ rs) (ap (λ n. filled_from n (map operand_rule names)) next ∙ operands_filled (suc i) names (omega arith))

abbrev pub with_rules : List Rule → App
with_rules rules = on_top (λ s. record s { rules = rules }) bare_app

fold_rules : (rules more : List Rule) → fold with_rule (with_rules rules) more ≡ with_rules (rules ++ more)
fold_rules rules [] = ap with_rules (sym (append-nil rules))
fold_rules rules (r ∷ more) = fold_rules (rules ++ r ∷ []) more ∙ ap with_rules (append_assoc rules (r ∷ []) more)

abbrev pub raw_rules : Syntax → List Rule
raw_rules command = map flag_rule command.flags ++ (map option_rule command.options ++ map operand_rule command.operands)

pub app_is : (command : Syntax) → app_for command ≡ with_rules (raw_rules command)
app_is command =
    let fs = map flag_rule command.flags in
    let os = map option_rule command.options in
    let xs = map operand_rule command.operands in
    ap (λ a. fold with_rule (fold with_rule a os) xs) (fold_rules [] fs)
    ∙ ap (λ a. fold with_rule a xs) (fold_rules fs os)
    ∙ fold_rules (fs ++ os) xs ∙ ap with_rules (append_assoc fs os xs)

pub rules_are : (command : Syntax) → length command.operands < 10 → filled_from 1 (raw_rules command) ≡ rules_for command
rules_are command few =
    named_filled flag_rule flag_arg (λ n r. refl) command.flags _
    ∙ ap (λ rs. map flag_arg command.flags ++ rs) (named_filled option_rule option_arg (λ n r. refl) command.options _
    ∙ ap (λ rs. map option_arg command.options ++ rs) (operands_filled 1 command.operands (omega (arith, few))))
