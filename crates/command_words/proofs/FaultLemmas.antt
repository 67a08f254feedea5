-- When a parse is refused, and what its matches say.
use Rattle.std.proofs.Common.{◌≡◌, ℕ, suc, Bool, true, false, not, List, [], ◌∷◌, ◌++◌, map, Option, Some, None, refl, sym, ap, ◌∙◌, true≢false, ap₂, if◌then◌else◌, ◌||◌, ◌&&◌}
use Rattle.std.proofs.lemmas.Bool.{and_from}
use Rattle.std.proofs.lemmas.List.Folds.{list_all-append}
use Rattle.std.specs.Prelude.{fold}
use Rattle.std.specs.List.{list_any, list_all}
use Rattle.std.specs.Option.{is_some, option_and_then}
use Rattle.clap.specs.Faults.{fault_of, walk_fault, settle_fault, defaults_fault, check_fault, entered_fault, given_default_fault, level_fault, is_simple_and_free}
use Rattle.clap.specs.Kinds.{Kinds, or_else}
use Rattle.clap.specs.Takes.{is_given as is_explicitly_given}
use Rattle.clap.specs.Simple.{App, built, entered, matches_of, is_simple}
use Rattle.clap.specs.Walk.{walk, Held, Row, Rule, idle, walked, settled, finished, has_row, nothing_held, with_default, is_early_multiple, first_of}
use Rattle.command_words.specs.Syntax.{Text, Syntax, is_sound}
use Rattle.command_words.specs.SpelledWords.{Use}
use Rattle.command_words.specs.ArgumentReading.{uses_from, complete_by}
use Rattle.command_words.specs.ClapRules.{flag_rule, option_rule, operand_rule, app_for, arguments_found}
use Rattle.command_words.proofs.RuleLemmas.{flag_arg, option_arg, text_arg, operand_arg, operand_args, rules_for, raw_rules, with_rules, app_is, rules_are}
use Rattle.command_words.proofs.LookupLemmas.{found_rules}
use Rattle.command_words.proofs.SoundLemmas.{few_operands}
use Rattle.command_words.proofs.RowLemmas.{row_for}
use Rattle.command_words.proofs.DefaultLemmas.{Fits, rows_say}
use Rattle.command_words.proofs.TurnLemmas.{shape, at, outcome}
use Rattle.command_words.proofs.WalkLemmas.{Plain, parse_says, rows_in}

abbrev built_app : List Rule → App
built_app rules = record { top = shape rules; subs = [] }

built_is : (command : Syntax) → is_sound command ≡ true → built (with_rules (raw_rules command)) ≡ built_app (rules_for command)
built_is command sound = ap built_app (rules_are command (few_operands command sound))

-- ---- what holds of each argument

module _ (p : Rule → Bool) where
  every_named : (rule : Text → Rule) → ((n : Text) → p (rule n) ≡ true) → (names : List Text) → list_all p (map rule names) ≡ true
  every_named rule each [] = refl
  every_named rule each (n ∷ names) = rw (each n) (every_named rule each names)

  every_operand : ((i : ℕ) (n : Text) → p (operand_arg i n) ≡ true) → (i : ℕ) (names : List Text) → list_all p (operand_args i names) ≡ true
  every_operand each i [] = refl
  every_operand each i (n ∷ names) = rw (each i n) (every_operand each (suc i) names)

  all_three : (a b c : List Rule) → list_all p a ≡ true → list_all p b ≡ true → list_all p c ≡ true → list_all p (a ++ (b ++ c)) ≡ true
  all_three a b c first second third = list_all-append p a (b ++ c) ∙ and_from _ _ first (list_all-append p b c ∙ and_from _ _ second third)

  every : (command : Syntax) → ((n : Text) → p (flag_arg n) ≡ true) → ((n : Text) → p (option_arg n) ≡ true) → ((i : ℕ) (n : Text) → p (operand_arg i n) ≡ true)
      → list_all p (rules_for command) ≡ true
  every command f o x = all_three _ _ _ (every_named flag_arg f command.flags) (every_named option_arg o command.options) (every_operand x 1 command.operands)

  every_raw : (command : Syntax) → ((n : Text) → p (flag_rule n) ≡ true) → ((n : Text) → p (option_rule n) ≡ true) → ((n : Text) → p (operand_rule n) ≡ true)
      → list_all p (raw_rules command) ≡ true
  every_raw command f o x = all_three _ _ _ (every_named flag_rule f command.flags) (every_named option_rule o command.options) (every_named operand_rule x command.operands)

none_of : (p : Rule → Bool) (rules : List Rule) → list_all (λ r. not (p r)) rules ≡ true → list_any p rules ≡ false
none_of p [] all = refl
none_of p (r ∷ rules) all = by (p r) all (none_of p rules)
  where
    by : (b : Bool) → (not b && list_all (λ r. not (p r)) rules) ≡ true → (list_all (λ r. not (p r)) rules ≡ true → list_any p rules ≡ false) → (b || list_any p rules) ≡ false
    by true a go = absurd (true≢false (sym a))
    by false a go = go a

none_early : (n : ℕ) (command : Syntax) → list_any (is_early_multiple n) (rules_for command) ≡ false
none_early n command = none_of (is_early_multiple n) (rules_for command) (every (λ r. not (is_early_multiple n r)) command (λ m. refl) (λ m. refl) (λ i m. refl))

none_required : (rows : List Row) (command : Syntax) → list_any (λ a. a.required && not (is_explicitly_given a.id rows)) (rules_for command) ≡ false
none_required rows command =
    none_of (λ a. a.required && not (is_explicitly_given a.id rows)) (rules_for command) (every (λ a. not (a.required && not (is_explicitly_given a.id rows))) command (λ m. refl) (λ m. refl) (λ i m. refl))

pub simple : (command : Syntax) → is_sound command ≡ true → is_simple (with_rules (raw_rules command)) ≡ true
simple command sound =
    let raw : list_all (λ a. a.is_simple) (raw_rules command) ≡ true = every_raw (λ a. a.is_simple) command (λ n. refl) (λ n. refl) (λ n. refl) in
    let ready : list_all (λ a. a.is_simple) (rules_for command) ≡ true = every (λ a. a.is_simple) command (λ n. refl) (λ n. refl) (λ i n. refl) in
    rw (raw, rules_are command (few_operands command sound), ready, none_early _ command) refl

pub simple_and_free : (command : Syntax) → is_sound command ≡ true → is_simple_and_free (with_rules (raw_rules command)) ≡ true
simple_and_free command sound =
    let free : list_all (λ a. a.is_free) (rules_for command) ≡ true = every (λ a. a.is_free) command (λ n. refl) (λ n. refl) (λ i n. refl) in
    rw (simple command sound, rules_are command (few_operands command sound), free) refl

-- ---- the faults of a parse

or_left : (a b : Kinds) → or_else a b ≡ [] → a ≡ []
or_left [] b is = refl
or_left (k ∷ ks) b is = is

none_entered : (rules : List Rule) (stop : Option (Text × List Text)) → entered (built_app rules) stop ≡ None
none_entered rules None = refl
none_entered rules (Some p) = refl

none_below : (rules : List Rule) (stop : Option (Text × List Text)) → entered_fault (built_app rules) stop ≡ []
none_below rules None = refl
none_below rules (Some p) = refl

-- the default of a flag is one that its parser takes, and the others have none
abbrev Passes : Rule → Type 0
Passes a = (rows : List Row) (rest : List Rule) → defaults_fault (with_default rows a) rest ≡ [] → defaults_fault rows (a ∷ rest) ≡ []

flag_passes : (name : Text) → Passes (flag_arg name)
unfolding defaults_fault
flag_passes name rows rest pass = by (has_row name rows) pass
  where
    by : (b : Bool) → defaults_fault (with_default rows (flag_arg name)) rest ≡ []
        → or_else (if b || false then [] else given_default_fault (flag_arg name) (flag_arg name).defaults) (defaults_fault (with_default rows (flag_arg name)) rest) ≡ []
    by true p = p
    by false p = p

text_passes : (name : Text) (long : Option Text) (index : Option ℕ) → Passes (text_arg name long index)
unfolding defaults_fault
text_passes name long index rows rest pass = by (has_row name rows) pass
  where
    by : (b : Bool) → defaults_fault (with_default rows (text_arg name long index)) rest ≡ []
        → or_else (if b || true then [] else given_default_fault (text_arg name long index) []) (defaults_fault (with_default rows (text_arg name long index)) rest) ≡ []
    by true p = p
    by false p = p

named_pass : (arg : Text → Rule) → ((name : Text) → Passes (arg name)) → (names : List Text) (rest : List Rule) → ((rows : List Row) → defaults_fault rows rest ≡ [])
    → (rows : List Row) → defaults_fault rows (map arg names ++ rest) ≡ []
named_pass arg one [] rest pass rows = pass rows
named_pass arg one (n ∷ names) rest pass rows = one n rows (map arg names ++ rest) (named_pass arg one names rest pass (with_default rows (arg n)))

operands_pass : (i : ℕ) (names : List Text) (rows : List Row) → defaults_fault rows (operand_args i names) ≡ []
unfolding defaults_fault
operands_pass i [] rows = refl
operands_pass i (n ∷ names) rows = text_passes n None (Some i) rows (operand_args (suc i) names) (operands_pass (suc i) names (with_default rows (operand_arg i n)))

defaults_pass : (command : Syntax) (rows : List Row) → defaults_fault rows (rules_for command) ≡ []
defaults_pass command rows =
    named_pass flag_arg flag_passes command.flags _ (named_pass option_arg (λ n. text_passes n (Some n) None) command.options _ (operands_pass 1 command.operands)) rows

checks_pass : (command : Syntax) (rows : List Row) → check_fault (shape (rules_for command)) rows false ≡ []
checks_pass command rows = rw (none_required rows command) refl

or_nil : (k : Kinds) → or_else k [] ≡ k
or_nil [] = refl
or_nil (k ∷ ks) = refl

module _ (command : Syntax) (sound : is_sound command ≡ true) where
  rules : List Rule
  rules = rules_for command

  end_of : List Text → Held
  end_of words = (fold (walked (rules_for command) []) (at nothing_held idle 1) words).held

  walk_faults : List Text → Kinds
  walk_faults words = walk_fault (shape (rules_for command)) [] (at nothing_held idle 1) words

  end_faults : List Text → Kinds
  end_faults words = settle_fault (rules_for command) false (end_of words)

  abbrev fault_in : App → List Text → Kinds
  fault_in a words = Rattle.clap.specs.Faults.built_fault a nothing_held words

  -- the faults of a parse are those of the walk, and then that of an option without its value at its end
  fault_is : (words : List Text) → fault_of (app_for command) words ≡ or_else (walk_faults words) (end_faults words)
  unfolding walk_faults end_faults end_of
  fault_is words =
      let rs = rules_for command in
      let stop = (walk rs [] nothing_held words).stopped in
      let rows = (settled rs (end_of words)).rows in
      ap (λ a. fault_of a words) (app_is command)
      ∙ ap (λ a. fault_in a words) (built_is command sound)
      ∙ ap₂ (λ e f. level_fault (shape rs) [] nothing_held words (is_some e) f) (none_entered rs stop) (none_below rs stop)
      ∙ ap₂ (λ d c. or_else (walk_faults words) (or_else (end_faults words) (or_else d c))) (defaults_pass command rows) (checks_pass command (finished rs (end_of words)))
      ∙ ap (or_else (walk_faults words)) (or_nil (end_faults words))

  matches_are : (words : List Text) → matches_of (app_for command) words ≡ fold with_default (settled (rules_for command) (end_of words)).rows (rules_for command)
  unfolding end_of
  matches_are words =
      ap (λ a. matches_of a words) (app_is command)
      ∙ ap (λ a. finished a.top.rules (walk a.top.rules [] nothing_held words).held) (built_is command sound)

  both_free : (words : List Text) (a b : Kinds) → walk_faults words ≡ a → end_faults words ≡ b → or_else a b ≡ []
      → outcome (rules_for command) words (at nothing_held idle 1) ≡ Some (settled (rules_for command) (end_of words)).rows
  unfolding walk_faults end_faults end_of
  both_free words [] [] first last is = rw (first, last) refl
  both_free words [] (k ∷ ks) first last is = absurd cc
  both_free words (k ∷ ks) b first last is = absurd cc

  some_fault : (words : List Text) (a b : Kinds) → walk_faults words ≡ a → end_faults words ≡ b → (or_else a b ≡ [] → ⊥) → outcome (rules_for command) words (at nothing_held idle 1) ≡ None
  unfolding walk_faults end_faults end_of
  some_fault words [] [] first last not_so = absurd (not_so refl)
  some_fault words [] (k ∷ ks) first last not_so = rw (first, last) refl
  some_fault words (k ∷ ks) b first last not_so = rw first refl

  -- the uses that are read, if a parse may succeed
  uses_are : (words : List Text) → Plain words → fault_of (app_for command) words ≡ []
      → Some (settled (rules_for command) (end_of words)).rows ≡ rows_in (uses_from command words [])
  uses_are words plain free =
      sym (both_free words (walk_faults words) (end_faults words) refl refl (sym (fault_is words) ∙ free))
      ∙ parse_says command (rules_for command) (found_rules command sound) words plain

  -- if a parse may succeed, its matches say what the words do
  pub matches_say : (words : List Text) → Plain words → ((uses : List Use) → uses_from command words [] ≡ Some uses → Fits command.flags uses) → fault_of (app_for command) words ≡ []
      → arguments_found command (λ name. first_of name (matches_of (app_for command) words)) ≡ option_and_then (complete_by command) (uses_from command words [])
  matches_say words plain fits free = by (uses_from command words []) fits (uses_are words plain free)
    where
      by : (found : Option (List Use)) → ((uses : List Use) → found ≡ Some uses → Fits command.flags uses) → Some (settled (rules_for command) (end_of words)).rows ≡ rows_in found
          → arguments_found command (λ name. first_of name (matches_of (app_for command) words)) ≡ option_and_then (complete_by command) found
      by None f is = absurd cc
      by (Some uses) f is =
          let rows : (settled (rules_for command) (end_of words)).rows ≡ map row_for uses = cc in
          ap (λ rs. arguments_found command (λ name. first_of name rs)) (matches_are words ∙ ap (λ rs. fold with_default rs (rules_for command)) rows)
          ∙ rows_say command sound uses (f uses refl)

  -- if it may be refused, the words say nothing
  pub refusals_say : (words : List Text) → Plain words → (fault_of (app_for command) words ≡ [] → ⊥) → uses_from command words [] ≡ None
  refusals_say words plain faulty = by (uses_from command words []) (sym (some_fault words (walk_faults words) (end_faults words) refl refl (λ is. faulty (fault_is words ∙ is)))
      ∙ parse_says command (rules_for command) (found_rules command sound) words plain)
    where
      by : (found : Option (List Use)) → None ≡ rows_in found → found ≡ None
      by None is = refl
      by (Some uses) is = absurd cc

  -- words that say uses are accepted
  pub accepted : (words : List Text) → Plain words → (uses : List Use) → uses_from command words [] ≡ Some uses → fault_of (app_for command) words ≡ []
  accepted words plain uses is = by (fault_of (app_for command) words) refl
    where
      by : (f : Kinds) → fault_of (app_for command) words ≡ f → f ≡ []
      by [] e = refl
      by (k ∷ ks) e =
          let none = refusals_say words plain (λ free. let bad : ◌≡◌ {A = Kinds} (k ∷ ks) [] = sym e ∙ free in absurd cc) in
          let bad : ◌≡◌ {A = Option (List Use)} (Some uses) None = sym is ∙ none in
          absurd cc
