-- How the arguments of a command are found.
use Rattle.std.proofs.Common.{◌≡◌, ℕ, suc, zero, ◌+◌, ◌==◌, Bool, true, false, not, List, [], ◌∷◌, ◌++◌, map, min, Some, None, refl, sym, ap, ap₂, ◌∙◌, find, if◌then◌else◌, ◌||◌, ◌&&◌, true≢false, arith}
use Rattle.std.proofs.Math.Bool.{or-false}
use Rattle.std.proofs.lemmas.List.Folds.{find-append}
use Rattle.std.proofs.lemmas.Option.{slice_get_within}
use Rattle.std.specs.Option.{option_or, is_some, option_map, option_map_or}
use Rattle.std.specs.Prelude.{slice_get}
use Rattle.std.specs.Str.{bytes_eq}
use Rattle.std.proofs.lemmas.Bool.Decides.{nat_tests}
use Rattle.std.proofs.lemmas.Slice.Eq.{bytes_eq-Decides}
use Rattle.clap.specs.Lexer.{usize_max}
use Rattle.clap.specs.Walk.{Rule, Text, arg_by_id, arg_by_long, arg_by_index, has_long}
use Rattle.command_words.specs.Syntax.{Syntax, is_in, is_sound}
use Rattle.command_words.proofs.RuleLemmas.{flag_arg, option_arg, operand_arg, operand_args, rules_for}
use Rattle.command_words.proofs.SoundLemmas.{few_operands, operand_not, slice_in}

-- the argument of a name, among those that are made of names
find_named : (f : Text → Rule) (p : Rule → Bool) (name : Text) → ((n : Text) → p (f n) ≡ bytes_eq n name) → (names : List Text)
    → find p (map f names) ≡ (if is_in name names then Some (f name) else None)
find_named f p name same [] = refl
find_named f p name same (n ∷ names) = by (bytes_eq n name) refl (find_named f p name same names)
  where
    by : (b : Bool) → bytes_eq n name ≡ b → find p (map f names) ≡ (if is_in name names then Some (f name) else None)
        → find p (f n ∷ map f names) ≡ (if b || is_in name names then Some (f name) else None)
    by true e rest = rw (same n, e) (ap (λ m. Some (f m)) ((bytes_eq-Decides n name).0 e))
    by false e rest = rw (same n, e) rest

find_no : (f : Text → Rule) (p : Rule → Bool) → ((n : Text) → p (f n) ≡ false) → (names : List Text) → find p (map f names) ≡ None
find_no f p none [] = refl
find_no f p none (n ∷ names) = rw (none n) (find_no f p none names)

-- no operand has a name with hyphens
operands_no_long : (name : Text) (i : ℕ) (names : List Text) → arg_by_long (operand_args i names) name ≡ None
operands_no_long name i [] = refl
operands_no_long name i (n ∷ names) = operands_no_long name (suc i) names

place_in : (i k t : ℕ) (names : List Text) → t ≡ i + k → arg_by_index (operand_args i names) t ≡ option_map (operand_arg t) (slice_get names k)
place_in i k t [] at = refl
place_in i zero t (n ∷ names) at =
    let is : (i == t) ≡ true = grind (arith, nat_tests) in
    let same : i ≡ t = omega (arith, at) in
    rw is (ap (λ j. Some (operand_arg j n)) same)
place_in i (suc k) t (n ∷ names) at =
    let other : (i == t) ≡ false = grind (arith, nat_tests) in
    rw other (place_in (suc i) k t names (omega (arith, at)))

abbrev Operand : List Rule → Text → Type 0
Operand rules name = (j : ℕ) × (arg_by_id rules name ≡ Some (operand_arg j name))

operand_in : (i : ℕ) (name : Text) (names : List Text) → is_in name names ≡ true → Operand (operand_args i names) name
operand_in i name [] is = absurd (true≢false (sym is))
operand_in i name (n ∷ names) is = by (bytes_eq n name) refl is (operand_in (suc i) name names)
  where
    by : (b : Bool) → bytes_eq n name ≡ b → (b || is_in name names) ≡ true → (is_in name names ≡ true → Operand (operand_args (suc i) names) name)
        → Operand (operand_args i (n ∷ names)) name
    by true e s rest = (i, rw e (ap (λ m. Some (operand_arg i m)) ((bytes_eq-Decides n name).0 e)))
    by false e s rest = ((rest s).0, rw e (rest s).1)

-- what the walk needs to know of the arguments
pub record Finds (command : Syntax) (rules : List Rule) : Type 0 where
  pub by_long : (name : Text) → arg_by_long rules name ≡ (if is_in name command.flags then Some (flag_arg name) else (if is_in name command.options then Some (option_arg name) else None))
  pub option_by_id : (name : Text) → is_in name command.flags ≡ false → is_in name command.options ≡ true → arg_by_id rules name ≡ Some (option_arg name)
  pub by_index : (k : ℕ) → arg_by_index rules (suc k) ≡ option_map (operand_arg (suc k)) (slice_get command.operands k)
  pub operand_by_id : (k : ℕ) (name : Text) → slice_get command.operands k ≡ Some name → Operand rules name
  pub next_place : (k : ℕ) (name : Text) → slice_get command.operands k ≡ Some name → min (suc k + 1) usize_max ≡ suc (suc k)

three : (p : Rule → Bool) (a b c : List Rule) → find p (a ++ (b ++ c)) ≡ option_or (find p a) (option_or (find p b) (find p c))
three p a b c = find-append p a (b ++ c) ∙ ap (option_or (find p a)) (find-append p b c)

long_found : (command : Syntax) (name : Text) → arg_by_long (rules_for command) name ≡ (if is_in name command.flags then Some (flag_arg name) else (if is_in name command.options then Some (option_arg name) else None))
long_found command name =
    let p : Rule → Bool = λ a. not (is_some a.index) && has_long a name in
    three p (map flag_arg command.flags) (map option_arg command.options) (operand_args 1 command.operands)
    ∙ ap₂ option_or (find_named flag_arg p name (λ n. or-false (bytes_eq n name)) command.flags)
    (ap₂ option_or (find_named option_arg p name (λ n. or-false (bytes_eq n name)) command.options) (operands_no_long name 1 command.operands))
    ∙ by (is_in name command.flags) (is_in name command.options)
  where
    by : (f o : Bool) → option_or (if f then Some (flag_arg name) else None) (option_or (if o then Some (option_arg name) else None) None)
        ≡ (if f then Some (flag_arg name) else (if o then Some (option_arg name) else None))
    by true o = refl
    by false true = refl
    by false false = refl

id_found : (command : Syntax) (name : Text) → is_in name command.flags ≡ false
    → arg_by_id (rules_for command) name ≡ option_or (if is_in name command.options then Some (option_arg name) else None) (arg_by_id (operand_args 1 command.operands) name)
id_found command name none =
    let p : Rule → Bool = λ a. bytes_eq a.id name in
    three p (map flag_arg command.flags) (map option_arg command.options) (operand_args 1 command.operands)
    ∙ ap₂ option_or (find_named flag_arg p name (λ n. refl) command.flags ∙ ap (λ b. if b then Some (flag_arg name) else None) none)
    (ap (λ o. option_or o (arg_by_id (operand_args 1 command.operands) name)) (find_named option_arg p name (λ n. refl) command.options))

pub found_rules : (command : Syntax) → is_sound command ≡ true → Finds command (rules_for command)
found_rules command sound = record {
  by_long = long_found command;
  option_by_id = λ name none is. id_found command name none ∙ ap (λ b. option_or (if b then Some (option_arg name) else None) (arg_by_id (operand_args 1 command.operands) name)) is;
  by_index = λ k. three (λ a. option_map_or (λ n. n == suc k) a.index false) (map flag_arg command.flags) (map option_arg command.options) (operand_args 1 command.operands)
      ∙ ap₂ option_or (find_no flag_arg (λ a. option_map_or (λ n. n == suc k) a.index false) (λ n. refl) command.flags)
      (ap₂ option_or (find_no option_arg (λ a. option_map_or (λ n. n == suc k) a.index false) (λ n. refl) command.options) (place_in 1 k (suc k) command.operands (omega arith)));
  operand_by_id = λ k name at.
      let is = slice_in command.operands k name at in
      let apart = operand_not command sound name is in
      let here = operand_in 1 name command.operands is in
      (here.0, id_found command name apart.0 ∙ ap₂ (λ b o. option_or (if b then Some (option_arg name) else None) o) apart.1 here.1);
  next_place = λ k name at. let below = slice_get_within command.operands k name at in let few = few_operands command sound in grind (arith, nat_tests);
}
