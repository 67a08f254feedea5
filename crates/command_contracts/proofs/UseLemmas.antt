-- What uses give if one more option is given among them.
use Rattle.std.proofs.Common.{◌≡◌, Bool, true, false, not, List, [], ◌∷◌, ◌++◌, map, Some, None, refl, sym, ap, ◌∙◌, ◌||◌, find, append_assoc}
use Rattle.std.specs.Option.{option_and_then}
use Rattle.std.specs.Str.{bytes_eq}
use Rattle.std.proofs.lemmas.Bool.{and_parts, or_parts, not-true}
use Rattle.command_words.specs.Arguments.{is_given, text_given, operand_texts}
use Rattle.command_words.specs.SpelledWords.{Use, flag, valued, operand, name_of, text_of, Spells, SpellsAll, IsOf, AreOf, operand_names, Says}
use Rattle.command_words.specs.Syntax.{Syntax, Text, are_apart, is_in}
use Rattle.command_words.proofs.SoundLemmas.{bytes_same, bytes_apart, in_append}

-- ---- names

names_joined : (before : List Use) (u : Use) (after : List Use) → map name_of (before ++ u ∷ after) ≡ map name_of before ++ name_of u ∷ map name_of after
names_joined [] u after = refl
names_joined (v ∷ before) u after = ap (λ (l : List Text). name_of v ∷ l) (names_joined before u after)

names_both : (before after : List Use) → map name_of (before ++ after) ≡ map name_of before ++ map name_of after
names_both [] after = refl
names_both (v ∷ before) after = ap (λ (l : List Text). name_of v ∷ l) (names_both before after)

given_named : (name : Text) (uses : List Use) → is_given name uses ≡ is_in name (map name_of uses)
given_named name [] = refl
given_named name (u ∷ uses) = ap (λ b. bytes_eq (name_of u) name || b) (given_named name uses)

-- names that are apart are so without one of them, and it is none of the others
apart_without : (before : List Text) (name : Text) (after : List Text) → are_apart (before ++ name ∷ after) ≡ true → (are_apart (before ++ after) ≡ true) × (is_in name (before ++ after) ≡ false)
apart_without [] name after apart =
    let both = and_parts (not (is_in name after)) (are_apart after) apart in
    (both.1, not-true _ both.0)
apart_without (n ∷ before) name after apart =
    let both = and_parts (not (is_in n (before ++ name ∷ after))) (are_apart (before ++ name ∷ after)) apart in
    let rest = apart_without before name after both.1 in
    let absent : is_in n (before ++ name ∷ after) ≡ false = not-true _ both.0 in
    let parts = or_parts (is_in n before) (is_in n (name ∷ after)) (sym (in_append n before (name ∷ after)) ∙ absent) in
    let later = or_parts (bytes_eq name n) (is_in n after) parts.1 in
    let not_there : is_in n (before ++ after) ≡ false = in_append n before after ∙ rw (parts.0, later.1) refl in
    (rw (not_there, rest.0) refl, rw (bytes_apart name n later.0, rest.1) refl)

-- ---- what is given

module _ (u : Use) (name : Text) (other : bytes_eq (name_of u) name ≡ false) where
  pub given_without : (before after : List Use) → is_given name (before ++ u ∷ after) ≡ is_given name (before ++ after)
  given_without [] after = rw other refl
  given_without (v ∷ before) after = ap (λ b. bytes_eq (name_of v) name || b) (given_without before after)

  found_without : (before after : List Use) → find (λ v. bytes_eq (name_of v) name) (before ++ u ∷ after) ≡ find (λ v. bytes_eq (name_of v) name) (before ++ after)
  found_without [] after = rw other refl
  found_without (v ∷ before) after = by (bytes_eq (name_of v) name) refl (found_without before after)
    where
      by : (b : Bool) → bytes_eq (name_of v) name ≡ b → find (λ w. bytes_eq (name_of w) name) (before ++ u ∷ after) ≡ find (λ w. bytes_eq (name_of w) name) (before ++ after)
          → find (λ w. bytes_eq (name_of w) name) (v ∷ (before ++ u ∷ after)) ≡ find (λ w. bytes_eq (name_of w) name) (v ∷ (before ++ after))
      by true is rest = rw is refl
      by false is rest = rw is rest

  pub text_without : (before after : List Use) → text_given name (before ++ u ∷ after) ≡ text_given name (before ++ after)
  text_without before after = ap (option_and_then text_of) (found_without before after)

pub text_absent : (name : Text) (uses : List Use) → is_given name uses ≡ false → text_given name uses ≡ None
text_absent name [] none = refl
text_absent name (u ∷ uses) none =
    let parts = or_parts (bytes_eq (name_of u) name) (is_given name uses) none in
    rw parts.0 (text_absent name uses parts.1)

pub text_there : (name text : Text) (before after : List Use) → is_given name (before ++ after) ≡ false → text_given name (before ++ valued name text ∷ after) ≡ Some text
text_there name text [] after none = rw (bytes_same name) refl
text_there name text (v ∷ before) after none =
    let parts = or_parts (bytes_eq (name_of v) name) (is_given name (before ++ after)) none in
    rw parts.0 (text_there name text before after parts.1)

pub operands_without : (name text : Text) (before after : List Use) → operand_texts (before ++ valued name text ∷ after) ≡ operand_texts (before ++ after)
operands_without name text [] after = refl
operands_without name text (flag n ∷ before) after = operands_without name text before after
operands_without name text (valued n t ∷ before) after = operands_without name text before after
operands_without name text (operand n t ∷ before) after = ap (λ (l : List Text). t ∷ l) (operands_without name text before after)

-- ---- what the words say

spells_joined : (before after : List Use) (prefix back : List Text) → SpellsAll before prefix → SpellsAll after back → SpellsAll (before ++ after) (prefix ++ back)
spells_joined [] after prefix back spells others = rw spells others
spells_joined (u ∷ before) after prefix back (first, rest, same, spells, more) others =
    (first, rest ++ back, ap (λ (l : List Text). l ++ back) same ∙ append_assoc first rest back, spells, spells_joined before after rest back more others)

known_without : (command : Syntax) (before : List Use) (u : Use) (after : List Use) → AreOf command (before ++ u ∷ after) → IsOf command u × AreOf command (before ++ after)
known_without command [] u after known = known
known_without command (v ∷ before) u after known = let rest = known_without command before u after known.1 in (rest.0, (known.0, rest.1))

known_with : (command : Syntax) (before : List Use) (u : Use) (after : List Use) → IsOf command u → AreOf command (before ++ after) → AreOf command (before ++ u ∷ after)
known_with command [] u after one known = (one, known)
known_with command (v ∷ before) u after one known = (known.0, known_with command before u after one known.1)

names_without : (name text : Text) (before after : List Use) → operand_names (before ++ valued name text ∷ after) ≡ operand_names (before ++ after)
names_without name text [] after = refl
names_without name text (flag n ∷ before) after = names_without name text before after
names_without name text (valued n t ∷ before) after = names_without name text before after
names_without name text (operand n t ∷ before) after = ap (λ (l : List Text). n ∷ l) (names_without name text before after)

module _ (command : Syntax) (name text : Text) (before after : List Use) (words : List Text) (says : Says command words (before ++ valued name text ∷ after)) where
  apart : are_apart (map name_of before ++ name ∷ map name_of after) ≡ true
  apart = sym (ap are_apart (names_joined before (valued name text) after)) ∙ says.once

  -- the option is given by that use alone
  pub alone : is_given name (before ++ after) ≡ false
  alone = given_named name (before ++ after) ∙ (ap (is_in name) (names_both before after) ∙ (apart_without (map name_of before) name (map name_of after) apart).1)

  -- the words without it say the others
  pub says_without : (prefix back : List Text) → SpellsAll before prefix → SpellsAll after back → Says command (prefix ++ back) (before ++ after)
  says_without prefix back first last = record {
    spelled = spells_joined before after prefix back first last;
    known = (known_without command before (valued name text) after says.known).1;
    once = ap are_apart (names_both before after) ∙ (apart_without (map name_of before) name (map name_of after) apart).0;
    operands = sym (names_without name text before after) ∙ says.operands;
  }

  -- the words with another value of it say it with that value
  pub says_other : (other : Text) (prefix spelled back : List Text) → SpellsAll before prefix → Spells (valued name other) spelled → SpellsAll after back
      → Says command (prefix ++ (spelled ++ back)) (before ++ valued name other ∷ after)
  says_other other prefix spelled back first one last = record {
    spelled = spells_joined before (valued name other ∷ after) prefix (spelled ++ back) first (spelled, back, refl, one, last);
    known = let parts = known_without command before (valued name text) after says.known in known_with command before (valued name other) after parts.0 parts.1;
    once = ap are_apart (names_joined before (valued name other) after) ∙ apart;
    operands = names_without name other before after ∙ (sym (names_without name text before after) ∙ says.operands);
  }
