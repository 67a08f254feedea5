-- Names that differ from each other, and the properties of a sound syntax.
use Rattle.std.proofs.Common.{◌≡◌, ℕ, suc, zero, ◌<◌, Bool, true, false, List, [], ◌∷◌, ◌++◌, length, Option, Some, None, refl, sym, ap, ◌∙◌, ◌||◌, ◌&&◌, true≢false, cond, find, subst, ltb-true}
use Rattle.std.specs.List.{list_all, list_any}
use Rattle.std.specs.Option.{is_some}
use Rattle.std.specs.Prelude.{nat_lt, slice_get}
use Rattle.std.specs.Str.{bytes_eq}
use Rattle.std.proofs.lemmas.Bool.{and_parts, or_parts, or_right, not-true, false_from_ne_true}
use Rattle.std.proofs.lemmas.List.Folds.{list_any-append}
use Rattle.std.proofs.lemmas.Slice.Eq.{bytes_eq-Decides}
use Rattle.command_words.specs.Syntax.{Syntax, Text, are_apart, is_in, is_option_name, is_sound}

pub bytes_same : (x : Text) → bytes_eq x x ≡ true
bytes_same x = (bytes_eq-Decides x x).1 refl

-- texts that a test distinguishes are not one
pub differs : (test : Text → Bool) (x y : Text) → test x ≡ true → test y ≡ false → bytes_eq y x ≡ false
differs test x y is none = false_from_ne_true (bytes_eq y x) (λ e. true≢false (sym is ∙ sym (ap test ((bytes_eq-Decides y x).0 e)) ∙ none))

pub bytes_apart : (x y : Text) → bytes_eq x y ≡ false → bytes_eq y x ≡ false
bytes_apart x y apart = differs (bytes_eq x) x y (bytes_same x) apart

pub found_there : {X : Type 0} (p : X → Bool) (xs : List X) → is_some (find p xs) ≡ list_any p xs
found_there p [] = refl
found_there p (x ∷ xs) = by (p x) (found_there p xs)
  where
    by : (b : Bool) → is_some (find p xs) ≡ list_any p xs → is_some (cond b (Some x) (find p xs)) ≡ (b || list_any p xs)
    by true e = refl
    by false e = e

pub found_nowhere : {X : Type 0} (p : X → Bool) (xs : List X) → list_any p xs ≡ false → find p xs ≡ None
found_nowhere {X} p xs none = by (find p xs) (found_there p xs ∙ none)
  where
    by : (found : Option X) → is_some found ≡ false → found ≡ None
    by (Some x) e = absurd (true≢false e)
    by None e = refl

pub or_later : (a b c : Bool) → (b ≡ true → c ≡ true) → (a || b) ≡ true → (a || c) ≡ true
or_later true b c gives is = refl
or_later false b c gives is = gives is

pub in_append : (name : Text) (xs ys : List Text) → is_in name (xs ++ ys) ≡ (is_in name xs || is_in name ys)
in_append name xs ys = list_any-append (λ n. bytes_eq n name) xs ys

pub all_in : (p : Text → Bool) (name : Text) (names : List Text) → list_all p names ≡ true → is_in name names ≡ true → p name ≡ true
all_in p name [] all is = absurd (true≢false (sym is))
all_in p name (n ∷ names) all is = by (bytes_eq n name) refl is (all_in p name names (and_parts (p n) (list_all p names) all).1)
  where
    by : (b : Bool) → bytes_eq n name ≡ b → (b || is_in name names) ≡ true → (is_in name names ≡ true → p name ≡ true) → p name ≡ true
    by true e s rest = subst (λ m. p m ≡ true) ((bytes_eq-Decides n name).0 e) (and_parts (p n) (list_all p names) all).0
    by false e s rest = rest s

pub slice_in : (names : List Text) (k : ℕ) (name : Text) → slice_get names k ≡ Some name → is_in name names ≡ true
slice_in [] k name is = absurd cc
slice_in (n ∷ names) zero name is =
    let same : n ≡ name = cc in
    rw (same, bytes_same name) refl
slice_in (n ∷ names) (suc k) name is = or_right (bytes_eq n name) (is_in name names) (slice_in names k name is)

-- ---- names that are apart

pub apart_first : (name : Text) (names : List Text) → are_apart (name ∷ names) ≡ true → is_in name names ≡ false
apart_first name names apart = not-true _ (and_parts _ _ apart).0

pub apart_rest : (name : Text) (names : List Text) → are_apart (name ∷ names) ≡ true → are_apart names ≡ true
apart_rest name names apart = (and_parts _ _ apart).1

apart_after : (xs ys : List Text) → are_apart (xs ++ ys) ≡ true → are_apart ys ≡ true
apart_after [] ys apart = apart
apart_after (x ∷ xs) ys apart = apart_after xs ys (apart_rest x (xs ++ ys) apart)

-- no name is on both sides
pub apart_across : (xs ys : List Text) (name : Text) → are_apart (xs ++ ys) ≡ true → is_in name xs ≡ true → is_in name ys ≡ false
apart_across [] ys name apart is = absurd (true≢false (sym is))
apart_across (x ∷ xs) ys name apart is = by (bytes_eq x name) refl is (apart_across xs ys name (apart_rest x (xs ++ ys) apart))
  where
    by : (b : Bool) → bytes_eq x name ≡ b → (b || is_in name xs) ≡ true → (is_in name xs ≡ true → is_in name ys ≡ false) → is_in name ys ≡ false
    by true e i rest =
        ap (λ m. is_in m ys) (sym ((bytes_eq-Decides x name).0 e))
        ∙ (or_parts (is_in x xs) (is_in x ys) (sym (in_append x xs ys) ∙ apart_first x (xs ++ ys) apart)).1
    by false e i rest = rest i

pub apart_back : (xs ys : List Text) (name : Text) → are_apart (xs ++ ys) ≡ true → is_in name ys ≡ true → is_in name xs ≡ false
apart_back xs ys name apart is = false_from_ne_true (is_in name xs) (λ there. true≢false (sym is ∙ apart_across xs ys name apart there))

-- ---- a sound syntax

module _ (command : Syntax) (sound : is_sound command ≡ true) where
  apart : are_apart (command.flags ++ (command.options ++ command.operands)) ≡ true
  apart = (and_parts _ _ sound).0

  rest : (nat_lt (length command.operands) 10 && (list_all is_option_name command.flags && list_all is_option_name command.options)) ≡ true
  rest = (and_parts _ _ sound).1

  pub few_operands : length command.operands < 10
  few_operands = ltb-true _ _ (and_parts _ _ rest).0

  named : (list_all is_option_name command.flags ≡ true) × (list_all is_option_name command.options ≡ true)
  named = and_parts _ _ (and_parts _ _ rest).1

  pub flags_named : (name : Text) → is_in name command.flags ≡ true → is_option_name name ≡ true
  flags_named name is = all_in is_option_name name command.flags named.0 is

  pub options_named : (name : Text) → is_in name command.options ≡ true → is_option_name name ≡ true
  options_named name is = all_in is_option_name name command.options named.1 is

  later_apart : are_apart (command.options ++ command.operands) ≡ true
  later_apart = apart_after command.flags (command.options ++ command.operands) apart

  pub operands_apart : are_apart command.operands ≡ true
  operands_apart = apart_after command.options command.operands later_apart

  pub option_apart : (name : Text) → is_in name command.options ≡ true → is_in name command.flags ≡ false
  option_apart name is = apart_back command.flags (command.options ++ command.operands) name apart (in_append name command.options command.operands ∙ ap (λ b. b || is_in name command.operands) is)

  pub operand_not : (name : Text) → is_in name command.operands ≡ true → (is_in name command.flags ≡ false) × (is_in name command.options ≡ false)
  operand_not name is = (
    apart_back command.flags (command.options ++ command.operands) name apart (in_append name command.options command.operands ∙ or_right _ _ is),
    apart_back command.options command.operands name later_apart is,
  )
