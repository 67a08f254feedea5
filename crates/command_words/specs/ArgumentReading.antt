-- What words are read as, from left to right. That it is what they mean is the law `law_arguments_are_those_meant`.
use Rattle.std.specs.Prelude.{ℕ, ◌==◌, ◌||◌, Bool, true, false, not, List, [], ◌∷◌, ◌++◌, map, length, Option, Some, None, slice_get, if◌then◌else◌}
use Rattle.std.specs.Option.{option_and_then, option_map}
use Rattle.std.specs.List.{list_any, before_first, after_first}
use Rattle.command_words.specs.Syntax.{Syntax, Text, asks, is_in}
use Rattle.command_words.specs.SpelledWords.{Use, flag, valued, operand, name_of, operand_names}
use Rattle.command_words.specs.Arguments.{Arguments, is_given, text_given}

-- ---- the words that are refused wherever they are

-- what follows the first hyphen is not a second hyphen with something after it
abbrev pub is_stray_rest : Text → Bool
is_stray_rest [] = true
is_stray_rest (b ∷ []) = true
is_stray_rest (b ∷ c ∷ bs) = not (b == 45)

-- the word begins with a hyphen, and is not two hyphens with something after them
abbrev pub is_stray : Text → Bool
is_stray [] = false
is_stray (b ∷ bs) = if b == 45 then is_stray_rest bs else false

-- a word that is refused wherever it is
abbrev pub is_refused : Text → Bool
is_refused word = is_stray word || asks word

-- ---- the uses that words say

-- what comes before the first `=` (61), and what follows it if there is one
abbrev pub name_and_value : Text → Text × Option Text
name_and_value text = (before_first (λ x. x == 61) text, if list_any (λ x. x == 61) text then Some (after_first (λ x. x == 61) text) else None)

abbrev pub strip_hyphen : Text → Option Text
strip_hyphen [] = None
strip_hyphen (b ∷ bs) = if b == 45 then Some bs else None

abbrev pub long_of_rest : Text → Option (Text × Option Text)
long_of_rest [] = None
long_of_rest (x ∷ xs) = Some (name_and_value (x ∷ xs))

-- `--name` or `--name=value`, as the name and the value
abbrev pub long_of : Text → Option (Text × Option Text)
long_of word = option_and_then long_of_rest (option_and_then strip_hyphen (strip_hyphen word))

-- one use more, of a name that was not given before
abbrev pub with_use : List Use → Use → Option (List Use)
with_use uses one = if is_given (name_of one) uses then None else Some (uses ++ one ∷ [])

-- how many operands are given
abbrev pub count_operands : List Use → ℕ
count_operands uses = length (operand_names uses)

abbrev pub Reads : Type 0
Reads = List Use → Option (List Use)

-- after the name of a flag, which has no value
abbrev pub after_flag : Text → Option Text → List Use → Reads → Option (List Use)
after_flag name None uses go = option_and_then go (with_use uses (flag name))
after_flag name (Some text) uses go = None

-- after the name of an option: its value stands behind `=`, or is the next word
abbrev pub after_option : Text → Option Text → List Use → Reads → (Text → Reads) → Option (List Use)
after_option name None uses go next = next name uses
after_option name (Some text) uses go next = option_and_then go (with_use uses (valued name text))

-- after a name with two hyphens: that of a flag, of an option, or of neither
abbrev pub after_long : Syntax → Text → Option Text → List Use → Reads → (Text → Reads) → Option (List Use)
after_long command name text uses go next =
    if is_in name command.flags then after_flag name text uses go
    else (if is_in name command.options then after_option name text uses go next else None)

-- after a word without a hyphen: the text of the next operand, if one is wanted
abbrev pub after_plain : Option Text → Text → List Use → Reads → Option (List Use)
after_plain None word uses go = None
after_plain (Some name) word uses go = option_and_then go (with_use uses (operand name word))

-- after a word: `go` reads the words after it, `next` takes the first of them as the value of an option
abbrev pub after_word : Syntax → Option (Text × Option Text) → Text → List Use → Reads → (Text → Reads) → Option (List Use)
after_word command (Some long) word uses go next = after_long command long.0 long.1 uses go next
after_word command None word uses go next = after_plain (slice_get command.operands (count_operands uses)) word uses go

-- after the word that follows the name of an option: it is the value, and none if it is a name with two hyphens
abbrev pub after_value : Option (Text × Option Text) → Text → Text → List Use → Reads → Option (List Use)
after_value (Some long) word name uses go = None
after_value None word name uses go = option_and_then go (with_use uses (valued name word))

abbrev mutual
  -- these uses and those of the words
  pub uses_from : Syntax → List Text → List Use → Option (List Use)
  uses_from command [] uses = Some uses
  uses_from command (word ∷ words) uses = after_word command (long_of word) word uses (uses_from command words) (with_next command words)

  -- the value of the option is the next word
  pub with_next : Syntax → List Text → Text → List Use → Option (List Use)
  with_next command [] name uses = None
  with_next command (word ∷ words) name uses = after_value (long_of word) word name uses (uses_from command words)

-- ---- what they give

abbrev pub with_first_text : Option Text → Option (List Text) → Option (List Text)
with_first_text None rest = None
with_first_text (Some text) rest = option_map (λ texts. text ∷ texts) rest

-- all texts, if each is there
abbrev pub all_texts : List (Option Text) → Option (List Text)
all_texts [] = Some []
all_texts (text ∷ texts) = with_first_text text (all_texts texts)

-- what these uses give to the command, if each of its operands is given
abbrev pub complete_by : Syntax → List Use → Option Arguments
complete_by command uses = option_map
    (λ texts. record { flags = map (λ name. is_given name uses) command.flags; options = map (λ name. text_given name uses) command.options; operands = texts })
    (all_texts (map (λ name. text_given name uses) command.operands))

-- what the words give to the command, if they mean anything
abbrev pub arguments_of : Syntax → List Text → Option Arguments
arguments_of command words = if list_any is_refused words then None else option_and_then (complete_by command) (uses_from command words [])
