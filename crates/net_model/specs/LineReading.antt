-- What is read of the words of a line by its form.
use Rattle.std.specs.Prelude.{ℕ, ◌==◌, List, [], ◌∷◌, length, Option, None, Some, Result, Ok, Err, if◌then◌else◌}
use Rattle.net_model.specs.Numbers.{name_of, short_name_of, natural_of, integer_of}
use Rattle.net_model.specs.Places.{Place, of_name, of_short_name, of_natural, of_integer, Value, Maker, Form}
use Rattle.net_model.specs.WordReading.{◌>>=◌}
use Rattle.net_model.specs.declared.format.FormatKind.{FormatKind}
use Rattle.net_model.specs.declared.format.FormatKind.TheVariants.{UnknownWord, WordCount}

-- a word in its place
abbrev pub word_at : (place : Place) → List ℕ → Result (Value place) FormatKind
word_at of_name word = name_of word
word_at of_short_name word = short_name_of word
word_at (of_natural limit) word = natural_of limit word
word_at (of_integer limit) word = integer_of limit word

-- words in their places, as many as there are places
abbrev pub words_at : {A : Type 0} (places : List Place) → Maker places A → List (List ℕ) → Result A FormatKind
words_at [] make words = Ok make
words_at (place ∷ places) make [] = Err WordCount
words_at (place ∷ places) make (word ∷ words) = do
  value ← word_at place word
  words_at places (make value) words

-- words of which there must be so many
abbrev pub counted : ℕ → List (List ℕ) → Result (List (List ℕ)) FormatKind
counted count words = if length words == count then Ok words else Err WordCount

-- words that must have a form: their count decides, and then the first of them, from the left, that is refused
abbrev pub read_by : {A : Type 0} → Form A → List (List ℕ) → Result A FormatKind
read_by form words = do
  said ← counted (length form.places) words
  words_at form.places form.make said

-- the same, if there is such a form; if not, the first word is unknown
abbrev pub read_as : {A : Type 0} → Option (Form A) → List (List ℕ) → Result A FormatKind
read_as None words = Err UnknownWord
read_as (Some form) words = read_by form words
