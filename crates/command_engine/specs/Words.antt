-- The words of a line that is printed, and what the buffer of an answer holds.
use Rattle.std.specs.Prelude.{ℕ, ◌+◌, List, [], ◌∷◌, map, length}
use Rattle.std.specs.Fmt.{decimal}
use Rattle.std.specs.List.{flat_map}
use Rattle.texts.specs.PrintedLines.{after_blank, printed_line}
use Rattle.command_engine.specs.declared.words.Word.{Word}
use Rattle.command_engine.specs.declared.words.Word.TheVariants.{Text, Number, Name}

-- the bytes of a word
abbrev pub word_text : Word → List ℕ
word_text (Text text) = text.now
word_text (Number number) = decimal number
word_text (Name bytes) = bytes.now

-- these words, each after a blank
abbrev pub words_after_blanks : List Word → List ℕ
words_after_blanks words = flat_map after_blank (map word_text words)

-- the line of these words: one blank between, and a line end
abbrev pub line_of_words : List Word → List ℕ
line_of_words words = printed_line (map word_text words)

-- how many bytes a word has at most: a number has 20
abbrev pub most_word : Word → ℕ
most_word (Text text) = length text.now
most_word (Number number) = 20
most_word (Name bytes) = length bytes.now

-- how many bytes a line of these words has at most: each word with a blank, and the line end
abbrev pub most_bytes : List Word → ℕ
most_bytes [] = 1
most_bytes (word ∷ words) = most_word word + 1 + most_bytes words

-- the text of an answer so far, and how many bytes there is place for in all
pub record AnswerText : Type 0 where
  pub text : List ℕ
  pub capacity : ℕ
