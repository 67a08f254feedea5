-- The words of a line.
use Rattle.std.specs.Prelude.{ℕ, ◌==◌, ◌||◌, Bool, true, false, List, [], ◌∷◌, ◌++◌, if◌then◌else◌}

-- a blank: byte 32, 9 or 13
abbrev pub is_blank : ℕ → Bool
is_blank byte = byte == 32 || byte == 9 || byte == 13

-- a word, if it has a byte
abbrev pub if_filled : List ℕ → List (List ℕ)
if_filled [] = []
if_filled (byte ∷ bytes) = (byte ∷ bytes) ∷ []

-- the words of a line of which `word` is the start of one
abbrev pub words_after : List ℕ → List ℕ → List (List ℕ)
words_after word [] = if_filled word
words_after word (byte ∷ bytes) =
    if is_blank byte then if_filled word ++ words_after [] bytes else words_after (word ++ byte ∷ []) bytes

-- the words of a line: its longest pieces without blanks
unfoldable pub words : List ℕ → List (List ℕ)
words line = words_after [] line

-- a word that begins with `#`
abbrev pub is_remark : List ℕ → Bool
is_remark [] = false
is_remark (byte ∷ bytes) = byte == 35

-- a line that is passed over: it has no words, or its first word begins with `#`
abbrev pub are_passed_over : List (List ℕ) → Bool
are_passed_over [] = true
are_passed_over (word ∷ others) = is_remark word
