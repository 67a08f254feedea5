-- The lines of a text or an input, and how many bytes they take.
use Rattle.std.specs.Prelude.{ℕ, ◌+◌, ◌-◌, ◌==◌, Bool, true, false, List, [], ◌∷◌, ◌++◌, length, map, if◌then◌else◌}
use Rattle.texts.specs.Words.{if_filled}

-- the lines of a text of which `line` is the start of one: a line ends at byte 10, and a last one without it counts if it has bytes
abbrev pub lines_after : List ℕ → List ℕ → List (List ℕ)
lines_after line [] = if_filled line
lines_after line (byte ∷ bytes) =
    if byte == 10 then line ∷ lines_after [] bytes else lines_after (line ++ byte ∷ []) bytes

-- the lines of a text, each of which ends at byte 10; a last one without it counts if it has bytes
unfoldable pub lines : List ℕ → List (List ℕ)
lines bytes = lines_after [] bytes

-- the lines whose end has come, if `line` is the start of one
abbrev pub whole_lines_after : List ℕ → List ℕ → List (List ℕ)
whole_lines_after line [] = []
whole_lines_after line (byte ∷ bytes) =
    if byte == 10 then line ∷ whole_lines_after [] bytes else whole_lines_after (line ++ byte ∷ []) bytes

-- the lines of an input whose end, byte 10, has come
unfoldable pub whole_lines : List ℕ → List (List ℕ)
whole_lines bytes = whole_lines_after [] bytes

-- what follows the last line end, if `line` is the start of a line
abbrev pub unfinished_after : List ℕ → List ℕ → List ℕ
unfinished_after line [] = line
unfinished_after line (byte ∷ bytes) =
    if byte == 10 then unfinished_after [] bytes else unfinished_after (line ++ byte ∷ []) bytes

-- the bytes of an input after its last line end
unfoldable pub unfinished : List ℕ → List ℕ
unfinished bytes = unfinished_after [] bytes

-- a line of an input: its bytes, and whether its end has come
pub record InputLine : Type 0 where
  pub text : List ℕ
  pub ended : Bool

-- a line whose end has come
abbrev pub whole_line : List ℕ → InputLine
whole_line text = record { text = text; ended = true }

-- a line whose end has not come
abbrev pub open_line : List ℕ → InputLine
open_line text = record { text = text; ended = false }

-- the bytes after the last line end are a line if there are any
abbrev pub last_line : List ℕ → List InputLine
last_line [] = []
last_line (byte ∷ bytes) = open_line (byte ∷ bytes) ∷ []

-- the lines of an input: those whose end has come, and what follows the last line end
unfoldable pub input_lines : List ℕ → List InputLine
input_lines bytes = map whole_line (whole_lines bytes) ++ last_line (unfinished bytes)

-- how many bytes of its input a line takes, with its end
abbrev pub line_size : InputLine → ℕ
line_size line = length line.text + (if line.ended then 1 else 0)

-- the number of bytes of the first lines of a text, as many as `count`, with their line ends
unfoldable pub size_of_lines : (count : ℕ) → List ℕ → ℕ
size_of_lines count [] = 0
size_of_lines count (byte ∷ bytes) =
    if count == 0 then 0 else 1 + size_of_lines (if byte == 10 then count - 1 else count) bytes
