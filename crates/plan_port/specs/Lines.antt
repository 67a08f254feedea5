-- Whether the next line of an input comes, or a limit is passed first. `longest` is how many bytes a line may have, `spare_capacity` how many more bytes the
-- whole input may have.
use Rattle.std.specs.Prelude.{◌≡◌, ℕ, nat_lt, nat_le, ◌&&◌, ◌||◌, List, [], length, if◌then◌else◌}
use Rattle.texts.specs.Lines.{InputLine, whole_lines, unfinished, open_line}

-- whether a line comes, or is too long, or the input is too much
pub data Coming : Type 0 where
  Comes : Coming
  TooLong : Coming
  TooMuch : Coming

-- a line is too long if its byte `longest + 1` is among the first `spare_capacity + 1` bytes; else the input is too much if byte `spare_capacity + 1` belongs
-- to the line or is its end
abbrev pub coming : (longest spare_capacity : ℕ) → InputLine → Coming
coming longest spare_capacity line =
    if nat_lt longest (length line.text) && nat_le longest spare_capacity then TooLong
    else (if nat_lt spare_capacity (length line.text) || (line.ended && nat_le spare_capacity (length line.text)) then TooMuch
    else Comes)

-- bytes that decide nothing of their first line: its end has not come, and it is neither too long nor too much so far
pub record DecideNothing (longest spare_capacity : ℕ) (bytes : List ℕ) : Type 0 where
  pub no_line : whole_lines bytes ≡ []
  pub within : coming longest spare_capacity (open_line (unfinished bytes)) ≡ Comes
