-- The sizes that every command keeps.
use Rattle.std.specs.Prelude.{ℕ}

-- how many bytes an input may have
abbrev pub most_input : ℕ
most_input = 1073741824

-- How many bytes there is always place for in the buffer of an answer: no line that refuses an input is longer.
abbrev pub least_capacity : ℕ
least_capacity = 256
