-- The greatest sizes and counts of what comes over a port.
use Rattle.std.specs.Prelude.{ℕ}

-- how many bytes an input may have at most, whatever its reader allows
abbrev pub most_read : ℕ
most_read = 2147483647

-- the last value of a count
abbrev pub last_count : ℕ
last_count = 18446744073709551615
