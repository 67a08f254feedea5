-- The greatest size of a line.
use Rattle.std.specs.Prelude.{ℕ}

-- how many bytes a line may have for which a reader needs no memory, and a line of events at all
abbrev pub most_line : ℕ
most_line = 65536
