-- The greatest sizes of a line of events.
use Rattle.std.specs.Prelude.{ℕ}

-- for how many points a reader has capacity
abbrev pub most_completions : ℕ
most_completions = 32768
