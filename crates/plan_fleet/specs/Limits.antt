-- How many plans a fleet may have.
use Rattle.std.specs.Prelude.{ℕ}

-- the most plans of a fleet
abbrev pub most_plans : ℕ
most_plans = 64
