-- The greatest counts and sizes.
use Rattle.std.specs.Prelude.{ℕ, ℤ, ◌≤◌, Bool, nat_le, unsigned_abs}

-- how many points a network may have; no point is played later than this times `most_size`, which is just `most_moment`
abbrev pub most_points : ℕ
most_points = 2000

-- how many links a network may have
abbrev pub most_links : ℕ
most_links = 800

-- how many bounds a network may have
abbrev pub most_bounds : ℕ
most_bounds = 20000

-- the greatest size of a number of a plan, in whole moments
abbrev pub most_number : ℕ
most_number = 1000000000

-- the greatest size of a number of a sound network: above those of every plan and of every form that is made of one
abbrev pub most_size : ℕ
most_size = 2000000000

-- the greatest size of the weight of an edge that is derived, judged or kept in a table
abbrev pub most_weight : ℕ
most_weight = 1000000000000

-- the greatest moment of an event, and of an execution
abbrev pub most_moment : ℕ
most_moment = 4000000000000

-- the greatest delay, in whole moments
abbrev pub most_delay : ℕ
most_delay = 1000000

-- how many lines of one text are read
abbrev pub most_lines : ℕ
most_lines = 2147483648

-- a number that a plan may have
abbrev pub within_limit : ℤ → Bool
within_limit number = nat_le (unsigned_abs number) most_number

-- a number that a sound network may have
abbrev pub within_size : ℤ → Bool
within_size number = nat_le (unsigned_abs number) most_size

-- a weight that an edge may have that is derived or kept in a table
abbrev pub IsWeight : ℤ → Type 0
IsWeight weight = unsigned_abs weight ≤ most_weight
