-- How great the moments of an execution are.
use Rattle.std.specs.Prelude.{ℕ, ◌<◌, Option, IfSome}
use Rattle.std.specs.List.{All}
use Rattle.net_model.specs.Moments.{Moments}

-- a moment that no execution reaches: above the greatest that may be fed, with the greatest number of a network for each point
abbrev pub end_of_time : ℕ
end_of_time = 10000000000000

-- no moment so far is as late as this
abbrev pub AreBefore : (t : ℕ) → Moments → Type 0
AreBefore t moments = All (λ (moment : Option ℕ). IfSome moment (λ a. a < t)) moments
