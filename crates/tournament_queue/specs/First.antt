-- Which point is due first, if each has the moment from which on it is due, or is due at none.
use Rattle.std.specs.Prelude.{◌≡◌, ◌⊎◌, ℕ, ◌<◌, ◌≤◌, length, Option, Some, None}
use Rattle.net_model.specs.Moments.{Moments, moment_of}
use Rattle.net_model.specs.declared.ids.PointId.{PointId}

-- what is due sooner comes first, and at one moment the lower point
abbrev pub IsDueNotAfter : ℕ × PointId → ℕ × PointId → Type 0
IsDueNotAfter one other = (one.0 < other.0) ⊎ ((one.0 ≡ other.0) × (one.1.0 ≤ other.1.0))

-- the point that is due first, and from when on, or that none is due some time
abbrev pub IsFirstDue : Moments → Option (ℕ × PointId) → Type 0
IsFirstDue due None = (point : PointId) → point.0 < length due → moment_of due point ≡ None
IsFirstDue due (Some one) =
    (one.1.0 < length due) × (moment_of due one.1 ≡ Some one.0) × ((point : PointId) (moment : ℕ) → point.0 < length due → moment_of due point ≡ Some moment
    → IsDueNotAfter one (moment, point))
