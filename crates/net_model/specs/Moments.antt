-- Which points have a moment, and which one.
use Rattle.std.specs.Prelude.{ℕ, List, Option, None}
use Rattle.std.specs.List.{slice_index_or}
use Rattle.net_model.specs.declared.ids.PointId.{PointId}

-- for each point a moment, if it has one, in the order of the points
abbrev pub Moments : Type 0
Moments = List (Option ℕ)

-- the moment of a point
abbrev pub moment_of : Moments → PointId → Option ℕ
moment_of moments point = slice_index_or moments point.0 None
