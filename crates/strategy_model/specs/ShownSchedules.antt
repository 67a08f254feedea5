-- A schedule as it is shown.
use Rattle.std.specs.Prelude.{ℕ, ◌+◌, List, ◌∷◌}
use Rattle.net_model.specs.Network.{Plan}
use Rattle.net_model.specs.ShownForm.{lag}
use Rattle.net_model.specs.declared.ids.PointId.{PointId}
use Rattle.strategy_model.specs.Plays.{points_of}

-- the shown moments of points
abbrev pub shown_moments : Plan → List PointId → List ℕ → List ℕ
shown_moments net (point ∷ points) (moment ∷ moments) = (moment + lag net point) ∷ shown_moments net points moments
shown_moments net points moments = moments

-- a schedule as it is shown: a contingent point comes the delay later
abbrev pub shown_schedule : Plan → List ℕ → List ℕ
shown_schedule net schedule = shown_moments net (points_of net) schedule
