-- Until when contingent points must complete, and which points each point activates.
use Rattle.std.specs.Prelude.{◌≡◌, ◌≢◌, ◌⊎◌, ℕ, ◌<◌, ◌≤◌, List, length}
use Rattle.std.specs.List.{All, Contains}
use Rattle.net_model.specs.declared.ids.PointId.{PointId}
use Rattle.net_model.specs.declared.part.Link.{Link}
use Rattle.net_model.specs.Moments.{Moments, moment_of}
use Rattle.execution_model.specs.Execution.{Setting}
use Rattle.execution_model.specs.Feeds.{latest_of}
use Rattle.live_executor.specs.WokenPoints.{times}
use Rattle.live_executor.specs.Wakes.{list_at}

-- for each of so many points the contingent points of the links whose activation point it is
pub record AreActivated (links : List Link) (points : ℕ) (lists : List (List PointId)) : Type 0 where
  pub count : length lists ≡ points
  pub activated : (link : Link) → Contains links link → 1 ≤ times (list_at lists link.from) link.to
  pub inside : (point : PointId) → All (λ (other : PointId). other.0 < points) (list_at lists point)

-- the contingent points of the links whose activation point this is
abbrev pub AreActivatedBy : List Link → PointId → List PointId → Type 0
AreActivatedBy links point points = (link : Link) → Contains links link → link.from.0 ≡ point.0 → 1 ≤ times points link.to

-- no link from the one point ends in the other
abbrev pub IsNotActivatedBy : List Link → PointId → PointId → Type 0
IsNotActivatedBy links point other = (link : Link) → Contains links link → link.from.0 ≡ point.0 → link.to.0 ≢ other.0

-- the moment by which each contingent point must complete, if it is active and has not completed
pub record AreLatest (setting : Setting) (moments : Moments) (latest : Moments) : Type 0 where
  pub count : length latest ≡ length setting.dispatch
  pub each : (point : PointId) → point.0 < length setting.dispatch → moment_of latest point ≡ latest_of setting moments point

-- after a point has come: it is that moment, or as it was and then of another point, which the one does not activate
abbrev pub IsLatestOrKept : Setting → Moments → (come : PointId) → (old new : Moments) → PointId → Type 0
IsLatestOrKept setting moments come old new other =
    (moment_of new other ≡ latest_of setting moments other) ⊎ ((moment_of new other ≡ moment_of old other) × (other.0 ≢ come.0)
    × IsNotActivatedBy setting.links come other)
