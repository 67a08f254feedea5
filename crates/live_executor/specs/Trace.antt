-- What was done since some moments, so that it can be taken back.
use Rattle.std.specs.Prelude.{◌≡◌, true, false, List, length, None}
use Rattle.closure_model.specs.Orders.{contains_point}
use Rattle.net_model.specs.declared.ids.PointId.{PointId}
use Rattle.net_model.specs.Moments.{Moments, moment_of}

-- the points that have come since some moments: they had none then, and every other point has what it had
pub record HaveComeSince (before : Moments) (came : List PointId) (now : Moments) : Type 0 where
  pub long : length before ≡ length now
  pub new : (point : PointId) → contains_point came point ≡ true → moment_of before point ≡ None
  pub same : (point : PointId) → contains_point came point ≡ false → moment_of now point ≡ moment_of before point

-- whatever these points have come since, those have come since it now
abbrev pub KeepsTrace : (came : List PointId) → (moments : Moments) → (came_now : List PointId) → (now : Moments) → Type 0
KeepsTrace came moments came_now now = (before : Moments) → HaveComeSince before came moments → HaveComeSince before came_now now
