-- When the completions of a feed are in time, measured against the moments executed so far; and what a list of feeds comes to.
use Rattle.std.specs.Prelude.{◌≡◌, ℕ, ◌+◌, ◌≤◌, unsigned_abs, List, [], ◌∷◌, fold, Some, None, Result, Ok, Err}
use Rattle.std.specs.List.{All, Contains, IsDistinct}
use Rattle.net_model.specs.declared.ids.PointId.{PointId}
use Rattle.net_model.specs.declared.part.Link.{Link}
use Rattle.strategy_model.specs.Plays.{same_point}
use Rattle.net_model.specs.Moments.{Moments, moment_of}
use Rattle.execution_model.specs.Execution.{Setting, link_to}
use Rattle.execution_model.specs.Feeds.{Execution, next_moment, moments_before, completed_at, taken, after_feed}
use Rattle.execution_model.specs.Streams.{Listing}
use Rattle.execution_model.specs.declared.feed_answers.Why.{Why}

-- a point completes at a moment, neither too soon nor too late after the activation of its link
pub record CompletesInTime (setting : Setting) (moments : Moments) (moment : ℕ) (point : PointId) : Type 0 where
  pub link : Link
  pub ends : link_to setting point ≡ Some link
  pub is_open : moment_of moments point ≡ None
  pub activated : ℕ
  pub active : moment_of moments link.from ≡ Some activated
  pub not_too_soon : activated + unsigned_abs link.low ≤ moment
  pub not_too_late : moment ≤ activated + unsigned_abs link.high

-- the completions of a feed are in time: its moment is after the last, each listed point completes in time and stands once, and each
-- point whose latest moment is reached is listed or has completed
pub record IsInTime (execution : Execution) (moment : ℕ) (listed : List PointId) : Type 0 where
  pub later : next_moment execution ≤ moment
  pub once : IsDistinct same_point listed
  pub completes : All (CompletesInTime execution.setting (moments_before execution moment) moment) listed
  pub none_left : (point : PointId) (link : Link) (activated : ℕ) → link_to execution.setting point ≡ Some link
      → moment_of (moments_before execution moment) point ≡ None → moment_of (moments_before execution moment) link.from ≡ Some activated
      → activated + unsigned_abs link.high ≤ moment → Contains listed point

-- the moments so far with the listed points completed
abbrev pub with_completed : Execution → (moment : ℕ) → List PointId → Moments
with_completed execution moment listed = fold (λ moments point. completed_at moments moment point) (moments_before execution moment) listed

-- every feed of a list is in time
abbrev pub AreInTime : Execution → List Listing → Type 0
AreInTime execution [] = Unit {0}
AreInTime execution (listing ∷ others) =
    IsInTime execution listing.moment listing.points × AreInTime (after_feed execution listing.moment (with_completed execution listing.moment listing.points))
    others

-- the execution after a list of feeds, or the first refusal
abbrev pub fed_all : Execution → List Listing → Result Execution Why
fed_all execution [] = Ok execution
fed_all execution (listing ∷ others) =
    elim (taken execution listing.moment listing.points) [
      | Ok moments ↦ fed_all (after_feed execution listing.moment moments) others
      | Err why ↦ Err why
    ]
