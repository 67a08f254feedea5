-- Which points a point wakes when it gets its moment, and what is counted until then.
use Rattle.std.specs.Prelude.{◌≡◌, ◌⊎◌, ℕ, ℤ, ◌+◌, ◌<◌, ◌≤◌, ◌==◌, Bool, true, false, IfSome, List, length, Option, Some, is_none, slice_get, slice_index}
use Rattle.std.specs.List.{Contains, count_by}
use Rattle.std.specs.Option.{option_map_or}
use Rattle.closure_model.specs.Orders.{contains_point}
use Rattle.net_model.specs.declared.ids.PointId.{PointId}
use Rattle.net_model.specs.declared.ids.LinkId.{LinkId}
use Rattle.net_model.specs.declared.part.Link.{Link}
use Rattle.dispatch_net.specs.declared.dispatch.Conditions.{Conditions}
use Rattle.dispatch_net.specs.Dispatchable.{conditions_at}
use Rattle.net_model.specs.Moments.{Moments, moment_of}
use Rattle.execution_model.specs.Execution.{Setting, is_due}
use Rattle.live_executor.specs.Due.{holds_from}

-- a lower bound is open while its point has no moment, a wait while the activation point of its link has none
abbrev pub is_open_bound : Moments → PointId × ℤ → Bool
is_open_bound moments bound = is_none (moment_of moments bound.0)

abbrev pub is_open_wait : List Link → Moments → LinkId × ℤ → Bool
is_open_wait links moments wait = option_map_or (λ (link : Link). is_none (moment_of moments link.from)) (slice_get links wait.0.0) true

-- how many lower bounds and waits are open
abbrev pub open_count : Setting → Moments → Conditions → ℕ
open_count setting moments conditions = count_by (is_open_bound moments) conditions.lower_bounds + count_by
    (is_open_wait setting.links moments) conditions.waits

-- how many there are
abbrev pub condition_count : Conditions → ℕ
condition_count conditions = length conditions.lower_bounds + length conditions.waits

-- a lower bound or wait is fixed by a point: it is open until this point has its moment
abbrev pub is_bound_after : PointId → PointId × ℤ → Bool
is_bound_after point bound = bound.0.0 == point.0

abbrev pub is_wait_from : List Link → PointId → LinkId × ℤ → Bool
is_wait_from links point wait = option_map_or (λ (link : Link). link.from.0 == point.0) (slice_get links wait.0.0) false

-- how many of them a point fixes
abbrev pub count_fixed_by : Setting → PointId → Conditions → ℕ
count_fixed_by setting point conditions = count_by (is_bound_after point) conditions.lower_bounds + count_by (is_wait_from setting.links point) conditions.waits

-- how often a point stands in a list
abbrev pub times : List PointId → PointId → ℕ
times points point = count_by (λ (other : PointId). other.0 == point.0) points

-- which points a point wakes: each point as often as it fixes one of its lower bounds or waits; and each point with a wait for the link that ends in it
abbrev pub AreFixedBy : Setting → PointId → List PointId → Type 0
AreFixedBy setting point fixes = (other : PointId) → times fixes other ≡ count_fixed_by setting point (conditions_at setting.dispatch other)

abbrev pub AreEndedBy : Setting → PointId → List PointId → Type 0
AreEndedBy setting point ends =
    (other : PointId) (wait : LinkId × ℤ) (link : Link) → Contains (conditions_at setting.dispatch other).waits wait
    → slice_get setting.links wait.0.0 ≡ Some link
    → link.to.0 ≡ point.0 → contains_point ends other ≡ true

pub record AreWoken (setting : Setting) (point : PointId) (fixes ends : List PointId) : Type 0 where
  pub fixed : AreFixedBy setting point fixes
  pub ended : AreEndedBy setting point ends

-- a test of moments passes from a first moment on, or at none, for the moments from now on; the first is none before now
abbrev pub PassesSince : (now : ℕ) → (ℕ → Bool) → Option ℕ → Type 0
PassesSince now test first = ((t : ℕ) → now ≤ t → test t ≡ holds_from first t) × IfSome first (λ moment. now ≤ moment)

abbrev pub AreDueSince : (now : ℕ) → Setting → (moments due : Moments) → Type 0
AreDueSince now setting moments due = (point : PointId) → point.0 < length setting.dispatch
    → PassesSince now (λ t. is_due setting moments t point) (moment_of due point)

-- what is kept for the points now: how many lower bounds and waits are open, and from when on each is due
pub record IsAwake (setting : Setting) (now : ℕ) (moments : Moments) (counts : List ℕ) (due : Moments) : Type 0 where
  pub moments_count : length moments ≡ length setting.dispatch
  pub counts_count : length counts ≡ length setting.dispatch
  pub due_count : length due ≡ length setting.dispatch
  pub counted : (point : PointId) → point.0 < length setting.dispatch
      → slice_index counts point.0 ≡ open_count setting moments (conditions_at setting.dispatch point)
  pub known : AreDueSince now setting moments due

-- after some points were woken: found from the lower bounds and waits, or as it was and then not woken or with open ones
abbrev pub IsFoundOrKept : (now : ℕ) → Setting → Moments → (counts : List ℕ) → (waiters : List PointId) → (old new : Moments) → PointId → Type 0
IsFoundOrKept now setting moments counts waiters old new point =
    PassesSince now (λ t. is_due setting moments t point) (moment_of new point)
    ⊎ ((moment_of new point ≡ moment_of old point) × (slice_index counts point.0 ≡ 0 → contains_point waiters point ≡ false))
