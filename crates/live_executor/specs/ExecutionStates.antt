-- The state of an execution, and how it continues.
use Rattle.std.specs.Prelude.{◌≡◌, ℕ, ◌+◌, ◌-◌, ◌<◌, ◌≤◌, Bool, true, false, List, [], ◌∷◌, ◌++◌, length, Option, Some, None, IsSome, is_none}
use Rattle.std.specs.List.{All, count_by}
use Rattle.net_model.specs.Limits.{most_points}
use Rattle.net_model.specs.declared.ids.PointId.{PointId}
use Rattle.net_model.specs.Moments.{Moments, moment_of}
use Rattle.execution_model.specs.Execution.{acts_at, acted, time_runs, acts_while}
use Rattle.execution_model.specs.Feeds.{completed_at}
use Rattle.execution_model.specs.Paced.{ArePaced, IsMadeOneByOne}
use Rattle.execution_model.specs.declared.feed_answers.Act.{Act}
use Rattle.live_executor.specs.ExpectedPoints.{AreLatest}
use Rattle.live_executor.specs.Due.{holds_from}
use Rattle.live_executor.specs.Limits.{end_of_time}
use Rattle.live_executor.specs.Sound.{KeptNetwork, made_setting}
use Rattle.live_executor.specs.Trace.{KeepsTrace}
use Rattle.live_executor.specs.WokenPoints.{IsAwake}

-- how many points have not come
abbrev pub points_left : Moments → ℕ
points_left moments = count_by is_none moments

-- a point is due at t: the moment from which on it is due has come
abbrev pub has_become_due : Moments → (t : ℕ) → PointId → Bool
has_become_due due t point = holds_from (moment_of due point) t

-- no point is due before a moment
abbrev pub NoneDueBefore : Moments → (t : ℕ) → Type 0
NoneDueBefore due t = (point : PointId) (moment : ℕ) → point.0 < length due → moment_of due point ≡ Some moment → t ≤ moment

-- the lowest point that is due at t, if none is due before; or none is due at t
abbrev pub IsLowestDue : Moments → (t : ℕ) → Option PointId → Type 0
IsLowestDue due t None = (point : PointId) → point.0 < length due → has_become_due due t point ≡ false
IsLowestDue due t (Some lowest) =
    (lowest.0 < length due) × (has_become_due due t lowest ≡ true)
    × (NoneDueBefore due t → (point : PointId) → point.0 < lowest.0 → has_become_due due t point ≡ false)

-- the first moment at which a point is due, or that there is none
abbrev pub IsFirstMoment : Moments → Option ℕ → Type 0
IsFirstMoment due None = (point : PointId) → point.0 < length due → moment_of due point ≡ None
IsFirstMoment due (Some first) = NoneDueBefore due first × ((point : PointId) × (point.0 < length due) × (moment_of due point ≡ Some first))

-- the same before another moment
abbrev pub IsFirstBefore : Moments → (until : ℕ) → Option ℕ → Type 0
IsFirstBefore due until None = NoneDueBefore due until
IsFirstBefore due until (Some first) = (first < until) × IsFirstMoment due (Some first)

-- how far an execution has come: the moments so far; for each point how many of its conditions are open, from when on it is due, and by
-- when it must complete; and since some moment the acts that were made and the points that came
pub record ExecutionSoFar : Type 0 where
  pub moments : Moments
  pub counts : List ℕ
  pub due : Moments
  pub latest : Moments
  pub acts : List Act
  pub came : List PointId

-- a list that had as many places as there are points has one left for each point that has not come
pub record HasCapacityLeft {X : Type 0} (moments : Moments) (list : List X) (places : ℕ) : Type 0 where
  pub few : length list + points_left moments ≤ length moments
  pub reserved : length moments ≤ places

-- what is kept of an execution: a count for each point, and capacity for the acts and the points to come
pub record IsKeptState (moments : Moments) (counts : List ℕ) (acts : List Act) (places_of_acts : ℕ) (came : List PointId) (places_of_points : ℕ) : Type 0 where
  pub counted : length counts ≡ length moments
  pub acts_fit : HasCapacityLeft moments acts places_of_acts
  pub points_fit : HasCapacityLeft moments came places_of_points
  pub inside : All (λ (point : PointId). point.0 < length moments) came

-- the state is right when a moment comes: the open conditions and the expected points, by what is kept of the network; and the moments keep to what was made
pub record StandsAt (network : KeptNetwork) (now : ℕ) (state : ExecutionSoFar) : Type 0 where
  pub awake : IsAwake network.setting now state.moments state.counts state.due
  pub expected : AreLatest network.setting state.moments state.latest
  pub count : length state.moments ≡ length network.made
  pub few : length state.moments ≤ most_points
  pub paced : ArePaced (made_setting network) state.moments

-- it keeps no acts and points any more
abbrev pub cleared : ExecutionSoFar → ExecutionSoFar
cleared state = record state { acts = []; came = [] }

-- its acts are given away
abbrev pub without_acts : ExecutionSoFar → ExecutionSoFar
without_acts state = record state { acts = [] }

-- an execution comes to a moment: these are the moments so far then, and these acts were made; it stands right, and may be taken back to
-- whatever it might be taken back to before
pub record Reaches (network : KeptNetwork) (now : ℕ) (moments : Moments) (acts : List Act) (old new : ExecutionSoFar) : Type 0 where
  pub moments_are : new.moments ≡ moments
  pub acts_are : new.acts ≡ old.acts ++ acts
  pub stands : StandsAt network now new
  pub trace : KeepsTrace old.came old.moments new.came new.moments

-- a point may come at a moment: it has not come, and then the moments still keep to what was made
pub record MayComeAt (network : KeptNetwork) (t : ℕ) (state : ExecutionSoFar) (point : PointId) : Type 0 where
  pub is_new : moment_of state.moments point ≡ None
  pub inside : point.0 < length network.made
  pub paced : ArePaced (made_setting network) (completed_at state.moments t point)
  pub soon : t < end_of_time

-- a point comes
abbrev pub Comes : KeptNetwork → (t : ℕ) → PointId → (old new : ExecutionSoFar) → Type 0
Comes network t point old new = Reaches network t (completed_at old.moments t point) [] old new

-- a point is executed
abbrev pub Executes : KeptNetwork → (t : ℕ) → PointId → (old new : ExecutionSoFar) → Type 0
Executes network t point old new = Reaches network t (completed_at old.moments t point) (record { moment = t; point = point } ∷ []) old new

-- the acts of a moment are made
abbrev pub MakesActs : KeptNetwork → (t : ℕ) → (old new : ExecutionSoFar) → Type 0
MakesActs network t old new = Reaches network (t + 1) (acted (made_setting network) old.moments t) (acts_at (made_setting network) old.moments t) old new

-- time runs from a moment to the one before another
abbrev pub Runs : KeptNetwork → (from until : ℕ) → (old new : ExecutionSoFar) → Type 0
Runs network from until old new =
    Reaches network until (time_runs (made_setting network) old.moments from (until - from))
    (acts_while (made_setting network) old.moments from (until - from)) old new

-- time runs out: to the end of time, and each point has come
pub record RunsOut (network : KeptNetwork) (from : ℕ) (old new : ExecutionSoFar) : Type 0 where
  pub runs : Runs network from end_of_time (cleared old) new
  pub come : All IsSome new.moments

-- some acts of t were made, the lowest point first
pub record AreSomeMade (network : KeptNetwork) (t : ℕ) (old now : ExecutionSoFar) : Type 0 where
  pub made : List Act
  pub goes : Reaches network t now.moments made old now
  pub leads : (rest : List Act) (after : Moments) → IsMadeOneByOne (made_setting network) t now.moments rest after
      → IsMadeOneByOne (made_setting network) t old.moments (made ++ rest) after

-- time has run from a moment on to some later one
pub record HasRun (network : KeptNetwork) (from until : ℕ) (old now : ExecutionSoFar) : Type 0 where
  pub next : ℕ
  pub later : from ≤ next
  pub earlier : next ≤ until
  pub runs : Runs network from next old now
