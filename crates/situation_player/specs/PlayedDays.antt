-- How a day is played out: when links complete, and how far an execution has come.
use Rattle.std.specs.Prelude.{◌≡◌, ℕ, ◌+◌, ◌<◌, ◌^◌, ◌==◌, Bool, false, List, map, filter, fold, min, Option, Some, None, Ok, IfSome}
use Rattle.std.specs.List.{zip}
use Rattle.std.specs.Option.{option_map, option_map_or}
use Rattle.net_model.specs.Network.{Plan}
use Rattle.net_model.specs.declared.ids.PointId.{PointId}
use Rattle.net_model.specs.declared.part.Link.{Link}
use Rattle.closure_model.specs.Tables.{Graph}
use Rattle.closure_laws.specs.Forward.{IsDispatchedForward}
use Rattle.strategy_model.specs.Control.{IsEarliest}
use Rattle.net_model.specs.Moments.{Moments, moment_of}
use Rattle.execution_model.specs.Feeds.{Execution, started, IsDueAnswer}
use Rattle.execution_model.specs.Streams.{Listing, Shows}
use Rattle.execution_model.specs.Timely.{fed_all}
use Rattle.execution_model.specs.Laws.{setting_of, going_on}
use Rattle.situation_player.specs.declared.played_day.Lasting.{Lasting}

-- an execution before its first feed, of a network that is dispatched by a forward closed table
pub record IsStartedForward (net : Plan) (execution : Execution) : Type 0 where
  pub table : Graph
  pub order : List PointId
  pub dispatched : IsDispatchedForward net table order
  pub unused : execution ≡ started (setting_of net table)

-- the links of a network in a situation, each with its duration
abbrev pub lasting_in : Link × ℕ → Lasting
lasting_in lasts = record { from = lasts.0.from; to = lasts.0.to; duration = lasts.1 }

abbrev pub lastings_of : List Link → (situation : List ℕ) → List Lasting
lastings_of links situation = map lasting_in (zip links situation)

-- when a link completes, if it is active: its activation point has come, and its contingent point hasn't
abbrev pub completion : Moments → Lasting → Option ℕ
completion moments lasting =
    elim (moment_of moments lasting.to) [
      | Some completed ↦ None
      | None ↦ option_map (λ activated. activated + lasting.duration) (moment_of moments lasting.from)
    ]

-- the sooner of two moments, if there is one
abbrev pub sooner : Option ℕ → Option ℕ → Option ℕ
sooner None second = second
sooner (Some first) None = Some first
sooner (Some first) (Some second) = Some (min first second)

-- the first moment at which an active link completes
abbrev pub first_completion : Moments → List Lasting → Option ℕ
first_completion moments lastings = fold (λ first lasting. sooner first (completion moments lasting)) None lastings

-- an active link completes at a moment
abbrev pub completes_at : Moments → (moment : ℕ) → Lasting → Bool
completes_at moments moment lasting = option_map_or (λ completed. completed == moment) (completion moments lasting) false

-- the points that complete at a moment
abbrev pub completing_at : Moments → (moment : ℕ) → List Lasting → List PointId
completing_at moments moment lastings = map (λ (lasting : Lasting). lasting.to) (filter (completes_at moments moment) lastings)

-- it is known when a link completes: its points are among so many, and the moment is a number of the machine
pub record IsTimed (points : ℕ) (moments : Moments) (lasting : Lasting) : Type 0 where
  pub from_point : lasting.from.0 < points
  pub to_point : lasting.to.0 < points
  pub fits : IfSome (moment_of moments lasting.from) (λ activated. activated + lasting.duration < 2 ^ 64)

-- an execution follows a situation: what was fed so far shows the completions of the earliest schedule
pub record FollowsSituation (net : Plan) (situation : List ℕ) (execution : Execution) : Type 0 where
  pub table : Graph
  pub order : List PointId
  pub dispatched : IsDispatchedForward net table order
  pub schedule : List ℕ
  pub earliest : IsEarliest net situation schedule
  pub listings : List Listing
  pub fed : fed_all (started (setting_of net table)) listings ≡ Ok execution
  pub shows : Shows net (going_on listings) schedule

-- the next moment at which a point is executed or a link completes: the sooner of the next due moment and the first completion
abbrev pub IsNextMoment : Execution → List Lasting → Option ℕ → Type 0
IsNextMoment execution lastings next = (due : Option ℕ) × IsDueAnswer execution due × (next ≡ sooner due (first_completion execution.moments lastings))
