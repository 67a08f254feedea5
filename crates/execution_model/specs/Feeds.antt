-- What a feed of an execution is: time runs to the moment before, the completions of the moment are taken, and the acts of the moment are
-- made; its refusals, the end of an execution, and the next due moment.
use Rattle.std.specs.Prelude.{◌≡◌, ◌≢◌, ℕ, ◌+◌, ◌-◌, ◌<◌, ◌≤◌, nat_le, nat_lt, unsigned_abs, Bool, false, IsSome, List, [], ◌∷◌, ◌++◌, length, map, find, fold}
use Rattle.std.specs.Prelude.{Option, Some, None, is_some, Result, Ok, Err, slice_set, if◌then◌else◌}
use Rattle.std.specs.List.{All}
use Rattle.std.specs.Option.{option_map, option_map_or, option_and_then}
use Rattle.net_model.specs.Limits.{most_moment}
use Rattle.net_model.specs.declared.ids.PointId.{PointId}
use Rattle.net_model.specs.declared.part.Link.{Link}
use Rattle.net_model.specs.Moments.{Moments, moment_of}
use Rattle.execution_model.specs.Execution.{Setting, has_come, points_of, link_to, acts_at, acted, time_runs, acts_while}
use Rattle.execution_model.specs.declared.feed_answers.Act.{Act}
use Rattle.execution_model.specs.declared.feed_answers.Why.{Why}
use Rattle.execution_model.specs.declared.feed_answers.Why.TheVariants as why
use Rattle.execution_model.specs.declared.feed_answers.Fed.{Fed}
use Rattle.execution_model.specs.declared.feed_answers.Fed.TheVariants as fed
use Rattle.execution_model.specs.declared.feed_answers.Finished.{Finished}
use Rattle.execution_model.specs.declared.feed_answers.Finished.TheVariants as finished

-- an execution as it stands: by what the network is executed, the moments so far, the last moment that was fed, the acts of the last
-- feed that was taken or of the end, and why a feed was refused
pub record Execution : Type 0 where
  pub setting : Setting
  pub moments : Moments
  pub last : Option ℕ
  pub acts : List Act
  pub refused : Option Why

-- before the first feed
abbrev pub started : Setting → Execution
started setting = record { setting = setting; moments = map (λ point. None) (points_of setting); last = None; acts = []; refused = None }

-- the first moment that has not passed
abbrev pub next_moment : Execution → ℕ
next_moment execution = option_map_or (λ last. last + 1) execution.last 0

-- how many moments of time run before a moment
abbrev pub moments_to : Execution → (moment : ℕ) → ℕ
moments_to execution moment = moment - next_moment execution

-- the moments so far after time has run to the moment before
abbrev pub moments_before : Execution → (moment : ℕ) → Moments
moments_before execution moment = time_runs execution.setting execution.moments (next_moment execution) (moments_to execution moment)

-- the completions of a moment: a listed point over its link, activated at some moment
abbrev pub refusal_of_duration : (moment : ℕ) → PointId → Link → (activated : ℕ) → Option Why
refusal_of_duration moment point link activated =
    if nat_lt moment (activated + unsigned_abs link.low) then Some (why.TooSoon point (activated + unsigned_abs link.low))
    else if nat_lt (activated + unsigned_abs link.high) moment then Some (why.Overdue point (activated + unsigned_abs link.high))
    else None

-- the moment of the activation of a link, if it was before
abbrev pub activated_before : Moments → (moment : ℕ) → Link → Option ℕ
activated_before moments moment link = option_and_then (λ activated. if nat_lt activated moment then Some activated else None) (moment_of moments link.from)

abbrev pub refusal_of_completion : Moments → (moment : ℕ) → PointId → Link → Option Why
refusal_of_completion moments moment point link =
    elim (moment_of moments point) [
      | Some completed ↦ Some (why.Twice point completed)
      | None ↦ option_map_or (refusal_of_duration moment point link) (activated_before moments moment link) (Some (why.NotActive point))
    ]

-- why a listed point is refused, with the points before it in the list completed: it is not contingent, has completed before, has no
-- activation before the moment, or completes too soon or too late
abbrev pub refusal_of : Setting → Moments → (moment : ℕ) → PointId → Option Why
refusal_of setting moments moment point = option_map_or (refusal_of_completion moments moment point) (link_to setting point) (Some (why.NotContingent point))

-- the moments after a point has completed
abbrev pub completed_at : Moments → (moment : ℕ) → PointId → Moments
completed_at moments moment point = slice_set moments point.0 (Some moment)

-- the moments after the listed points have completed, or the first refusal
abbrev pub completions_taken : Setting → Moments → (moment : ℕ) → List PointId → Result Moments Why
completions_taken setting moments moment [] = Ok moments
completions_taken setting moments moment (point ∷ others) =
    option_map_or Err (refusal_of setting moments moment point) (completions_taken setting (completed_at moments moment point) moment others)

-- the latest moment of a contingent point that has not completed, if its link is active
abbrev pub latest_of : Setting → Moments → PointId → Option ℕ
latest_of setting moments point =
    if has_come moments point then None
    else option_and_then (λ (link : Link). option_map (λ activated. activated + unsigned_abs link.high) (moment_of moments link.from)) (link_to setting point)

-- a point that should have completed
abbrev pub is_overdue : Setting → Moments → (moment : ℕ) → PointId → Bool
is_overdue setting moments moment point = option_map_or (λ latest. nat_le latest moment) (latest_of setting moments point) false

abbrev pub overdue_why : Setting → Moments → PointId → Option Why
overdue_why setting moments point = option_map (why.Overdue point) (latest_of setting moments point)

-- why the moments after the completions of a moment are refused: the lowest point that should have completed and isn't listed
abbrev pub first_overdue : Setting → Moments → (moment : ℕ) → Option Why
first_overdue setting moments moment = option_and_then (overdue_why setting moments) (find (is_overdue setting moments moment) (points_of setting))

abbrev pub none_overdue : Setting → (moment : ℕ) → Moments → Result Moments Why
none_overdue setting moment moments = option_map_or Err (first_overdue setting moments moment) (Ok moments)

-- the moments so far with the completions of a moment, or why they are refused
abbrev pub completed_in : Execution → (moment : ℕ) → List PointId → Result Moments Why
completed_in execution moment listed =
    elim (completions_taken execution.setting (moments_before execution moment) moment listed) [
      | Ok moments ↦ none_overdue execution.setting moment moments
      | Err why ↦ Err why
    ]

-- why a moment can't be fed, whatever completes
abbrev pub refusal_of_moment : Execution → (moment : ℕ) → Option Why
refusal_of_moment execution moment =
    if nat_lt moment (next_moment execution) then option_map why.NotLater execution.last
    else if nat_lt most_moment moment then Some why.MomentLimit
    else None

-- The moments so far with the completions of a feed, or why it is refused: first for its moment, then for the first listed point that is
-- refused, then for the lowest point that should have completed.
abbrev pub taken : Execution → (moment : ℕ) → List PointId → Result Moments Why
taken execution moment listed = option_map_or Err (refusal_of_moment execution moment) (completed_in execution moment listed)

-- the execution after a feed that was taken: with the acts of the moment
abbrev pub after_feed : Execution → (moment : ℕ) → Moments → Execution
after_feed execution moment moments = record execution {
  moments = acted execution.setting moments moment;
  last = Some moment;
  acts = acts_while execution.setting execution.moments (next_moment execution) (moments_to execution moment) ++ acts_at execution.setting moments moment;
}

-- A feed: what it is answered, and the execution after it. After a refusal every answer is that the execution ended.
abbrev pub IsFed : Execution → (moment : ℕ) → List PointId → Fed → Execution → Type 0
IsFed execution moment listed answer after =
    elim execution.refused [
      | Some cause ↦ (answer ≡ fed.Ended cause) × (after ≡ execution)
      | None ↦ elim (taken execution moment listed) [
        | Err cause ↦ (answer ≡ fed.Refused cause) × (after ≡ record execution { refused = Some cause })
        | Ok moments ↦ (answer ≡ fed.Acts) × (after ≡ after_feed execution moment moments)
      ]
    ]

-- a contingent point that has not completed
abbrev pub is_open : Setting → Moments → PointId → Bool
is_open setting moments point = if has_come moments point then false else is_some (link_to setting point)

-- the lowest contingent point that has not completed
abbrev pub first_open : Execution → Option PointId
first_open execution = find (is_open execution.setting execution.moments) (points_of execution.setting)

-- the moment of the last of these acts, or the last moment that was fed if there is none
abbrev pub last_of : Option ℕ → List Act → Option ℕ
last_of last acts = fold (λ before (act : Act). Some act.moment) last acts

-- the execution is whole: it has a moment, or none, for each point, and time has run on until each has one
pub record IsWhole (execution : Execution) (after : Execution) : Type 0 where
  pub count : ℕ
  pub long : length execution.moments ≡ length execution.setting.dispatch
  pub come : All IsSome (time_runs execution.setting execution.moments (next_moment execution) count)
  pub after_it : after ≡ record execution {
    moments = time_runs execution.setting execution.moments (next_moment execution) count;
    last = last_of execution.last (acts_while execution.setting execution.moments (next_moment execution) count);
    acts = acts_while execution.setting execution.moments (next_moment execution) count;
  }

-- The end: what it is answered, and the execution after it. While a contingent point has not completed the answer is the lowest such point;
-- else time runs on until each point has come. After a refused feed the answer is that the execution ended.
abbrev pub IsFinished : Execution → Finished → Execution → Type 0
IsFinished execution answer after =
    elim execution.refused [
      | Some cause ↦ (answer ≡ finished.Ended cause) × (after ≡ execution)
      | None ↦ elim (first_open execution) [
        | Some point ↦ (answer ≡ finished.Unfinished point) × (after ≡ execution)
        | None ↦ (answer ≡ finished.Complete) × IsWhole execution after
      ]
    ]

-- the next moment at which a point is executed if nothing completes before, or that there is none
abbrev pub IsNextDue : Execution → Option ℕ → Type 0
IsNextDue execution None = (t : ℕ) → next_moment execution ≤ t → acts_at execution.setting execution.moments t ≡ []
IsNextDue execution (Some due) =
    (next_moment execution ≤ due) × ((t : ℕ) → next_moment execution ≤ t → t < due → acts_at execution.setting execution.moments t ≡ [])
    × (acts_at execution.setting execution.moments due ≢ [])

-- what is answered as the next due moment: none after a refusal
abbrev pub IsDueAnswer : Execution → Option ℕ → Type 0
IsDueAnswer execution answer = elim execution.refused [ Some cause ↦ answer ≡ None | None ↦ IsNextDue execution answer ]
