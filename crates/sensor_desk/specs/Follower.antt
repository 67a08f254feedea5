-- What an executor that follows a desk is fed with: the points whose links stand at a moment. This project's own choice.
use Rattle.std.specs.Prelude.{◌≡◌, ℕ, ◌-◌, ◌==◌, nat_lt, Bool, false, is_some, List, [], ◌∷◌, ◌++◌, length, map, filter, find, take, Option, Some, None}
use Rattle.std.specs.Prelude.{if◌then◌else◌}
use Rattle.std.specs.List.{All, range_with_len}
use Rattle.std.specs.Option.{option_map_or, option_map, option_and_then}
use Rattle.net_model.specs.Network.{Plan, activation}
use Rattle.net_model.specs.Moments.{Moments, moment_of}
use Rattle.net_model.specs.declared.ids.LinkId.{LinkId}
use Rattle.net_model.specs.declared.ids.PointId.{PointId}
use Rattle.execution_model.specs.Earliest.{FeedsEarliest}
use Rattle.execution_model.specs.Feeds.{Execution, IsFed}
use Rattle.execution_model.specs.declared.feed_answers.Fed.{Fed}
use Rattle.sensor_desk.specs.Desks.{DeskSeatSeen, Looks}
use Rattle.sensor_desk.specs.Steps.{IsFoundMoment}
use Rattle.sensor_desk.specs.Views.{View}
use Rattle.sensor_desk.specs.Words.{held}
use Rattle.sensor_desk.specs.declared.follow_result.Followed.{Followed}
use Rattle.sensor_desk.specs.declared.follow_result.Followed.TheVariants as followed
use Rattle.sensor_desk.specs.declared.view.Look.{Look}

-- an execution is of a network: by its links, with as many points
pub record IsExecutionFor (net : Plan) (execution : Execution) : Type 0 where
  pub links : execution.setting.links ≡ net.links
  pub points : length execution.setting.dispatch ≡ length net.points

-- the link of a contingent point without a moment
abbrev pub open_link : Plan → Moments → PointId → Option LinkId
open_link net moments point = elim (moment_of moments point) [ Some moment ↦ None | None ↦ activation net point ]

abbrev pub is_open_in : Plan → Moments → PointId → Bool
is_open_in net moments point = is_some (open_link net moments point)

-- the contingent points without a moment, among so many points, in order
abbrev pub open_among : Plan → Moments → ℕ → List PointId
open_among net moments count = filter (is_open_in net moments) (map (λ k. record { 0 = k }) (range_with_len 0 count))

-- what a look at the link of a point found
pub record Finding : Type 0 where
  pub point : PointId
  pub link : LinkId
  pub word : ℕ

-- it is of an open point, by its link, and the word said what stood for the link
pub record IsFinding (net : Plan) (moments : Moments) (view : View) (finding : Finding) : Type 0 where
  pub link : open_link net moments finding.point ≡ Some finding.link
  pub found : IsFoundMoment view finding.link finding.word

abbrev pub look_of : Finding → Look
look_of finding = record { link = finding.link; word = finding.word }

-- a seat looked at the links of the open points among so many, one after another
pub record AreFindings (net : Plan) (moments : Moments) (count : ℕ) (before after : DeskSeatSeen) (findings : List Finding) : Type 0 where
  pub points : map (λ (finding : Finding). finding.point) findings ≡ open_among net moments count
  pub each : All (IsFinding net moments before.view) findings
  pub after_is :
      after ≡ record { table = before.table; view = record before.view { looks = before.view.looks ++ map look_of findings } }

-- a moment was found that had passed
abbrev pub has_gone : (moment : ℕ) → Option ℕ → Bool
has_gone moment found = option_map_or (λ posted. nat_lt posted moment) found false

-- this moment was found
abbrev pub is_now : (moment : ℕ) → Option ℕ → Bool
is_now moment found = option_map_or (λ posted. posted == moment) found false

-- a point, and the moment that the word of its link says
abbrev pub late_of : Finding → PointId × ℕ
late_of finding = (finding.point, finding.word - 1)

-- the first point whose link stands at a moment that had passed, with that moment
abbrev pub first_late : (moment : ℕ) → List Finding → Option (PointId × ℕ)
first_late moment findings = option_map late_of (find (λ (finding : Finding). has_gone moment (held finding.word)) findings)

-- the points whose links stand at this moment, in order
abbrev pub listed_at : (moment : ℕ) → List Finding → List PointId
listed_at moment findings =
    map (λ (finding : Finding). finding.point) (filter (λ (finding : Finding). is_now moment (held finding.word)) findings)

-- what following comes to by what was found: late, and nothing was fed; or the answer to what was fed
abbrev pub IsFollowingResult : (moment : ℕ) → List Finding → Execution → Followed → Execution → Type 0
IsFollowingResult moment findings before result after =
    elim (first_late moment findings) [
      | Some late ↦ (result ≡ followed.Late late.0 late.1) × (after ≡ before)
      | None ↦ (answer : Fed) × (result ≡ followed.Fed answer) × IsFed before moment (listed_at moment findings) answer after
          × FeedsEarliest before moment (listed_at moment findings) answer after
    ]

-- an executor followed a desk by a seat: the seat looked at the links of all open points, and the answer follows from what it found
pub record FollowsDesk (net : Plan) (moment : ℕ) (before after : DeskSeatSeen) (execution : Execution) (result : Followed)
    (executed : Execution) : Type 0 where
  pub findings : List Finding
  pub are : AreFindings net execution.moments (length net.points) before after findings
  pub answer : IsFollowingResult moment findings execution result executed

-- ---- one look
-- a seat looked at the link of a point, if it is open
pub data Sees (net : Plan) (moments : Moments) (point : PointId) (before after : DeskSeatSeen) : Option ℕ → Type 0 where
  passes : open_link net moments point ≡ None → after ≡ before → (found : Option ℕ) → found ≡ None
      → Sees net moments point before after found
  looks : (link : LinkId) → open_link net moments point ≡ Some link → (found : Option ℕ) → Looks before after link found
      → Sees net moments point before after found

-- the first late one, after one look more
abbrev pub late_after : (moment : ℕ) → Option (PointId × ℕ) → PointId → Option ℕ → Option (PointId × ℕ)
late_after moment (Some first) point found = Some first
late_after moment None point found =
    option_and_then (λ posted. if nat_lt posted moment then Some (point, posted) else None) found

-- what one look more adds to the points that are fed
abbrev pub listed_after : (moment : ℕ) → PointId → Option ℕ → List PointId
listed_after moment point found = if is_now moment found then point ∷ [] else []

-- what was found so far: the first late point, and the points of the moment in a prefix of the buffer
pub record AreFindingsSoFar (net : Plan) (moments : Moments) (moment count : ℕ) (before after : DeskSeatSeen) (room : List PointId)
    (late : Option (PointId × ℕ)) (listed : ℕ) : Type 0 where
  pub findings : List Finding
  pub are : AreFindings net moments count before after findings
  pub late_is : late ≡ first_late moment findings
  pub listed_is : take listed room ≡ listed_at moment findings
  pub listed_count : listed ≡ length (listed_at moment findings)
