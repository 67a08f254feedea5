-- Streams of completions: when a stream is faithful, and what its execution is. Only schedules and strategies occur here. (Dynamic execution over observed
-- completions: Morris, Muscettola and Vidal 2001.)
use Rattle.std.specs.Prelude.{◌≡◌, ◌⊎◌, ℕ, ◌<◌, ◌≤◌, nat_le, Bool, false, IsTrue, List, map, fold, Option, Some, None, if◌then◌else◌}
use Rattle.std.specs.List.{All, AllPairs, Contains, IsDistinct}
use Rattle.std.specs.Option.{option_map_or}
use Rattle.net_model.specs.Network.{Plan, IsContingent}
use Rattle.net_model.specs.declared.ids.PointId.{PointId}
use Rattle.strategy_model.specs.Situations.{moment_in}
use Rattle.strategy_model.specs.Plays.{same_point}
use Rattle.strategy_model.specs.Control.{IsEarliest}
use Rattle.net_model.specs.Moments.{Moments}

-- a moment, and the points that are listed as completed at it
pub record Listing : Type 0 where
  pub moment : ℕ
  pub points : List PointId

-- a stream: what is listed, moment by moment, and whether it is said at the end to be done
pub record Stream : Type 0 where
  pub listings : List Listing
  pub done : Bool

-- a point is listed at a moment
pub record IsListed (stream : Stream) (point : PointId) (moment : ℕ) : Type 0 where
  pub listing : Listing
  pub among : Contains stream.listings listing
  pub at : listing.moment ≡ moment
  pub named : Contains listing.points point

-- a moment is no later than the stream's last, or the stream is done
abbrev pub HasGoneBy : Stream → (moment : ℕ) → Type 0
HasGoneBy stream moment = IsTrue stream.done ⊎ ((listing : Listing) × Contains stream.listings listing × (moment ≤ listing.moment))

-- a stream shows the completions of a schedule: its moments rise, each point is listed once, at its moment, and up to the stream's last moment, or altogether
-- if it is done, every contingent point is listed
pub record Shows (net : Plan) (stream : Stream) (schedule : List ℕ) : Type 0 where
  pub rises : AllPairs (λ earlier later. earlier.moment < later.moment) stream.listings
  pub once : All (λ (listing : Listing). IsDistinct same_point listing.points) stream.listings
  pub listed : (point : PointId) (moment : ℕ) → IsListed stream point moment → IsContingent net point × (moment_in schedule point ≡ moment)
  pub complete : (point : PointId) → IsContingent net point → HasGoneBy stream (moment_in schedule point) → IsListed stream point (moment_in schedule point)

-- a stream fits a situation: it shows the completions of the earliest schedule of it
pub record FitsSituation (net : Plan) (stream : Stream) (situation : List ℕ) : Type 0 where
  pub schedule : List ℕ
  pub earliest : IsEarliest net situation schedule
  pub shows : Shows net stream schedule

-- a stream is faithful if it fits some situation
abbrev pub IsFaithful : Plan → Stream → Type 0
IsFaithful net stream = (situation : List ℕ) × FitsSituation net stream situation

-- the last moment of a stream
abbrev pub last_moment : Stream → Option ℕ
last_moment stream = fold (λ before (listing : Listing). Some listing.moment) None stream.listings

-- the moments of a schedule up to a last one
abbrev pub cut_at : Option ℕ → List ℕ → Moments
cut_at last schedule = map (λ moment. if option_map_or (nat_le moment) last false then Some moment else None) schedule

-- what a stream fixes of a schedule: its moments up to the stream's last, or the whole of it if the stream is done
abbrev pub fixed_by : Stream → List ℕ → Moments
fixed_by stream schedule = if stream.done then map Some schedule else cut_at (last_moment stream) schedule

-- the execution of a stream: the earliest schedule of a situation that it fits, as far as the stream fixes it
pub record IsExecution (net : Plan) (stream : Stream) (moments : Moments) : Type 0 where
  pub situation : List ℕ
  pub fits : FitsSituation net stream situation
  pub fixed : moments ≡ fixed_by stream fits.schedule
