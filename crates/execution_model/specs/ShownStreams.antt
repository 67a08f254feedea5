-- Streams of a network with a delay: a completion is listed when it is shown, which is the delay after it happened. They are the streams of
-- the shown form. (Streams: after Morris, Muscettola and Vidal 2001; the delay is this project's own choice.)
use Rattle.std.specs.Prelude.{◌≡◌, ◌↔◌, ℕ, ◌+◌, ◌<◌, List}
use Rattle.std.specs.List.{All, AllPairs, IsDistinct}
use Rattle.net_model.specs.Moments.{Moments}
use Rattle.net_model.specs.Network.{Plan, IsPlan, IsContingent}
use Rattle.net_model.specs.ShownForm.{shown_form, shown_situation}
use Rattle.net_model.specs.declared.ids.PointId.{PointId}
use Rattle.strategy_model.specs.Control.{IsEarliest}
use Rattle.strategy_model.specs.Plays.{same_point}
use Rattle.strategy_model.specs.ShownSchedules.{shown_schedule}
use Rattle.strategy_model.specs.Situations.{moment_in}
use Rattle.execution_model.specs.Acts.{scheduled}
use Rattle.execution_model.specs.Streams.{FitsSituation, HasGoneBy, IsExecution, IsFaithful, IsListed, Listing, Stream, fixed_by}

-- a stream lists what is shown of a schedule: its moments rise, each point is listed once, the delay after its moment, and up to the stream's last moment, or
-- altogether if it is done, every contingent point is listed
pub record ListsAsShown (net : Plan) (stream : Stream) (schedule : List ℕ) : Type 0 where
  pub rises : AllPairs (λ earlier later. earlier.moment < later.moment) stream.listings
  pub once : All (λ (listing : Listing). IsDistinct same_point listing.points) stream.listings
  pub listed : (point : PointId) (moment : ℕ) → IsListed stream point moment → IsContingent net point × (moment ≡ moment_in schedule point + net.delay)
  pub complete : (point : PointId) → IsContingent net point → HasGoneBy stream (moment_in schedule point + net.delay)
      → IsListed stream point (moment_in schedule point + net.delay)

-- a stream fits a situation of a network with a delay: it lists what is shown of the earliest schedule of it
pub record FitsAsShown (net : Plan) (stream : Stream) (situation : List ℕ) : Type 0 where
  pub schedule : List ℕ
  pub earliest : IsEarliest net situation schedule
  pub lists : ListsAsShown net stream schedule

-- a stream is faithful to a network with a delay if it fits some situation
abbrev pub IsFaithfulAsShown : Plan → Stream → Type 0
IsFaithfulAsShown net stream = (situation : List ℕ) × FitsAsShown net stream situation

-- the execution of a stream by the moments that are shown: the earliest schedule of a situation that it fits, as it is shown, as far as the
-- stream fixes it
pub record IsExecutionAsShown (net : Plan) (stream : Stream) (moments : Moments) : Type 0 where
  pub situation : List ℕ
  pub fits : FitsAsShown net stream situation
  pub fixed : moments ≡ fixed_by stream (shown_schedule net fits.schedule)

-- What streams of a sound network are in its shown form. `fits`: one that fits a situation fits that in the shown form, by the schedule as it is shown. `only`:
-- each situation of the shown form that it fits is one of the network, with its schedule. `faithful`, `execution`: it is faithful to the network exactly if it
-- is to the shown form, and its execution is that over the shown form.
pub record AreStreamsAsShown (net : Plan) (stream : Stream) : Type 0 where
  pub fits : (situation : List ℕ) (stated : FitsAsShown net stream situation)
      → (shown : FitsSituation (shown_form net) stream (shown_situation net situation)) × (shown.schedule ≡ shown_schedule net stated.schedule)
  pub only : (situation : List ℕ) (shown : FitsSituation (shown_form net) stream situation)
      → (stated : List ℕ) × (its : FitsAsShown net stream stated) × (shown_situation net stated ≡ situation)
      × (shown_schedule net its.schedule ≡ shown.schedule)
  pub faithful : IsFaithfulAsShown net stream ↔ IsFaithful (shown_form net) stream
  pub execution : (moments : Moments) → IsExecutionAsShown net stream moments ↔ IsExecution (shown_form net) stream moments

abbrev pub StreamsAreShown : Type 0
StreamsAreShown = (net : Plan) (stream : Stream) → IsPlan net → AreStreamsAsShown net stream

-- The acts of a schedule are those of it as it is shown.
abbrev pub ActsAreShown : Type 0
ActsAreShown = (net : Plan) (schedule : List ℕ) (moment count : ℕ)
    → scheduled (shown_form net) (shown_schedule net schedule) moment count ≡ scheduled net schedule moment count
