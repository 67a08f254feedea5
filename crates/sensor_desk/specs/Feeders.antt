-- The result of several feeders that post one moment concurrently, each for its share of the links. This project's own choice.
use Rattle.std.specs.Prelude.{◌≡◌, ℕ, suc, ◌+◌, ◌*◌, ◌<◌, ◌≤◌, List, length, Option, Some, None, slice_get}
use Rattle.std.specs.List.{slice_index_or}
use Rattle.net_model.specs.declared.ids.LinkId.{LinkId}
use Rattle.sensor_desk.specs.Desks.{Posts}
use Rattle.sensor_desk.specs.declared.feeder.Feeder.{Feeder}
use Rattle.sensor_desk.specs.declared.post_result.Posted.{Posted}
use Rattle.sensor_desk.specs.declared.post_result.Posted.TheVariants.{First, Before}

-- the first place at which a moment stood before, after the answer at one place more
abbrev pub met_after : Option ℕ → (place : ℕ) → Posted → Option ℕ
met_after (Some first) place answer = Some first
met_after None place First = None
met_after None place (Before moment) = Some place

-- a feeder posted a moment for the link at a place
pub record IsPostedAt (links : List LinkId) (moment place : ℕ) (before after : Feeder) : Type 0 where
  pub link : LinkId
  pub at : slice_get links place ≡ Some link
  pub answer : Posted
  pub posts : Posts before.seat after.seat link moment answer
  pub met : after.met ≡ met_after before.met place answer

-- a feeder posted at so many places: at a first one, and each time a step further
pub data HavePosted (links : List LinkId) (moment first step : ℕ) (before : Feeder) : (count : ℕ) → Feeder → Type 0 where
  none : (after : Feeder) → after ≡ record before { met = None } → HavePosted links moment first step before 0 after
  further : (count : ℕ) (between after : Feeder) → HavePosted links moment first step before count between
      → IsPostedAt links moment (first + count * step) between after → HavePosted links moment first step before (suc count) after

-- a feeder posted at all its places among the links
pub record HasPostedAll (links : List LinkId) (moment first step : ℕ) (before after : Feeder) : Type 0 where
  pub count : ℕ
  pub places : HavePosted links moment first step before count after
  pub all : length links ≤ first + count * step

-- each of several feeders posted at its places: the feeder k of n at k, k + n and so on
abbrev pub AreFedBy : List LinkId → (moment : ℕ) → List Feeder → List Feeder → Type 0
AreFedBy links moment before after =
    (number : ℕ) (feeder : Feeder) → number < length before
    → HasPostedAll links moment number (length before) (slice_index_or before number feeder) (slice_index_or after number feeder)

-- a feeder that is not done yet: it posted at all its places below one
pub record IsInTurn (links : List LinkId) (moment first step : ℕ) (before : Feeder) (place : ℕ) (now : Feeder) : Type 0 where
  pub count : ℕ
  pub at : place ≡ first + count * step
  pub places : HavePosted links moment first step before count now
