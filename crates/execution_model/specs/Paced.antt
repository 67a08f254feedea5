-- What holds of the moments so far in every state that an execution reaches, and what is due then by slim lists.
use Rattle.std.specs.Prelude.{◌≡◌, ◌≢◌, ℕ, ◌+◌, ◌<◌, ◌≤◌, unsigned_abs, true, false, List, [], ◌∷◌, length, Some}
use Rattle.std.specs.List.{Contains}
use Rattle.net_model.specs.declared.ids.PointId.{PointId}
use Rattle.net_model.specs.declared.part.Link.{Link}
use Rattle.dispatch_net.specs.Dispatchable.{conditions_at, no_conditions}
use Rattle.net_model.specs.Moments.{Moments, moment_of}
use Rattle.execution_model.specs.Execution.{Setting, link_to, meets, is_due, acts_at, acted}
use Rattle.execution_model.specs.Feeds.{completed_at}
use Rattle.execution_model.specs.declared.feed_answers.Act.{Act}
use Rattle.dispatch_net.specs.Ranked.{IsRanked}
use Rattle.dispatch_net.specs.Slim.{slimmed}

-- the lists and links of a network descend along a rank of its points, each link is the one that ends in its point, and a contingent point has no lower bounds
-- and waits
pub record IsRankedNetwork (setting : Setting) (rank : PointId → ℕ) : Type 0 where
  pub lists : IsRanked setting.links setting.dispatch rank
  pub one_link : (link : Link) → Contains setting.links link → link_to setting link.to ≡ Some link
  pub contingent : (point : PointId) (link : Link) → link_to setting point ≡ Some link → conditions_at setting.dispatch point ≡ no_conditions

-- the moments so far keep to what was made: a point that has a moment had its conditions met by then, and a contingent point came no sooner
-- than its link's shortest duration after the activation
pub record ArePaced (setting : Setting) (moments : Moments) : Type 0 where
  pub executed : (point : PointId) (moment : ℕ) → moment_of moments point ≡ Some moment
      → meets setting moments moment (conditions_at setting.dispatch point) ≡ true
  pub completed : (link : Link) (moment : ℕ) → Contains setting.links link → moment_of moments link.to ≡ Some moment
      → (activated : ℕ) × (moment_of moments link.from ≡ Some activated) × (activated + unsigned_abs link.low ≤ moment)

-- a network, executed by the lower bounds and waits that no others imply
abbrev pub slim_setting : Setting → Setting
slim_setting setting = record setting { dispatch = slimmed setting.links setting.dispatch }

-- by what is kept a point is due exactly if it is by what was made
abbrev pub SlimIsDueTheSame : Type 0
SlimIsDueTheSame =
    (setting : Setting) (rank : PointId → ℕ) (moments : Moments) → IsRankedNetwork setting rank → ArePaced setting moments
    → (t : ℕ) (point : PointId) → is_due (slim_setting setting) moments t point ≡ is_due setting moments t point

-- an act of t makes no other point due at t, and leaves every other point due as it was
abbrev pub ActsComeOneByOne : Type 0
ActsComeOneByOne =
    (setting : Setting) (rank : PointId → ℕ) (moments : Moments) → IsRankedNetwork setting rank → ArePaced setting moments
    → length moments ≡ length setting.dispatch
    → (t : ℕ) (point : PointId) → point.0 < length setting.dispatch → is_due setting moments t point ≡ true
    → ((other : PointId) → other.0 ≢ point.0 → is_due setting (completed_at moments t point) t other ≡ is_due setting moments t other)
    × ArePaced setting (completed_at moments t point)

-- the acts of t made one by one: as long as a point is due at t, the lowest of these
pub data IsMadeOneByOne (setting : Setting) (t : ℕ) : (moments : Moments) (acts : List Act) (after : Moments) → Type 0 where
  done : (moments : Moments) → ((point : PointId) → point.0 < length setting.dispatch → is_due setting moments t point ≡ false)
      → IsMadeOneByOne setting t moments [] moments
  next : (moments after : Moments) (point : PointId) (acts : List Act) → point.0 < length setting.dispatch → is_due setting moments t point ≡ true
      → ((other : PointId) → other.0 < point.0 → is_due setting moments t other ≡ false) → IsMadeOneByOne setting t (completed_at moments t point) acts after
      → IsMadeOneByOne setting t moments (record { moment = t; point = point } ∷ acts) after

-- they are the acts of t, in order, and the moments after them
abbrev pub OneByOneIsAtOnce : Type 0
OneByOneIsAtOnce =
    (setting : Setting) (rank : PointId → ℕ) (moments after : Moments) (t : ℕ) (acts : List Act) → IsRankedNetwork setting rank → ArePaced setting moments
    → length moments ≡ length setting.dispatch
    → IsMadeOneByOne setting t moments acts after → (after ≡ acted setting moments t) × (acts ≡ acts_at setting moments t)
