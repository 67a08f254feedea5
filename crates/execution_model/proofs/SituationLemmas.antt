-- Feeds that are in time fit a situation: each link lasts as long as was seen, and its longest if its contingent point has not come.
use Rattle.std.proofs.Common.{◌≡◌, ℕ, suc, pos, ◌+◌, ◌-◌, ◌≤◌, ℤ, List, [], ◌∷◌, length, map, Option, Some, None, ◌⊎◌, inl, inr, refl, ap, sym, subst, ◌∙◌, arith}
use Rattle.std.specs.Prelude.{unsigned_abs, slice_get, ◌≤ℤ◌}
use Rattle.std.specs.List.{AllZip, Contains}
use Rattle.std.specs.Option.{option_map}
use Rattle.std.proofs.lemmas.Int.{ints}
use Rattle.std.proofs.lemmas.List.Elements.{All-contains}
use Rattle.std.proofs.lemmas.Option.{none-some, same_Some, slice_get-map}
use Rattle.net_model.specs.Network.{Plan, IsPlan, IsLink}
use Rattle.net_model.specs.Edges.{IsLinkOf}
use Rattle.net_model.specs.declared.ids.PointId.{PointId}
use Rattle.net_model.specs.declared.ids.LinkId.{LinkId}
use Rattle.net_model.specs.declared.part.Link.{Link}
use Rattle.strategy_model.specs.Situations.{IsSituation, IsDuration}
use Rattle.strategy_model.proofs.PlayLemmas.{link_sound}
use Rattle.strategy_model.proofs.KindLemmas.{Ending}
use Rattle.net_model.specs.Moments.{Moments, moment_of}
use Rattle.execution_model.specs.Feeds.{Execution, next_moment, moments_to, moments_before}
use Rattle.execution_model.specs.Streams.{Listing}
use Rattle.execution_model.specs.Timely.{CompletesInTime, IsInTime, with_completed, AreInTime}
use Rattle.execution_model.specs.Laws.{IsExecutionOf}
use Rattle.execution_model.proofs.LinkLemmas.{link_of_is_link_to}
use Rattle.execution_model.proofs.MomentLemmas.{length-completed_all, acted_keeps, acted_contingent, length-time_runs, time_runs_keeps, time_runs_contingent}
use Rattle.execution_model.proofs.PlaceLemmas.{link_found, ending_point, not_completed, has_completed, is_listed}
use Rattle.execution_model.proofs.FedLemmas.{after_listing, after_all, listed_of}

-- ---- what stays
module _ (net : Plan) (execution : Execution) (of : IsExecutionOf net execution) where
  long : length execution.moments ≡ length execution.setting.dispatch
  long = of.moments ∙ sym of.dispatch

  module _ (moment : ℕ) where
    pub length_before : length (moments_before execution moment) ≡ length execution.setting.dispatch
    length_before = length-time_runs execution.setting execution.moments (next_moment execution) (moments_to execution moment) long

    pub before_keeps : (point : PointId) (m : ℕ) → moment_of execution.moments point ≡ Some m → moment_of (moments_before execution moment) point ≡ Some m
    before_keeps = time_runs_keeps execution.setting execution.moments (next_moment execution) (moments_to execution moment) long

    pub before_contingent : (point : PointId) → Ending net point → moment_of (moments_before execution moment) point ≡ moment_of execution.moments point
    before_contingent point ending =
        time_runs_contingent execution.setting execution.moments (next_moment execution) (moments_to execution moment) long point ending.link
        (link_found net of.instant.sound execution.setting of.links point ending)

  module _ (listing : Listing) (in_time : IsInTime execution listing.moment listing.points) where
    -- a listed point has not come before
    listed_open : (point : PointId) → Contains listing.points point → moment_of (moments_before execution listing.moment) point ≡ None
    listed_open point among =
        (All-contains (CompletesInTime execution.setting (moments_before execution listing.moment) listing.moment) listing.points point in_time.completes among).is_open

    length_completed : length (with_completed execution listing.moment listing.points) ≡ length execution.setting.dispatch
    length_completed = length-completed_all listing.moment (moments_before execution listing.moment) listing.points ∙ length_before listing.moment

    pub completed_keeps : (point : PointId) (m : ℕ) → moment_of (moments_before execution listing.moment) point ≡ Some m
        → moment_of (with_completed execution listing.moment listing.points) point ≡ Some m
    completed_keeps point m found =
        not_completed (moments_before execution listing.moment) listing.moment listing.points point (λ among. none-some m (sym (listed_open point among) ∙ found)) ∙ found

    -- what has come by then stays
    pub feed_keeps : (point : PointId) (m : ℕ) → moment_of (moments_before execution listing.moment) point ≡ Some m
        → moment_of (after_listing execution listing).moments point ≡ Some m
    feed_keeps point m found =
        acted_keeps execution.setting (with_completed execution listing.moment listing.points) listing.moment length_completed point m (completed_keeps point m found)

    after_contingent : (point : PointId) → Ending net point
        → moment_of (after_listing execution listing).moments point ≡ moment_of (with_completed execution listing.moment listing.points) point
    after_contingent point ending =
        acted_contingent execution.setting (with_completed execution listing.moment listing.points) listing.moment length_completed point ending.link
        (link_found net of.instant.sound execution.setting of.links point ending)

    -- a contingent point has come after a feed if it is listed or had come before
    pub feed_listed : (point : PointId) → Ending net point → Contains listing.points point
        → moment_of (after_listing execution listing).moments point ≡ Some listing.moment
    feed_listed point ending among =
        let within = ending_point net of.instant.sound point ending in
        let size = length_before listing.moment in
        let points = of.dispatch in
        after_contingent point ending
        ∙ has_completed (moments_before execution listing.moment) listing.moment listing.points point (omega (arith, within, size, points)) among

    pub feed_not_listed : (point : PointId) → Ending net point → (Contains listing.points point → ⊥)
        → moment_of (after_listing execution listing).moments point ≡ moment_of (moments_before execution listing.moment) point
    feed_not_listed point ending absent =
        after_contingent point ending ∙ not_completed (moments_before execution listing.moment) listing.moment listing.points point absent

pub all_keep : (net : Plan) (listings : List Listing) (execution : Execution) → IsExecutionOf net execution → AreInTime execution listings → (point : PointId) (m : ℕ)
    → moment_of execution.moments point ≡ Some m
    → moment_of (after_all execution listings).moments point ≡ Some m
all_keep net [] execution of are point m found = found
all_keep net (listing ∷ others) execution of (is, are) point m found =
    all_keep net others (after_listing execution listing) (listed_of net execution listing of) are point m
    (feed_keeps net execution of listing is point m (before_keeps net execution of listing.moment point m found))

-- a point that has not come, one that comes in feeds, and one that comes with a feed or later
abbrev pub IsOpen : Execution → PointId → Type 0
IsOpen execution point = moment_of execution.moments point ≡ None

abbrev pub ComesIn : Execution → List Listing → PointId → ℕ → Type 0
ComesIn execution listings point m = moment_of (after_all execution listings).moments point ≡ Some m

abbrev pub ComesFrom : Listing → PointId → ℕ → Type 0
ComesFrom listing point m = (Contains listing.points point × (listing.moment ≡ m)) ⊎ (listing.moment + 1 ≤ m)

-- a contingent point that comes in feeds comes no sooner than the first
pub comes_with_first : (net : Plan) (listing : Listing) (others : List Listing) (execution : Execution) → IsExecutionOf net execution → AreInTime execution (listing ∷ others)
    → (point : PointId) (m : ℕ)
    → Ending net point → IsOpen execution point → ComesIn execution (listing ∷ others) point m
    → (IsOpen (after_listing execution listing) point → listing.moment + 1 ≤ m)
    → ComesFrom listing point m
comes_with_first net listing others execution of (is, are) point m ending unknown found rest =
    elim (is_listed listing.points point) [
      | inl among ↦
          (let stays = all_keep net others (after_listing execution listing) (listed_of net execution listing of) are point listing.moment
          (feed_listed net execution of listing is point ending among) in
          inl (among, same_Some listing.moment m (sym stays ∙ found)))
      | inr absent ↦ inr (rest (feed_not_listed net execution of listing is point ending absent ∙ before_contingent net execution of listing.moment point ending ∙ unknown))
    ]

pub comes_after : (net : Plan) (listings : List Listing) (execution : Execution) → IsExecutionOf net execution → AreInTime execution listings → (point : PointId) (m : ℕ)
    → Ending net point
    → IsOpen execution point → ComesIn execution listings point m → next_moment execution ≤ m
comes_after net [] execution of are point m ending unknown found = absurd (none-some m (sym unknown ∙ found))
comes_after net (listing ∷ others) execution of (is, are) point m ending unknown found =
    let later = is.later in
    let next = after_listing execution listing in
    elim (comes_with_first net listing others execution of (is, are) point m ending unknown found (λ still. comes_after net others next (listed_of net execution listing of) are point m ending still found)) [
      | inl (among, now) ↦ omega (arith, now, later)
      | inr after ↦ omega (arith, after, later)
    ]

-- ---- each link that was seen to end lasted as it may
pub record Lasted (moments : Moments) (link : Link) (completed : ℕ) : Type 0 where
  pub activated : ℕ
  pub active : moment_of moments link.from ≡ Some activated
  pub low : activated + unsigned_abs link.low ≤ completed
  pub high : completed ≤ activated + unsigned_abs link.high

abbrev pub EachLasted : Plan → Moments → Type 0
EachLasted net moments = (name : LinkId) (link : Link) (completed : ℕ) → IsLinkOf net name link → moment_of moments link.to ≡ Some completed → Lasted moments link completed

module _ (net : Plan) (execution : Execution) (of : IsExecutionOf net execution) (listing : Listing) (in_time : IsInTime execution listing.moment listing.points) where
  feed_lasted : EachLasted net execution.moments → EachLasted net (after_listing execution listing).moments
  feed_lasted each name link completed declared found = by (is_listed listing.points link.to)
    where
      ending : Ending net link.to
      ending = record { name = name; link = link; declared = declared; ends = refl }

      by : Contains listing.points link.to ⊎ (Contains listing.points link.to → ⊥) → Lasted (after_listing execution listing).moments link completed
      by (inl among) =
          let timely = All-contains (CompletesInTime execution.setting (moments_before execution listing.moment) listing.moment) listing.points link.to in_time.completes among in
          let now : listing.moment ≡ completed = same_Some listing.moment completed (sym (feed_listed net execution of listing in_time link.to ending among) ∙ found) in
          let same : timely.link ≡ link = same_Some timely.link link (sym timely.ends ∙ link_of_is_link_to net execution.setting of.links of.instant.sound name link link.to declared refl) in
          let active : moment_of (moments_before execution listing.moment) link.from ≡ Some timely.activated =
          ap (λ (l : Link). moment_of (moments_before execution listing.moment) l.from) (sym same) ∙ timely.active in
          let low_same : unsigned_abs timely.link.low ≡ unsigned_abs link.low = ap (λ (l : Link). unsigned_abs l.low) same in
          let high_same : unsigned_abs timely.link.high ≡ unsigned_abs link.high = ap (λ (l : Link). unsigned_abs l.high) same in
          let low = timely.not_too_soon in
          let high = timely.not_too_late in
          record {
            activated = timely.activated;
            active = feed_keeps net execution of listing in_time link.from timely.activated active;
            low = omega (arith, low, low_same, now);
            high = omega (arith, high, high_same, now);
          }
      by (inr absent) =
          let before : moment_of execution.moments link.to ≡ Some completed =
          sym (feed_not_listed net execution of listing in_time link.to ending absent ∙ before_contingent net execution of listing.moment link.to ending) ∙ found in
          let its = each name link completed declared before in
          record {
            activated = its.activated;
            active = feed_keeps net execution of listing in_time link.from its.activated (before_keeps net execution of listing.moment link.from its.activated its.active);
            low = its.low;
            high = its.high;
          }

pub all_lasted : (net : Plan) (listings : List Listing) (execution : Execution) → IsExecutionOf net execution → AreInTime execution listings → EachLasted net execution.moments
    → EachLasted net (after_all execution listings).moments
all_lasted net [] execution of are each = each
all_lasted net (listing ∷ others) execution of (is, are) each =
    all_lasted net others (after_listing execution listing) (listed_of net execution listing of) are (feed_lasted net execution of listing is each)

-- ---- the situation that was seen
abbrev pub duration_between : (longest : ℕ) → (completed activated : Option ℕ) → ℕ
duration_between longest None activated = longest
duration_between longest (Some c) None = longest
duration_between longest (Some c) (Some a) = c - a

-- the duration of a link that was seen, or else its longest
abbrev pub duration_seen : Moments → Link → ℕ
duration_seen moments link = duration_between (unsigned_abs link.high) (moment_of moments link.to) (moment_of moments link.from)

abbrev pub situation_seen : Plan → Moments → List ℕ
situation_seen net moments = map (duration_seen moments) net.links

durations_fit : (test : Link → ℕ) (links : List Link) → ((k : ℕ) (link : Link) → slice_get links k ≡ Some link → IsDuration link (test link))
    → AllZip IsDuration links (map test links)
durations_fit test [] each = tt
durations_fit test (link ∷ links) each = (each 0 link refl, durations_fit test links (λ k l there. each (suc k) l there))

longest_fits : (low high : ℤ) → pos 1 ≤ℤ low → low ≤ℤ high → (low ≤ℤ pos (unsigned_abs high)) × (pos (unsigned_abs high) ≤ℤ high)
longest_fits low high positive interval = (grind (arith, ints), grind (arith, ints))

seen_fits : (low high : ℤ) (c a : ℕ) → pos 1 ≤ℤ low → low ≤ℤ high → a + unsigned_abs low ≤ c → c ≤ a + unsigned_abs high
    → (low ≤ℤ pos (c - a)) × (pos (c - a) ≤ℤ high)
seen_fits low high c a positive interval low_is high_is = (grind (arith, ints), grind (arith, ints))

module _ (net : Plan) (plan : IsPlan net) (moments : Moments) (each : EachLasted net moments) where
  -- if it was seen
  pub seen_lasts : (name : LinkId) (link : Link) (c a : ℕ) → moment_of moments link.to ≡ Some c → moment_of moments link.from ≡ Some a → duration_seen moments link ≡ c - a
  seen_lasts name link c a completed active =
      ap (λ (o : Option ℕ). duration_between (unsigned_abs link.high) o (moment_of moments link.from)) completed ∙ ap (duration_between (unsigned_abs link.high) (Some c)) active

  -- and if it was not
  pub not_seen_lasts : (link : Link) → moment_of moments link.to ≡ None → duration_seen moments link ≡ unsigned_abs link.high
  not_seen_lasts link open_still = ap (λ (o : Option ℕ). duration_between (unsigned_abs link.high) o (moment_of moments link.from)) open_still

  pub seen_is_situation : IsSituation net (situation_seen net moments)
  seen_is_situation = durations_fit (duration_seen moments) net.links fits
    where
      fits : (k : ℕ) (link : Link) → slice_get net.links k ≡ Some link → IsDuration link (duration_seen moments link)
      fits k link declared = by (moment_of moments link.to) refl
        where
          sound : IsLink net link
          sound = link_sound net plan k link declared

          by : (o : Option ℕ) → moment_of moments link.to ≡ o → IsDuration link (duration_seen moments link)
          by None none = subst (IsDuration link) (sym (not_seen_lasts link none)) (longest_fits link.low link.high sound.positive sound.interval)
          by (Some c) found =
              let its = each (record { 0 = k }) link c declared found in
              subst (IsDuration link) (sym (seen_lasts (record { 0 = k }) link c its.activated found its.active))
              (seen_fits link.low link.high c its.activated sound.positive sound.interval its.low its.high)

  pub seen_duration : (name : LinkId) (link : Link) → IsLinkOf net name link → slice_get (situation_seen net moments) name.0 ≡ Some (duration_seen moments link)
  seen_duration name link declared = slice_get-map (duration_seen moments) net.links name.0 ∙ ap (option_map (duration_seen moments)) declared
