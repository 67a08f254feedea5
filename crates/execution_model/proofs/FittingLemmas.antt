-- Feeds that list what a schedule shows are in time, and keep the moments so far to the schedule.
use Rattle.std.proofs.Common.{◌≡◌, ℕ, suc, ◌+◌, ◌≤◌, ◌<◌, List, [], ◌∷◌, Some, None, refl, ap, sym, subst, ◌∙◌, arith}
use Rattle.std.specs.Prelude.{unsigned_abs}
use Rattle.std.specs.List.{Contains, IsDistinct}
use Rattle.std.proofs.lemmas.List.Elements.{All-weaker, All-contains_itself}
use Rattle.net_model.specs.Network.{Plan, IsPoint, IsContingent, IsExecutable}
use Rattle.net_model.specs.Edges.{IsLinkOf}
use Rattle.net_model.specs.declared.ids.PointId.{PointId}
use Rattle.net_model.specs.declared.part.Link.{Link}
use Rattle.closure_model.specs.Tables.{Graph}
use Rattle.strategy_model.specs.Situations.{moment_in}
use Rattle.strategy_model.specs.Plays.{same_point}
use Rattle.strategy_model.proofs.PlayLemmas.{link_sound}
use Rattle.strategy_model.proofs.KindLemmas.{Ending, not_ending}
use Rattle.net_model.specs.Moments.{moment_of}
use Rattle.execution_model.specs.Execution.{Setting, link_to, acted, time_runs}
use Rattle.execution_model.specs.Feeds.{Execution, next_moment, moments_to, moments_before}
use Rattle.execution_model.specs.Streams.{Listing}
use Rattle.execution_model.specs.Timely.{CompletesInTime, IsInTime, with_completed, AreInTime}
use Rattle.execution_model.specs.Laws.{setting_of}
use Rattle.execution_model.proofs.MomentLemmas.{length-completed_all}
use Rattle.execution_model.proofs.PlaceLemmas.{ending_of, link_found, ending_point, contingent_ending, ending_contingent, not_completed, has_completed}
use Rattle.execution_model.proofs.FedLemmas.{after_listing, after_all}
use Rattle.execution_model.proofs.CutLemmas.{IsCut, IsSeen, IsRun, lasts, acts_cut, not_sooner, cut_value}
use Rattle.execution_model.proofs.TimeLemmas.{NoneComes, cut_same, time_cut}

-- a listing is what a schedule shows next, from a moment on: its points are the contingent points that come from there up to its moment,
-- and come at it
pub record IsNext (net : Plan) (schedule : List ℕ) (from : ℕ) (listing : Listing) : Type 0 where
  pub later : from ≤ listing.moment
  pub once : IsDistinct same_point listing.points
  pub comes : (point : PointId) → Contains listing.points point → IsContingent net point × (moment_in schedule point ≡ listing.moment)
  pub listed : (point : PointId) → IsContingent net point → from ≤ moment_in schedule point → moment_in schedule point ≤ listing.moment → Contains listing.points point

-- and so are several, one after the other
abbrev pub AreNext : Plan → List ℕ → ℕ → List Listing → Type 0
AreNext net schedule from [] = Unit {0}
AreNext net schedule from (listing ∷ others) = IsNext net schedule from listing × AreNext net schedule (listing.moment + 1) others

-- the moment after the last listing
abbrev pub end_of : ℕ → List Listing → ℕ
end_of from [] = from
end_of from (listing ∷ others) = end_of (listing.moment + 1) others

pub end_after : (execution : Execution) (listings : List Listing) → next_moment (after_all execution listings) ≡ end_of (next_moment execution) listings
end_after execution [] = refl
end_after execution (listing ∷ others) = end_after (after_listing execution listing) others

-- an execution that keeps to a schedule
pub record KeepsTo (net : Plan) (table : Graph) (schedule : List ℕ) (execution : Execution) : Type 0 where
  pub setting : execution.setting ≡ setting_of net table
  pub cut : IsCut net schedule execution.moments (next_moment execution)

module _ (net : Plan) (table : Graph) (schedule : List ℕ) (run : IsRun net table schedule) where
  -- time runs to a listing
  pub cut_before : (execution : Execution) (moment : ℕ) → KeepsTo net table schedule execution → next_moment execution ≤ moment → NoneComes net schedule (next_moment execution) moment
      → IsCut net schedule (moments_before execution moment) moment
  cut_before execution moment keeps later none =
      let there : next_moment execution + moments_to execution moment ≡ moment = omega (arith, later) in
      cut_same net schedule (moments_before execution moment) (next_moment execution + moments_to execution moment) moment there
      (subst
      (λ (setting : Setting). IsCut net schedule (time_runs setting execution.moments (next_moment execution) (moments_to execution moment)) (next_moment execution + moments_to execution moment))
      (sym keeps.setting)
      (time_cut net table schedule run (moments_to execution moment) execution.moments (next_moment execution) keeps.cut
      (λ point ending at_least below. none point ending at_least (omega (arith, below, there)))))

  pub none_before : (from : ℕ) (listing : Listing) → IsNext net schedule from listing → NoneComes net schedule from listing.moment
  none_before from listing is point ending at_least below =
      let listed = is.listed point (ending_contingent net point ending) at_least (omega (arith, below)) in
      let same = (is.comes point listed).1 in
      omega (arith, same, below)

  module _ (execution : Execution) (listing : Listing) (keeps : KeepsTo net table schedule execution) (is : IsNext net schedule (next_moment execution) listing) where
    before : IsCut net schedule (moments_before execution listing.moment) listing.moment
    before = cut_before execution listing.moment keeps is.later (none_before (next_moment execution) listing is)

    same_links : execution.setting.links ≡ net.links
    same_links = ap (λ (setting : Setting). setting.links) keeps.setting

    -- what is listed completes in time
    completes : (point : PointId) → Contains listing.points point → CompletesInTime execution.setting (moments_before execution listing.moment) listing.moment point
    completes point among =
        let (contingent, now) = is.comes point among in
        let ending = contingent_ending net point contingent in
        let link = ending.link in
        let its = lasts net table schedule run ending.name link ending.declared in
        let at : moment_in schedule link.to ≡ moment_in schedule point = ap (moment_in schedule) ending.ends in
        let lasting = its.is in
        let low = its.low in
        let high = its.high in
        let one = its.positive in
        record {
          link = link;
          ends = link_found net run.plan execution.setting same_links point ending;
          is_open = before.unknown point (ending_point net run.plan point ending) (omega (arith, now));
          activated = moment_in schedule link.from;
          active = before.known link.from (link_sound net run.plan ending.name.0 link ending.declared).from_point (omega (arith, now, at, lasting, low, one));
          not_too_soon = omega (arith, now, at, lasting, low);
          not_too_late = omega (arith, now, at, lasting, high);
        }

    -- and nothing is left out
    none_left : (point : PointId) (link : Link) (activated : ℕ) → link_to execution.setting point ≡ Some link → moment_of (moments_before execution listing.moment) point ≡ None
        → moment_of (moments_before execution listing.moment) link.from ≡ Some activated → activated + unsigned_abs link.high ≤ listing.moment → Contains listing.points point
    none_left point link activated found unknown active reached = by (ending_of net run.plan execution.setting same_links point link found)
      where
        by : (ending : Ending net point) × (ending.link ≡ link) → Contains listing.points point
        by (ending, same) =
            let within = ending_point net run.plan point ending in
            let declared = subst (λ (l : Link). IsLinkOf net ending.name l) same ending.declared in
            let sound = link_sound net run.plan ending.name.0 link declared in
            let its = lasts net table schedule run ending.name link declared in
            let at : moment_in schedule link.to ≡ moment_in schedule point = ap (λ (l : Link). moment_in schedule l.to) (sym same) ∙ ap (moment_in schedule) ending.ends in
            let lasting = its.is in
            let high = its.high in
            let contingent = ending_contingent net point ending in
            let not_yet : listing.moment ≤ moment_in schedule point = not_sooner net schedule (moments_before execution listing.moment) listing.moment before point within unknown in
            let is_activated : moment_in schedule link.from ≡ activated =
            sym (cut_value net schedule (moments_before execution listing.moment) listing.moment before link.from activated sound.from_point active).0 in
            is.listed point contingent (let later = is.later in omega (arith, later, not_yet)) (omega (arith, reached, is_activated, lasting, high, at))

    in_time : IsInTime execution listing.moment listing.points
    in_time = record {
      later = is.later;
      once = is.once;
      completes =
          All-weaker (Contains listing.points) (CompletesInTime execution.setting (moments_before execution listing.moment) listing.moment) completes listing.points
          (All-contains_itself listing.points);
      none_left = none_left;
    }

    -- the completions are those of the schedule
    pub seen : IsSeen net schedule (with_completed execution listing.moment listing.points) listing.moment
    seen =
        record {
          long = length-completed_all listing.moment (moments_before execution listing.moment) listing.points ∙ before.long;
          known = known;
          completed = completed;
          not_yet = not_yet;
          unknown = unknown;
        }
      where
        kept : (point : PointId) → (Contains listing.points point → ⊥)
            → moment_of (with_completed execution listing.moment listing.points) point ≡ moment_of (moments_before execution listing.moment) point
        kept = not_completed (moments_before execution listing.moment) listing.moment listing.points

        known : (point : PointId) → IsPoint net point → moment_in schedule point < listing.moment
            → moment_of (with_completed execution listing.moment listing.points) point ≡ Some (moment_in schedule point)
        known point within less =
            kept point (λ among. let now = (is.comes point among).1 in omega (arith, now, less)) ∙ before.known point within less

        completed : (point : PointId) → Ending net point → moment_in schedule point ≡ listing.moment
            → moment_of (with_completed execution listing.moment listing.points) point ≡ Some listing.moment
        completed point ending now =
            let within = ending_point net run.plan point ending in
            has_completed (moments_before execution listing.moment) listing.moment listing.points point (let long = before.long in omega (arith, within, long))
            (is.listed point (ending_contingent net point ending) (let later = is.later in omega (arith, later, now)) (omega (arith, now)))

        not_yet : (point : PointId) → Ending net point → listing.moment < moment_in schedule point → moment_of (with_completed execution listing.moment listing.points) point ≡ None
        not_yet point ending above =
            kept point (λ among. let now = (is.comes point among).1 in omega (arith, now, above)) ∙ before.unknown point (ending_point net run.plan point ending) (omega (arith, above))

        unknown : (point : PointId) → IsExecutable net point → listing.moment ≤ moment_in schedule point
            → moment_of (with_completed execution listing.moment listing.points) point ≡ None
        unknown point executable above =
            kept point (λ among. not_ending net point executable (contingent_ending net point (is.comes point among).0)) ∙ before.unknown point executable.0 above

    -- so after the feed the execution keeps to the schedule
    pub after_keeps : KeepsTo net table schedule (after_listing execution listing)
    after_keeps = record {
      setting = keeps.setting;
      cut = cut_same net schedule (acted execution.setting (with_completed execution listing.moment listing.points) listing.moment) (suc listing.moment) (listing.moment + 1) (omega arith)
          (subst (λ (setting : Setting). IsCut net schedule (acted setting (with_completed execution listing.moment listing.points) listing.moment) (suc listing.moment)) (sym keeps.setting)
          (acts_cut net table schedule run (with_completed execution listing.moment listing.points) listing.moment seen));
    }

  -- and so it is with several feeds
  pub feeds_in_time : (listings : List Listing) (execution : Execution) → KeepsTo net table schedule execution → AreNext net schedule (next_moment execution) listings
      → AreInTime execution listings
  feeds_in_time [] execution keeps are = tt
  feeds_in_time (listing ∷ others) execution keeps (is, are) =
      (in_time execution listing keeps is, feeds_in_time others (after_listing execution listing) (after_keeps execution listing keeps is) are)

  pub feeds_keep : (listings : List Listing) (execution : Execution) → KeepsTo net table schedule execution → AreNext net schedule (next_moment execution) listings
      → KeepsTo net table schedule (after_all execution listings)
  feeds_keep [] execution keeps are = keeps
  feeds_keep (listing ∷ others) execution keeps (is, are) =
      feeds_keep others (after_listing execution listing) (after_keeps execution listing keeps is) are
