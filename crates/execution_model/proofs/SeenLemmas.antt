-- Feeds that are in time list what the schedule of the situation that they show does.
use Rattle.std.proofs.Common.{◌≡◌, ℕ, zero, suc, ◌+◌, ◌-◌, ◌≤◌, List, [], ◌∷◌, Option, Some, None, inl, inr, refl, ap, sym, subst, ◌∙◌, arith}
use Rattle.std.specs.Prelude.{unsigned_abs}
use Rattle.std.specs.List.{Contains}
use Rattle.std.proofs.lemmas.Bool.{cases_lt}
use Rattle.std.proofs.lemmas.List.Elements.{All-contains}
use Rattle.std.proofs.lemmas.Option.{none-some, same_Some}
use Rattle.net_model.specs.Network.{Plan, IsContingent}
use Rattle.net_model.specs.Edges.{IsLinkOf}
use Rattle.net_model.specs.declared.ids.PointId.{PointId}
use Rattle.net_model.specs.declared.ids.LinkId.{LinkId}
use Rattle.net_model.specs.declared.part.Link.{Link}
use Rattle.closure_model.specs.Tables.{Graph}
use Rattle.strategy_model.specs.Situations.{moment_in}
use Rattle.strategy_model.proofs.PlayLemmas.{link_sound}
use Rattle.strategy_model.proofs.KindLemmas.{Ending}
use Rattle.net_model.specs.Moments.{Moments, moment_of}
use Rattle.execution_model.specs.Execution.{Setting, time_runs}
use Rattle.execution_model.specs.Feeds.{Execution, next_moment, moments_to, moments_before}
use Rattle.execution_model.specs.Streams.{Listing}
use Rattle.execution_model.specs.Timely.{CompletesInTime, IsInTime, AreInTime}
use Rattle.execution_model.specs.Laws.{IsExecutionOf}
use Rattle.execution_model.proofs.MomentLemmas.{length-time_runs, time_runs_keeps, time_runs_on}
use Rattle.execution_model.proofs.PlaceLemmas.{link_found, ending_of, ending_point, contingent_ending, ending_contingent}
use Rattle.execution_model.proofs.CutLemmas.{IsCut, IsRun, lasts, cut_value}
use Rattle.execution_model.proofs.TimeLemmas.{NoneComes, time_cut}
use Rattle.execution_model.proofs.FittingLemmas.{IsNext, AreNext, KeepsTo, cut_before, after_keeps}
use Rattle.execution_model.proofs.FedLemmas.{after_listing, after_all, listed_of}
use Rattle.execution_model.proofs.SituationLemmas.{before_contingent, feed_keeps, feed_listed, all_keep, comes_with_first, comes_after, EachLasted, duration_seen, seen_lasts, not_seen_lasts}

-- the schedule that is executed in the situation that the moments at the end show
pub record IsShownBy (net : Plan) (table : Graph) (schedule : List ℕ) (final : Moments) : Type 0 where
  pub run : IsRun net table schedule
  pub each : EachLasted net final
  pub timed : (name : LinkId) (link : Link) → IsLinkOf net name link → moment_in schedule link.to ≡ moment_in schedule link.from + duration_seen final link

module _ (net : Plan) (table : Graph) (schedule : List ℕ) (final : Moments) (shown : IsShownBy net table schedule final) where
  -- a link whose completion was seen ends then
  seen_end : (name : LinkId) (link : Link) (c a : ℕ) → IsLinkOf net name link → moment_of final link.to ≡ Some c → moment_of final link.from ≡ Some a
      → moment_in schedule link.from ≡ a → moment_in schedule link.to ≡ c
  seen_end name link c a declared completed active is_activated =
      let its = shown.each name link c declared completed in
      let same : its.activated ≡ a = same_Some its.activated a (sym its.active ∙ active) in
      let low = its.low in
      let lasting = shown.timed name link declared in
      let duration = seen_lasts net shown.run.plan final shown.each name link c a completed active in
      omega (arith, lasting, duration, is_activated, same, low)

  open_end : (name : LinkId) (link : Link) → IsLinkOf net name link → moment_of final link.to ≡ None → moment_in schedule link.to ≡ moment_in schedule link.from + unsigned_abs link.high
  open_end name link declared open_still = shown.timed name link declared ∙ ap (λ d. moment_in schedule link.from + d) (not_seen_lasts net shown.run.plan final shown.each link open_still)

  module _ (execution : Execution) (of : IsExecutionOf net execution) (keeps : KeepsTo net table schedule execution) (listing : Listing) (others : List Listing)
      (in_time : IsInTime execution listing.moment listing.points) (are : AreInTime (after_listing execution listing) others) (is_final : (after_all execution (listing ∷ others)).moments ≡ final) where
    -- what has come before the listing is among the moments at the end
    finally : (point : PointId) (m : ℕ) → moment_of (moments_before execution listing.moment) point ≡ Some m → moment_of final point ≡ Some m
    finally point m found =
        ap (λ (ms : Moments). moment_of ms point) (sym is_final)
        ∙ all_keep net others (after_listing execution listing) (listed_of net execution listing of) are point m (feed_keeps net execution of listing in_time point m found)

    listed_finally : (point : PointId) → Ending net point → Contains listing.points point → moment_of final point ≡ Some listing.moment
    listed_finally point ending among =
        ap (λ (ms : Moments). moment_of ms point) (sym is_final)
        ∙ all_keep net others (after_listing execution listing) (listed_of net execution listing of) are point listing.moment
        (feed_listed net execution of listing in_time point ending among)

    -- a contingent point that comes by the listing is listed, and comes at it
    reached_is_listed : (name : LinkId) (link : Link) → IsLinkOf net name link → next_moment execution ≤ moment_in schedule link.to → moment_in schedule link.to ≤ listing.moment
        → moment_of (moments_before execution listing.moment) link.from ≡ Some (moment_in schedule link.from) → Contains listing.points link.to × (moment_in schedule link.to ≡ listing.moment)
    reached_is_listed name link declared at_least by_then active = by (moment_of final link.to) refl
      where
        ending : Ending net link.to
        ending = record { name = name; link = link; declared = declared; ends = refl }

        unknown : moment_of execution.moments link.to ≡ None
        unknown = keeps.cut.unknown link.to (ending_point net shown.run.plan link.to ending) at_least

        by : (o : Option ℕ) → moment_of final link.to ≡ o → Contains listing.points link.to × (moment_in schedule link.to ≡ listing.moment)
        by None none =
            let ends = open_end name link declared none in
            let found = link_found net shown.run.plan execution.setting of.links link.to ending in
            let open_still = before_contingent net execution of listing.moment link.to ending ∙ unknown in
            let among = in_time.none_left link.to link (moment_in schedule link.from) found open_still active (omega (arith, ends, by_then)) in
            absurd (none-some listing.moment (sym none ∙ listed_finally link.to ending among))
        by (Some c) found =
            let ends = seen_end name link c (moment_in schedule link.from) declared found (finally link.from (moment_in schedule link.from) active) refl in
            let next = after_listing execution listing in
            let there : moment_of (after_all execution (listing ∷ others)).moments link.to ≡ Some c = ap (λ (ms : Moments). moment_of ms link.to) is_final ∙ found in
            let rest = λ (open_still : moment_of next.moments link.to ≡ None). comes_after net others next (listed_of net execution listing of) are link.to c ending open_still there in
            elim (comes_with_first net listing others execution of (in_time, are) link.to c ending unknown there rest) [
              | inl (among, now) ↦ (among, ends ∙ sym now)
              | inr after ↦ absurd (omega (arith, after, ends, by_then))
            ]

    -- no contingent point comes while time runs to it
    still : (k : ℕ) (point : PointId) (m : ℕ) → k ≤ moments_to execution listing.moment
        → moment_of (time_runs execution.setting execution.moments (next_moment execution) k) point ≡ Some m
        → moment_of (moments_before execution listing.moment) point ≡ Some m
    still k point m within found =
        let long = of.moments ∙ sym of.dispatch in
        let rest = moments_to execution listing.moment - k in
        let whole : k + rest ≡ moments_to execution listing.moment = omega (arith, within) in
        ap (λ (n : ℕ). moment_of (time_runs execution.setting execution.moments (next_moment execution) n) point) (sym whole)
        ∙ ap (λ (ms : Moments). moment_of ms point) (time_runs_on execution.setting execution.moments (next_moment execution) k rest)
        ∙ time_runs_keeps execution.setting (time_runs execution.setting execution.moments (next_moment execution) k) (next_moment execution + k) rest
        (length-time_runs execution.setting execution.moments (next_moment execution) k long) point m found

    none_until : (k : ℕ) → next_moment execution + k ≤ listing.moment → NoneComes net schedule (next_moment execution) (next_moment execution + k)
    none_until zero within point ending at_least below = omega (arith, at_least, below)
    none_until (suc k) within point ending at_least below =
        let sooner = none_until k (omega (arith, within)) in
        elim (cases_lt (moment_in schedule point) (next_moment execution + k)) [
          | inl less ↦ sooner point ending at_least less
          | inr above ↦ now sooner above
        ]
      where
        now : NoneComes net schedule (next_moment execution) (next_moment execution + k) → next_moment execution + k ≤ moment_in schedule point → ⊥
        now sooner above =
            let link = ending.link in
            let at : moment_in schedule link.to ≡ moment_in schedule point = ap (moment_in schedule) ending.ends in
            let its = lasts net table schedule shown.run ending.name link ending.declared in
            let lasting = its.is in
            let low = its.low in
            let one = its.positive in
            let cut : IsCut net schedule (time_runs execution.setting execution.moments (next_moment execution) k) (next_moment execution + k) =
            subst (λ (setting : Setting). IsCut net schedule (time_runs setting execution.moments (next_moment execution) k) (next_moment execution + k)) (sym keeps.setting)
            (time_cut net table schedule shown.run k execution.moments (next_moment execution) keeps.cut sooner) in
            let sound = link_sound net shown.run.plan ending.name.0 link ending.declared in
            let is_activated = cut.known link.from sound.from_point (omega (arith, at, lasting, low, one, below)) in
            let later = in_time.later in
            let active = still k link.from (moment_in schedule link.from) (omega (arith, within)) is_activated in
            let reached = reached_is_listed ending.name link ending.declared (omega (arith, at, at_least)) (omega (arith, at, below, within)) active in
            let is = reached.1 in
            omega (arith, is, at, below, within)

    before_cut : IsCut net schedule (moments_before execution listing.moment) listing.moment
    before_cut =
        let later = in_time.later in
        let until = none_until (listing.moment - next_moment execution) (omega (arith, later)) in
        cut_before net table schedule shown.run execution listing.moment keeps in_time.later (λ point ending at_least below. until point ending at_least (omega (arith, below, later)))

    comes : (point : PointId) → Contains listing.points point → IsContingent net point × (moment_in schedule point ≡ listing.moment)
    comes point among =
        let timely = All-contains (CompletesInTime execution.setting (moments_before execution listing.moment) listing.moment) listing.points point in_time.completes among in
        let (ending, same) = ending_of net shown.run.plan execution.setting of.links point timely.link timely.ends in
        let link = ending.link in
        let active : moment_of (moments_before execution listing.moment) link.from ≡ Some timely.activated =
        ap (λ (l : Link). moment_of (moments_before execution listing.moment) l.from) same ∙ timely.active in
        let sound = link_sound net shown.run.plan ending.name.0 link ending.declared in
        let is_activated = sym (cut_value net schedule (moments_before execution listing.moment) listing.moment before_cut link.from timely.activated sound.from_point active).0 in
        let found : moment_of final link.to ≡ Some listing.moment = ap (moment_of final) ending.ends ∙ listed_finally point ending among in (
          ending_contingent net point ending,
          sym (ap (moment_in schedule) ending.ends) ∙ seen_end ending.name link listing.moment timely.activated ending.declared found
              (finally link.from timely.activated active) is_activated,
        )

    listed : (point : PointId) → IsContingent net point → next_moment execution ≤ moment_in schedule point → moment_in schedule point ≤ listing.moment → Contains listing.points point
    listed point contingent at_least by_then =
        let ending = contingent_ending net point contingent in
        let link = ending.link in
        let at : moment_in schedule link.to ≡ moment_in schedule point = ap (moment_in schedule) ending.ends in
        let its = lasts net table schedule shown.run ending.name link ending.declared in
        let lasting = its.is in
        let low = its.low in
        let one = its.positive in
        let sound = link_sound net shown.run.plan ending.name.0 link ending.declared in
        let active = before_cut.known link.from sound.from_point (omega (arith, at, lasting, low, one, by_then)) in
        subst (Contains listing.points) ending.ends (reached_is_listed ending.name link ending.declared (omega (arith, at, at_least)) (omega (arith, at, by_then)) active).0

    is_next : IsNext net schedule (next_moment execution) listing
    is_next = record { later = in_time.later; once = in_time.once; comes = comes; listed = listed }

  pub in_time_next : (listings : List Listing) (execution : Execution) → IsExecutionOf net execution → KeepsTo net table schedule execution → AreInTime execution listings
      → (after_all execution listings).moments ≡ final → AreNext net schedule (next_moment execution) listings
  in_time_next [] execution of keeps are is_final = tt
  in_time_next (listing ∷ others) execution of keeps (is, are) is_final =
      let next_is = is_next execution of keeps listing others is are is_final in (
        next_is,
        in_time_next others (after_listing execution listing) (listed_of net execution listing of)
            (after_keeps net table schedule shown.run execution listing keeps next_is) are is_final,
      )
