-- Streams of a network with a delay are those of its shown form.
use Rattle.std.proofs.Common.{◌≡◌, ◌⊎◌, inl, inr, ℕ, zero, suc, ◌+◌, ◌==◌, ◌&&◌, List, [], ◌∷◌, ◌++◌, length, map, Option, Some, None, is_some, is_none, refl, sym, ap, ◌∙◌, subst, arith}
use Rattle.std.specs.Prelude.{IsSome, slice_get, if◌then◌else◌}
use Rattle.std.specs.List.{slice_index}
use Rattle.std.proofs.lemmas.List.Elements.{filter_agree}
use Rattle.std.proofs.lemmas.Option.{same_Some, slice_get_within}
use Rattle.net_model.specs.Network.{Plan, IsPlan, IsContingent, IsPoint, activation}
use Rattle.net_model.specs.ShownForm.{lag, shown_form, shown_situation}
use Rattle.net_model.specs.declared.ids.LinkId.{LinkId}
use Rattle.net_model.specs.declared.ids.PointId.{PointId}
use Rattle.strategy_model.specs.Control.{IsEarliest}
use Rattle.strategy_model.specs.Plays.{points_of}
use Rattle.strategy_model.specs.ShownSchedules.{shown_moments, shown_schedule}
use Rattle.strategy_model.specs.Situations.{moment_in}
use Rattle.strategy_model.proofs.KindLemmas.{Ending, kind_of_any}
use Rattle.strategy_model.proofs.MomentLemmas.{point_at}
use Rattle.strategy_model.proofs.PlayLemmas.{link_sound}
use Rattle.strategy_model.proofs.ShownFormLemmas.{law_earliest_is_shown, many_points, moment_in_shown, law_situations_are_shown}
use Rattle.strategy_model.proofs.ShownPlayLemmas.{activation_shown}
use Rattle.execution_model.specs.Acts.{executes_at, scheduled, scheduled_at}
use Rattle.execution_model.specs.ShownStreams.{ActsAreShown, FitsAsShown, ListsAsShown, StreamsAreShown}
use Rattle.execution_model.specs.Streams.{FitsSituation, HasGoneBy, IsListed, Shows, Stream, fixed_by}
use Rattle.execution_model.specs.declared.feed_answers.Act.{Act}

none_or_some : (o : Option LinkId) → o ≡ None → IsSome o → ⊥
none_or_some None none some = absurd cc
none_or_some (Some link) none some = absurd (cc (none))

-- an earliest schedule has a moment for each point
earliest_long : (net : Plan) (situation schedule : List ℕ) → IsEarliest net situation schedule → length schedule ≡ length net.points
earliest_long net situation schedule earliest =
    let (played, is, satisfies) = earliest.controls situation earliest.is_situation in
    let same : played ≡ schedule = (let both = sym is ∙ earliest.played in cc) in
    subst (λ (s : List ℕ). length s ≡ length net.points) same satisfies.complete

module _ (net : Plan) where
  -- a contingent point is shown the delay after its moment
  late : (point : PointId) → IsContingent net point → lag net point ≡ net.delay
  late point is = by (activation net point) is
    where
      by : (o : Option LinkId) → IsSome o → (if is_some o then net.delay else 0) ≡ net.delay
      by (Some link) some = refl
      by None some = absurd cc

  -- and is a point of the network
  contingent_within : IsPlan net → (point : PointId) → IsContingent net point → IsPoint net point
  contingent_within plan point is = by (kind_of_any net point)
    where
      by : (activation net point ≡ None) ⊎ Ending net point → IsPoint net point
      by (inl none) = absurd (none_or_some (activation net point) none is)
      by (inr ending) = subst (IsPoint net) ending.ends (link_sound net plan ending.name.0 ending.link ending.declared).to_point

  contingent_shown : (point : PointId) → IsContingent net point → IsContingent (shown_form net) point
  contingent_shown point = subst IsSome (sym (activation_shown net point))

  contingent_stated : (point : PointId) → IsContingent (shown_form net) point → IsContingent net point
  contingent_stated point = subst IsSome (activation_shown net point)

  module _ (plan : IsPlan net) (stream : Stream) (schedule : List ℕ) (long : length schedule ≡ length net.points) where
    shown_at : (point : PointId) → IsContingent net point → moment_in (shown_schedule net schedule) point ≡ moment_in schedule point + net.delay
    shown_at point is = moment_in_shown net schedule point long (contingent_within plan point is) ∙ ap (λ (n : ℕ). moment_in schedule point + n) (late point is)

    lists_shown : ListsAsShown net stream schedule → Shows (shown_form net) stream (shown_schedule net schedule)
    lists_shown lists = record {
      rises = lists.rises;
      once = lists.once;
      listed = λ point moment is.
          let (contingent, at) = lists.listed point moment is in
          (contingent_shown point contingent, shown_at point contingent ∙ sym at);
      complete = λ point is gone.
          let contingent = contingent_stated point is in
          let at = shown_at point contingent in
          subst (IsListed stream point) (sym at) (lists.complete point contingent (subst (HasGoneBy stream) at gone));
    }

    shown_lists : Shows (shown_form net) stream (shown_schedule net schedule) → ListsAsShown net stream schedule
    shown_lists shows = record {
      rises = shows.rises;
      once = shows.once;
      listed = λ point moment is.
          let (contingent, at) = shows.listed point moment is in
          let stated = contingent_stated point contingent in
          (stated, sym at ∙ shown_at point stated);
      complete = λ point is gone.
          let at = shown_at point is in
          subst (IsListed stream point) at (shows.complete point (contingent_shown point is) (subst (HasGoneBy stream) (sym at) gone));
    }

  module _ (plan : IsPlan net) (stream : Stream) where
    fits_shown : (situation : List ℕ) (stated : FitsAsShown net stream situation)
        → (shown : FitsSituation (shown_form net) stream (shown_situation net situation)) × (shown.schedule ≡ shown_schedule net stated.schedule)
    fits_shown situation stated = (
      record {
        schedule = shown_schedule net stated.schedule;
        earliest = (law_earliest_is_shown net situation plan).0 stated.schedule stated.earliest;
        shows = lists_shown plan stream stated.schedule (earliest_long net situation stated.schedule stated.earliest) stated.lists;
      },
      refl,
    )

    stated_fits : (situation : List ℕ) (shown : FitsSituation (shown_form net) stream situation)
        → (stated : List ℕ) × (its : FitsAsShown net stream stated) × (shown_situation net stated ≡ situation) × (shown_schedule net its.schedule ≡ shown.schedule)
    stated_fits situation fits =
        let (stated, is_situation, same) = (law_situations_are_shown net situation plan).1 fits.earliest.is_situation in
        let earliest = subst (λ (s : List ℕ). IsEarliest (shown_form net) s fits.schedule) (sym same) fits.earliest in
        let (schedule, is_earliest, as_shown) = (law_earliest_is_shown net stated plan).1 fits.schedule is_situation earliest in
        let shows = subst (Shows (shown_form net) stream) (sym as_shown) fits.shows in
        (stated, record { schedule = schedule; earliest = is_earliest; lists = shown_lists plan stream schedule (earliest_long net stated schedule is_earliest) shows }, same, as_shown)

pub law_streams_are_shown : StreamsAreShown
law_streams_are_shown net stream plan = record {
  fits = fits_shown net plan stream;
  only = stated_fits net plan stream;
  faithful = (
    λ faithful. (shown_situation net faithful.0, (fits_shown net plan stream faithful.0 faithful.1).0),
    λ faithful. let stated = stated_fits net plan stream faithful.0 faithful.1 in (stated.0, stated.1),
  );
  execution = λ moments. (
    λ executes.
        let shown = fits_shown net plan stream executes.situation executes.fits in
        record { situation = shown_situation net executes.situation; fits = shown.0; fixed = executes.fixed ∙ ap (fixed_by stream) (sym shown.1) },
    λ executes.
        let stated = stated_fits net plan stream executes.situation executes.fits in
        record { situation = stated.0; fits = stated.1; fixed = executes.fixed ∙ ap (fixed_by stream) (sym stated.3) },
  );
}

-- ---- the acts
module _ (net : Plan) where
  -- if a point is shown at once, its moment is as it was
  same_moment : (points : List PointId) (moments : List ℕ) (k : ℕ) → ((point : PointId) → slice_get points k ≡ Some point → lag net point ≡ 0)
      → slice_index (shown_moments net points moments) k ≡ slice_index moments k
  same_moment [] [] k at_once = refl
  same_moment [] (m ∷ moments) k at_once = refl
  same_moment (p ∷ points) [] k at_once = refl
  same_moment (p ∷ points) (m ∷ moments) zero at_once = let none = at_once p refl in omega (arith, none)
  same_moment (p ∷ points) (m ∷ moments) (suc k) at_once = same_moment points moments k at_once

  executable_at_once : (point : PointId) → activation net point ≡ None → lag net point ≡ 0
  executable_at_once point none = ap (λ (o : Option LinkId). if is_some o then net.delay else 0) none

  its_number : (point other : PointId) → slice_get (points_of net) point.0 ≡ Some other → other ≡ point
  its_number point other there =
      let inside = slice_get_within (points_of net) point.0 other there in
      let many = many_points net in
      same_Some other point (sym there ∙ point_at net point (omega (arith, inside, many)))

  module _ (schedule : List ℕ) (moment : ℕ) where
    executes_same : (point : PointId) → executes_at (shown_form net) (shown_schedule net schedule) moment point ≡ executes_at net schedule moment point
    executes_same point = ap (λ (o : Option LinkId). is_none o && (moment_in (shown_schedule net schedule) point == moment)) (activation_shown net point) ∙ by (activation net point) refl
      where
        by : (o : Option LinkId) → activation net point ≡ o → (is_none o && (moment_in (shown_schedule net schedule) point == moment)) ≡ (is_none o && (moment_in schedule point == moment))
        by (Some link) is = refl
        by None is =
            let same = same_moment (points_of net) schedule point.0 (λ other there. ap (lag net) (its_number point other there) ∙ executable_at_once point is) in
            ap (λ (n : ℕ). n == moment) same

    acts_same : scheduled_at (shown_form net) (shown_schedule net schedule) moment ≡ scheduled_at net schedule moment
    acts_same =
        let act : PointId → Act = λ point. record { moment = moment; point = point } in
        ap (map act) (filter_agree (executes_at (shown_form net) (shown_schedule net schedule) moment) (executes_at net schedule moment) executes_same (points_of net))

pub law_acts_are_shown : ActsAreShown
law_acts_are_shown net schedule moment zero = refl
law_acts_are_shown net schedule moment (suc count) =
    ap (λ (acts : List Act). acts ++ scheduled (shown_form net) (shown_schedule net schedule) (suc moment) count) (acts_same net schedule moment)
    ∙ ap (λ (acts : List Act). scheduled_at net schedule moment ++ acts) (law_acts_are_shown net schedule (suc moment) count)
