-- A strong schedule of a network with a delay: in the shown form it has the same moments of the executable points, and every contingent point
-- comes the delay later.
use Rattle.std.proofs.Common.{◌≡◌, ℕ, zero, suc, ◌+◌, Bool, true, false, cond, List, [], ◌∷◌, Option, Some, None, map, length, slice_get, is_some, is_none, refl, ap, sym, subst, ◌∙◌, arith}
use Rattle.std.specs.List.{AllByRecursion, filter}
use Rattle.std.specs.Option.{option_map}
use Rattle.std.specs.Prelude.{nat_lt}
use Rattle.std.proofs.lemmas.Bool.{lt-ltb}
use Rattle.std.proofs.lemmas.Option.{same_Some, none-some, slice_get-map, slice_get_within}
use Rattle.net_model.specs.Network.{Plan, IsPlan, IsPoint, activation}
use Rattle.net_model.specs.Edges.{IsLinkOf}
use Rattle.net_model.specs.ShownForm.{lag, gain, shown_link, shown_form, shown_durations, shown_situation}
use Rattle.net_model.specs.declared.ids.PointId.{PointId}
use Rattle.net_model.specs.declared.ids.LinkId.{LinkId}
use Rattle.net_model.specs.declared.part.Link.{Link}
use Rattle.strategy_model.specs.Situations.{moment_in}
use Rattle.strategy_model.specs.Plays.{points_of}
use Rattle.strategy_model.specs.DispatchLaws.{DynamicStrategiesAreTrees}
use Rattle.strategy_model.specs.ShownSchedules.{shown_schedule}
use Rattle.strategy_model.proofs.PlayLemmas.{link_sound}
use Rattle.strategy_model.proofs.ShownFormLemmas.{moment_in_shown, satisfies_shown, situation_stated, law_controllable_is_shown, law_shown_form_is_instant}
use Rattle.strategy_model.proofs.ShownPlayLemmas.{activation_shown}
use Rattle.strong_plan.specs.Strong.{IsRightIn, IsStrongSchedule}
use Rattle.strong_plan.specs.Laws.{StrongIsControllable}
use Rattle.strong_plan.proofs.StrongLemmas.{each_point, none_false, place_of, instant_is_controllable}

-- the link that a link of the shown form shows
stated_link : (net : Plan) (name : LinkId) (link : Link) → IsLinkOf (shown_form net) name link → (stated : Link) × IsLinkOf net name stated × (shown_link net stated ≡ link)
stated_link net name link declared = by (slice_get net.links name.0) refl (sym (slice_get-map (shown_link net) net.links name.0) ∙ declared)
  where
    by : (o : Option Link) → slice_get net.links name.0 ≡ o → option_map (shown_link net) o ≡ Some link → (stated : Link) × IsLinkOf net name stated × (shown_link net stated ≡ link)
    by None is none = absurd (none-some link none)
    by (Some stated) is some = (stated, is, same_Some (shown_link net stated) link some)

-- and its duration
stated_duration : (net : Plan) (links : List Link) (durations : List ℕ) (k : ℕ) (link : Link) (shown : ℕ) → slice_get links k ≡ Some link → slice_get (shown_durations net links durations) k ≡ Some shown
    → (duration : ℕ) × (slice_get durations k ≡ Some duration) × (shown ≡ duration + gain net link)
stated_duration net [] durations k link shown here there = absurd (none-some link here)
stated_duration net (l ∷ links) [] k link shown here there = absurd (none-some shown there)
stated_duration net (l ∷ links) (d ∷ durations) zero link shown here there =
    (d, refl, sym (same_Some (d + gain net l) shown there) ∙ ap (λ (m : Link). d + gain net m) (same_Some l link here))
stated_duration net (l ∷ links) (d ∷ durations) (suc k) link shown here there = stated_duration net links durations k link shown here there

-- a contingent point lags by the delay; what its link's beginning lags and its durations gain is the delay too
lag_gain : (net : Plan) (link : Link) → lag net link.from + gain net link ≡ net.delay
lag_gain net link = by (is_some (activation net link.from)) refl
  where
    by : (b : Bool) → is_some (activation net link.from) ≡ b → lag net link.from + gain net link ≡ net.delay
    by true is = rw is (omega arith)
    by false is = rw is (omega arith)

module _ (net : Plan) (plan : IsPlan net) where
  active : (name : LinkId) (link : Link) → IsLinkOf net name link → activation net link.to ≡ Some name
  active name link declared =
      let within : nat_lt name.0 (length net.links) ≡ true = lt-ltb name.0 (length net.links) (slice_get_within net.links name.0 link declared) in
      rw (place_of net plan name link declared) (rw within refl)

  lag_to : (name : LinkId) (link : Link) → IsLinkOf net name link → lag net link.to ≡ net.delay
  lag_to name link declared = ap (λ (o : Option LinkId). cond (is_some o) net.delay 0) (active name link declared)

  same_times : (schedule : List ℕ) → length schedule ≡ length net.points → (points : List PointId) → AllByRecursion (IsPoint net) points
      → map (moment_in (shown_schedule net schedule)) (filter (λ p. is_none (activation (shown_form net) p)) points) ≡ map (moment_in schedule) (filter (λ p. is_none (activation net p)) points)
  same_times schedule size [] inside = refl
  same_times schedule size (point ∷ points) inside = by (is_none (activation net point)) refl (same_times schedule size points inside.1)
    where
      test : Bool
      test = is_none (activation (shown_form net) point)

      shown : List PointId
      shown = filter (λ p. is_none (activation (shown_form net) p)) points

      stated : List PointId
      stated = filter (λ p. is_none (activation net p)) points

      by : (b : Bool) → is_none (activation net point) ≡ b → map (moment_in (shown_schedule net schedule)) (filter (λ p. is_none (activation (shown_form net) p)) points) ≡ map (moment_in schedule)
          (filter (λ p. is_none (activation net p)) points)
          → map (moment_in (shown_schedule net schedule)) (cond (is_none (activation (shown_form net) point)) (point ∷ filter (λ p. is_none (activation (shown_form net) p)) points)
          (filter (λ p. is_none (activation (shown_form net) p)) points))
          ≡ map (moment_in schedule) (cond (is_none (activation net point)) (point ∷ filter (λ p. is_none (activation net p)) points) (filter (λ p. is_none (activation net p)) points))
      by true is rest =
          let shown_is : is_none (activation (shown_form net) point) ≡ true = ap is_none (activation_shown net point) ∙ is in
          let none : lag net point ≡ 0 = ap (λ (b : Bool). cond b net.delay 0) (none_false (activation net point) is) in
          let at = moment_in_shown net schedule point size inside.0 in
          let same : moment_in (shown_schedule net schedule) point ≡ moment_in schedule point = omega (arith, at, none) in
          rw (shown_is, is) (λ i. same i ∷ rest i)
      by false is rest =
          let shown_is : is_none (activation (shown_form net) point) ≡ false = ap is_none (activation_shown net point) ∙ is in
          rw (shown_is, is) rest

  right_as_shown : (times situation schedule : List ℕ) → IsRightIn net times situation schedule → IsRightIn (shown_form net) times (shown_situation net situation) (shown_schedule net schedule)
  right_as_shown times situation schedule right = record {
    has = same_times schedule size (points_of net) (each_point net (IsPoint net) (λ point inside. inside)) ∙ right.has;
    lasts = λ name link shown declared lasting.
        let (stated, its, is) = stated_link net name link declared in
        let (duration, stated_lasting, long) = stated_duration net net.links situation name.0 stated shown its lasting in
        let sound = link_sound net plan name.0 stated its in
        let lasts = right.lasts name stated duration its stated_lasting in
        let to = moment_in_shown net schedule stated.to size sound.to_point in
        let from = moment_in_shown net schedule stated.from size sound.from_point in
        let late = lag_to name stated its in
        let all = lag_gain net stated in
        let there : moment_in (shown_schedule net schedule) stated.to ≡ moment_in (shown_schedule net schedule) stated.from + shown = omega (arith, lasts, to, from, late, all, long) in
        subst (λ (l : Link). moment_in (shown_schedule net schedule) l.to ≡ moment_in (shown_schedule net schedule) l.from + shown) is there;
    satisfies = satisfies_shown net plan schedule right.satisfies;
  }
    where
      size : length schedule ≡ length net.points
      size = right.satisfies.complete

  pub strong_as_shown : (times : List ℕ) → IsStrongSchedule net times → IsStrongSchedule (shown_form net) times
  strong_as_shown times strong = record {
    right = λ situation is_situation.
        let (stated, its, same) = situation_stated net plan situation is_situation in
        let (schedule, right) = strong.right stated its in
        (shown_schedule net schedule, subst (λ (s : List ℕ). IsRightIn (shown_form net) times s (shown_schedule net schedule)) same (right_as_shown times stated schedule right));
  }

pub law_strong_is_controllable : DynamicStrategiesAreTrees → StrongIsControllable
law_strong_is_controllable trees net plan (times, strong) =
    (law_controllable_is_shown net plan).1 (instant_is_controllable trees (shown_form net) (law_shown_form_is_instant net plan) (times, strong_as_shown net plan times strong))
