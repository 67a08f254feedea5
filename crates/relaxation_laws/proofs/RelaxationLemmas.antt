-- What a strategy of a network is worth in one to which that is relaxed.
use Rattle.std.proofs.Common.{◌≡◌, ℕ, ◌+◌, ◌≤◌, List, [], ◌∷◌, ◌++◌, length, get_or, Option, Some, refl, sym, ap, ◌∙◌, arith}
use Rattle.std.specs.List.{All, AllZip}
use Rattle.std.proofs.lemmas.Int.{ints}
use Rattle.std.proofs.lemmas.List.Elements.{All-contains, All-contains_itself, All-push, All-weaker, Contains-append_left, Contains-push}
use Rattle.net_model.specs.Network.{IsPlan, Plan}
use Rattle.net_model.specs.declared.part.Bound.{Bound}
use Rattle.net_model.specs.declared.part.Link.{Link}
use Rattle.strategy_model.specs.Dispatch.{AgreeUpTo}
use Rattle.strategy_model.specs.LooserLaws.{IsLoosened}
use Rattle.strategy_model.specs.Plays.{play}
use Rattle.strategy_model.specs.Situations.{IsDuration, IsSituation, Keeps, Satisfies, moment_in}
use Rattle.relaxation_laws.specs.DelayedStrategies.{IsDynamicAsShown}
use Rattle.relaxation_laws.specs.Laws.{LowerDelaysRelax, RelaxationsCompose, RelaxedAreControllable, RelaxedAreNoLater, RelaxedArePlayedAlike, SameStrategiesControlRelaxed}
use Rattle.relaxation_laws.specs.Relaxations.{IsImplied, IsNarrowed, IsRelaxed}
use Rattle.relaxation_laws.proofs.SamePlayLemmas.{same_play}
use Rattle.relaxation_laws.proofs.ShownStrategyLemmas.{law_dynamic_as_shown_are_trees, law_trees_are_dynamic_as_shown, or_empty}

-- ---- a network is relaxed to itself, and so on
loosened_itself : (bound : Bound) → IsLoosened bound bound
loosened_itself bound = (refl, refl, omega (arith, ints))

pub implied_itself : (bounds : List Bound) → All (IsImplied bounds) bounds
implied_itself bounds k bound inside = record { implying = get_or bounds k bound; among = All-contains_itself bounds k bound inside; loosened = loosened_itself (get_or bounds k bound) }

pub narrowed_itself : (links : List Link) → AllZip IsNarrowed links links
narrowed_itself [] = tt
narrowed_itself (link ∷ links) = ((refl, refl, omega (arith, ints), omega (arith, ints)), narrowed_itself links)

implied_further : (bounds others : List Bound) → All (IsImplied bounds) others → (bound : Bound) → IsImplied others bound → IsImplied bounds bound
implied_further bounds others implied bound further =
    let first = All-contains (IsImplied bounds) others further.implying implied further.among in
    let one = first.loosened in
    let two = further.loosened in
    let less = one.2 in
    let more = two.2 in
    record { implying = first.implying; among = first.among; loosened = (one.0 ∙ two.0, one.1 ∙ two.1, omega (arith, ints, less, more)) }

narrowed_further : (links others thirds : List Link) → AllZip IsNarrowed links others → AllZip IsNarrowed others thirds → AllZip IsNarrowed links thirds
narrowed_further [] [] [] first second = tt
narrowed_further [] [] (l ∷ thirds) first second = absurd second
narrowed_further [] (l ∷ others) thirds first second = absurd first
narrowed_further (l ∷ links) [] thirds first second = absurd first
narrowed_further (l ∷ links) (m ∷ others) [] first second = absurd second
narrowed_further (l ∷ links) (m ∷ others) (n ∷ thirds) first second =
    let one = first.0 in
    let two = second.0 in
    let low = one.2 in
    let lower = two.2 in
    let high = one.3 in
    let higher = two.3 in
    ((one.0 ∙ two.0, one.1 ∙ two.1, omega (arith, ints, low, lower), omega (arith, ints, high, higher)), narrowed_further links others thirds first.1 second.1)

pub law_relaxations_compose : RelaxationsCompose
law_relaxations_compose = record {
  itself = λ net. record { points = refl; bounds = implied_itself net.bounds; links = narrowed_itself net.links; delay = omega arith };
  composed = λ net other third first second. record {
    points = first.points ∙ second.points;
    bounds = All-weaker (IsImplied other.bounds) (IsImplied net.bounds) (implied_further net.bounds other.bounds first.bounds) third.bounds second.bounds;
    links = narrowed_further net.links other.links third.links first.links second.links;
    delay = (let one = first.delay in let two = second.delay in omega (arith, one, two));
  };
}

pub law_lower_delays_relax : LowerDelaysRelax
law_lower_delays_relax net delay lower = record { points = refl; bounds = implied_itself net.bounds; links = narrowed_itself net.links; delay = lower }

-- one bound more in both, in the second one that is as loose or looser
pub relaxed_with_bound : (net other : Plan) → IsRelaxed net other → (bound loosened : Bound) → IsLoosened bound loosened
    → IsRelaxed (record net { bounds = net.bounds ++ bound ∷ [] }) (record other { bounds = other.bounds ++ loosened ∷ [] })
relaxed_with_bound net other relaxed bound loosened looser = record {
  points = relaxed.points;
  bounds = All-push (IsImplied (net.bounds ++ bound ∷ [])) other.bounds loosened
      (All-weaker (IsImplied net.bounds) (IsImplied (net.bounds ++ bound ∷ []))
      (λ further implied. record { implying = implied.implying; among = Contains-append_left net.bounds (bound ∷ []) implied.implying implied.among; loosened = implied.loosened }) other.bounds relaxed.bounds)
      (record { implying = bound; among = Contains-push net.bounds bound; loosened = looser });
  links = relaxed.links;
  delay = relaxed.delay;
}

-- ---- situations and schedules
situation_of : (links others : List Link) (durations : List ℕ) → AllZip IsNarrowed links others → AllZip IsDuration others durations → AllZip IsDuration links durations
situation_of [] [] [] narrowed picks = tt
situation_of [] [] (d ∷ durations) narrowed picks = absurd picks
situation_of [] (m ∷ others) durations narrowed picks = absurd narrowed
situation_of (l ∷ links) [] durations narrowed picks = absurd narrowed
situation_of (l ∷ links) (m ∷ others) [] narrowed picks = absurd picks
situation_of (l ∷ links) (m ∷ others) (d ∷ durations) narrowed picks =
    let low = narrowed.0.2 in
    let high = narrowed.0.3 in
    let from = picks.0.0 in
    let to = picks.0.1 in
    ((omega (arith, ints, low, from), omega (arith, ints, high, to)), situation_of links others durations narrowed.1 picks.1)

keeps_looser : (schedule : List ℕ) (bound other : Bound) → IsLoosened bound other → Keeps schedule bound → Keeps schedule other
keeps_looser schedule bound other (same_from, same_to, less) kept =
    let from = ap (moment_in schedule) same_from in
    let to = ap (moment_in schedule) same_to in
    omega (arith, ints, from, to, less, kept)

module _ (net other : Plan) (relaxed : IsRelaxed net other) where
  -- its situations are situations of the network
  situation_within : (situation : List ℕ) → IsSituation other situation → IsSituation net situation
  situation_within situation picks = situation_of net.links other.links situation relaxed.links picks

  -- what satisfies the network satisfies it
  satisfies_relaxed : (schedule : List ℕ) → Satisfies net schedule → Satisfies other schedule
  satisfies_relaxed schedule satisfies = record {
    complete = satisfies.complete ∙ ap length relaxed.points;
    keeps = λ k bound inside.
        let implied = relaxed.bounds k bound inside in
        keeps_looser schedule implied.implying (get_or other.bounds k bound) implied.loosened (All-contains (Keeps schedule) net.bounds implied.implying satisfies.keeps implied.among);
  }

pub law_same_strategies_control_relaxed : SameStrategiesControlRelaxed
law_same_strategies_control_relaxed strategy net other relaxed same_delay controls situation is =
    let (schedule, played, satisfies) = controls situation (situation_within net other relaxed situation is) in
    (schedule, same_play net other relaxed same_delay strategy situation ∙ played, satisfies_relaxed net other relaxed schedule satisfies)

-- ---- a lower delay
module _ (net : Plan) (delay : ℕ) (lower : delay ≤ net.delay) where
  abbrev with_delay : Plan
  with_delay = record net { delay = delay }

  lower_sound : IsPlan net → IsPlan with_delay
  lower_sound plan = record {
    points_named = plan.points_named;
    points_apart = plan.points_apart;
    bounds_sound = λ k bound inside.
        let sound = plan.bounds_sound k bound inside in
        let fits = sound.shown_within in
        record { named = sound.named; from_point = sound.from_point; to_point = sound.to_point; within = sound.within; shown_within = omega (arith, fits, lower) };
    bounds_apart = plan.bounds_apart;
    links_sound = λ k link inside.
        let sound = plan.links_sound k link inside in
        let fits = sound.shown_within in
        record {
          from_point = sound.from_point;
          to_point = sound.to_point;
          apart = sound.apart;
          positive = sound.positive;
          interval = sound.interval;
          within = sound.within;
          shown_within = omega (arith, fits, lower);
        };
    links_apart = plan.links_apart;
    few_points = plan.few_points;
    few_bounds = plan.few_bounds;
    few_links = plan.few_links;
    short_delay = (let short = plan.short_delay in omega (arith, short, lower));
  }

  agree_sooner : (t a b : ℕ) → AgreeUpTo t (a + delay) (b + delay) → AgreeUpTo t (a + net.delay) (b + net.delay)
  agree_sooner t a b agree = (λ by_then. let same = agree.0 (omega (arith, by_then, lower)) in omega (arith, same), λ by_then. let same = agree.1 (omega (arith, by_then, lower)) in omega (arith, same))

  -- what depends on what is shown late depends on what is shown sooner
  dynamic_sooner : (schedule_of : List ℕ → List ℕ) → IsDynamicAsShown net schedule_of → IsDynamicAsShown with_delay schedule_of
  dynamic_sooner schedule_of dynamic = record {
    complete = dynamic.complete;
    lasting = dynamic.lasting;
    seen_alone = λ first second t is_first is_second same.
        dynamic.seen_alone first second t is_first is_second (λ name link declared. agree_sooner t (moment_in (schedule_of first) link.to) (moment_in (schedule_of second) link.to) (same name link declared));
  }

pub law_relaxed_are_played_alike : RelaxedArePlayedAlike
law_relaxed_are_played_alike strategy net other plan relaxed controls =
    let schedule_of : List ℕ → List ℕ = λ situation. or_empty (play strategy net situation) in
    let plays : (situation : List ℕ) → IsSituation net situation → play strategy net situation ≡ Some (schedule_of situation) =
    λ situation is. let (schedule, played, satisfies) = controls situation is in played ∙ ap Some (sym (ap or_empty played)) in
    let lower = with_delay net other.delay relaxed.delay in
    let dynamic = dynamic_sooner net other.delay relaxed.delay schedule_of (law_trees_are_dynamic_as_shown net strategy schedule_of plan plays) in
    let (another, plays_sooner) = law_dynamic_as_shown_are_trees lower schedule_of (lower_sound net other.delay relaxed.delay plan) dynamic in
    let rest : IsRelaxed lower other = record { points = relaxed.points; bounds = relaxed.bounds; links = relaxed.links; delay = omega arith } in
    let alike : (situation : List ℕ) → IsSituation other situation → play another other situation ≡ play strategy net situation =
    λ situation is.
    let within = situation_within net other relaxed situation is in
    same_play lower other rest refl another situation ∙ (plays_sooner situation within ∙ sym (plays situation within)) in (
      another,
      λ situation is.
          let (schedule, played, satisfies) = controls situation (situation_within net other relaxed situation is) in
          (schedule, alike situation is ∙ played, satisfies_relaxed net other relaxed schedule satisfies),
      alike,
    )

pub law_relaxed_are_controllable : RelaxedAreControllable
law_relaxed_are_controllable net other plan relaxed (strategy, controls) =
    let (another, its, alike) = law_relaxed_are_played_alike strategy net other plan relaxed controls in
    (another, its)

pub law_relaxed_are_no_later : RelaxedAreNoLater
law_relaxed_are_no_later net other situation schedule sooner plan relaxed earliest its_earliest =
    let (another, its, alike) = law_relaxed_are_played_alike earliest.strategy net other plan relaxed earliest.controls in
    its_earliest.earliest another schedule its (alike situation its_earliest.is_situation ∙ earliest.played)
