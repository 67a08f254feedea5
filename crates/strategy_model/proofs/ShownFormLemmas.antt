-- Situations, schedules and control in the shown form.
use Rattle.std.proofs.Common.{◌≡◌, ℕ, zero, suc, ◌+◌, ◌-◌, ◌<◌, ◌≤◌, List, [], ◌∷◌, length, map, Option, Some, None, get_or, refl, sym, ap, subst, ◌∙◌, arith}
use Rattle.std.specs.Prelude.{slice_get}
use Rattle.std.specs.List.{AllByRecursion, AllZip, slice_index, range_with_len}
use Rattle.std.specs.Option.{option_map}
use Rattle.std.proofs.lemmas.Int.{ints}
use Rattle.std.proofs.lemmas.Option.{none-some, same_Some}
use Rattle.std.proofs.lemmas.List.{length-map}
use Rattle.std.proofs.lemmas.List.FromFn.{length-range_with_len}
use Rattle.std.proofs.lemmas.List.Elements.{All-map, recursion_from_All}
use Rattle.net_model.specs.Network.{Plan, IsPlan, IsLink, IsBound, IsPoint}
use Rattle.net_model.specs.declared.ids.PointId.{PointId}
use Rattle.net_model.specs.declared.part.Bound.{Bound}
use Rattle.net_model.specs.declared.part.Link.{Link}
use Rattle.strategy_model.specs.Situations.{IsDuration, IsSituation, Satisfies, Keeps, moment_in}
use Rattle.strategy_model.specs.Plays.{play, points_of}
use Rattle.strategy_model.specs.Control.{Controls, IsEarliest}
use Rattle.strategy_model.specs.declared.tree.Tree.{Tree}
use Rattle.strategy_model.proofs.MomentLemmas.{point_at}
use Rattle.net_model.specs.ShownForm.{lag, gain, shown_bound, shown_link, shown_form, shown_durations, shown_situation}
use Rattle.strategy_model.specs.ShownSchedules.{shown_moments, shown_schedule}
use Rattle.strategy_model.specs.ShownLaws.{SatisfiesAsShown, SituationsAreShown, ControlIsShown, ControllableIsShown, EarliestIsShown, ShownFormIsInstant}
use Rattle.net_model.proofs.ShownLemmas.{shown_sound}
use Rattle.strategy_model.proofs.ShownPlayLemmas.{law_plays_are_shown}

pub many_points : (net : Plan) → length (points_of net) ≡ length net.points
many_points net =
    length-map (range_with_len 0 (length net.points)) (λ (k : ℕ). let point : PointId = record { 0 = k } in point) ∙ length-range_with_len 0 (length net.points)

module _ (net : Plan) where
  -- the moment of a point in a schedule as it is shown
  moment_at : (points : List PointId) (moments : List ℕ) (k : ℕ) (point : PointId) → length moments ≡ length points → slice_get points k ≡ Some point
      → slice_index (shown_moments net points moments) k ≡ slice_index moments k + lag net point
  moment_at [] moments k point size there = absurd (none-some point there)
  moment_at (p ∷ points) [] k point size there = absurd (omega (arith, size))
  moment_at (p ∷ points) (m ∷ moments) zero point size there = ap (λ (q : PointId). m + lag net q) (same_Some p point there)
  moment_at (p ∷ points) (m ∷ moments) (suc k) point size there = moment_at points moments k point (omega (arith, size)) there

  pub size_shown : (points : List PointId) (moments : List ℕ) → length (shown_moments net points moments) ≡ length moments
  size_shown [] [] = refl
  size_shown [] (m ∷ moments) = refl
  size_shown (p ∷ points) [] = refl
  size_shown (p ∷ points) (m ∷ moments) = ap suc (size_shown points moments)

  pub moment_in_shown : (schedule : List ℕ) (point : PointId) → length schedule ≡ length net.points → IsPoint net point
      → moment_in (shown_schedule net schedule) point ≡ moment_in schedule point + lag net point
  moment_in_shown schedule point size within =
      moment_at (points_of net) schedule point.0 point (size ∙ sym (many_points net)) (point_at net point within)

  keeps_as_shown : (schedule : List ℕ) (bound : Bound) → length schedule ≡ length net.points → IsBound net bound → Keeps schedule bound → Keeps (shown_schedule net schedule) (shown_bound net bound)
  keeps_as_shown schedule bound size sound kept =
      let from = moment_in_shown schedule bound.from size sound.from_point in
      let to = moment_in_shown schedule bound.to size sound.to_point in
      omega (arith, ints, kept, from, to)

  keeps_as_stated : (schedule : List ℕ) (bound : Bound) → length schedule ≡ length net.points → IsBound net bound → Keeps (shown_schedule net schedule) (shown_bound net bound) → Keeps schedule bound
  keeps_as_stated schedule bound size sound kept =
      let from = moment_in_shown schedule bound.from size sound.from_point in
      let to = moment_in_shown schedule bound.to size sound.to_point in
      omega (arith, ints, kept, from, to)

  pub item_of_map : {A B : Type 0} (f : A → B) (xs : List A) (k : ℕ) (x : A) → get_or (map f xs) k (f x) ≡ f (get_or xs k x)
  item_of_map f [] k x = refl
  item_of_map f (y ∷ xs) zero x = refl
  item_of_map f (y ∷ xs) (suc k) x = item_of_map f xs k x

  pub satisfies_shown : IsPlan net → (schedule : List ℕ) → Satisfies net schedule → Satisfies (shown_form net) (shown_schedule net schedule)
  satisfies_shown plan schedule satisfies = record {
    complete = size_shown (points_of net) schedule ∙ satisfies.complete;
    keeps = All-map (Keeps (shown_schedule net schedule)) (shown_bound net) net.bounds
        (λ k bound inside. keeps_as_shown schedule (get_or net.bounds k bound) satisfies.complete (plan.bounds_sound k bound inside) (satisfies.keeps k bound inside));
  }

  pub satisfies_stated : IsPlan net → (schedule : List ℕ) → Satisfies (shown_form net) (shown_schedule net schedule) → Satisfies net schedule
  satisfies_stated plan schedule satisfies = record {
    complete = sym (size_shown (points_of net) schedule) ∙ satisfies.complete;
    keeps = λ k bound inside. keeps_as_stated schedule (get_or net.bounds k bound) (sym (size_shown (points_of net) schedule) ∙ satisfies.complete) (plan.bounds_sound k bound inside)
        (subst (Keeps (shown_schedule net schedule)) (item_of_map (shown_bound net) net.bounds k bound)
        (satisfies.keeps k (shown_bound net bound) (subst (λ (n : ℕ). k < n) (sym (length-map net.bounds (shown_bound net))) inside)));
  }

  -- the situations of the shown form
  pub durations_shown : (links : List Link) (durations : List ℕ) → AllZip IsDuration links durations → AllZip IsDuration (map (shown_link net) links) (shown_durations net links durations)
  durations_shown [] [] picks = tt
  durations_shown [] (d ∷ durations) picks = absurd picks
  durations_shown (link ∷ links) [] picks = absurd picks
  durations_shown (link ∷ links) (d ∷ durations) picks =
      let low = picks.0.0 in
      let high = picks.0.1 in
      ((omega (arith, ints, low), omega (arith, ints, high)), durations_shown links durations picks.1)

  durations_stated : (links : List Link) (durations : List ℕ) → AllByRecursion (IsLink net) links → AllZip IsDuration (map (shown_link net) links) durations
      → (stated : List ℕ) × AllZip IsDuration links stated × (shown_durations net links stated ≡ durations)
  durations_stated [] [] sound picks = ([], tt, refl)
  durations_stated [] (d ∷ durations) sound picks = absurd picks
  durations_stated (link ∷ links) [] sound picks = absurd picks
  durations_stated (link ∷ links) (d ∷ durations) sound picks =
      let low = picks.0.0 in
      let high = picks.0.1 in
      let positive = sound.0.positive in
      let (stated, are, is) = durations_stated links durations sound.1 picks.1 in
      let over : gain net link ≤ d = omega (arith, ints, low, positive) in
      let back : (d - gain net link) + gain net link ≡ d = omega (arith, over) in (
        (d - gain net link) ∷ stated,
        ((omega (arith, ints, low, back), omega (arith, ints, high, back)), are),
        ap (λ (e : ℕ). e ∷ shown_durations net links stated) back ∙ ap (λ (es : List ℕ). d ∷ es) is,
      )

  pub situation_stated : IsPlan net → (situation : List ℕ) → IsSituation (shown_form net) situation → (stated : List ℕ) × IsSituation net stated × (shown_situation net stated ≡ situation)
  situation_stated plan situation picks =
      durations_stated net.links situation (recursion_from_All (IsLink net) net.links plan.links_sound) picks

  mapped : (f : List ℕ → List ℕ) (o : Option (List ℕ)) (s : List ℕ) → option_map f o ≡ Some s → (r : List ℕ) × (o ≡ Some r) × (f r ≡ s)
  mapped f None s is = absurd (none-some s is)
  mapped f (Some r) s is = (r, refl, same_Some (f r) s is)

  -- a play of the shown form is a play as it is shown
  pub play_stated : (strategy : Tree) (situation schedule : List ℕ) → play strategy (shown_form net) (shown_situation net situation) ≡ Some schedule
      → (stated : List ℕ) × (play strategy net situation ≡ Some stated) × (shown_schedule net stated ≡ schedule)
  play_stated strategy situation schedule played =
      mapped (shown_schedule net) (play strategy net situation) schedule (sym (law_plays_are_shown net strategy situation) ∙ played)

  pub play_as_shown : (strategy : Tree) (situation schedule : List ℕ) → play strategy net situation ≡ Some schedule
      → play strategy (shown_form net) (shown_situation net situation) ≡ Some (shown_schedule net schedule)
  play_as_shown strategy situation schedule played =
      law_plays_are_shown net strategy situation ∙ ap (option_map (shown_schedule net)) played

  -- a strategy controls the network exactly if it controls the shown form
  pub controls_shown : IsPlan net → (strategy : Tree) → Controls strategy net → Controls strategy (shown_form net)
  controls_shown plan strategy controls situation is_situation =
      let (stated, is_stated, is) = situation_stated plan situation is_situation in
      let (schedule, played, satisfies) = controls stated is_stated in (
        shown_schedule net schedule,
        subst (λ (s : List ℕ). play strategy (shown_form net) s ≡ Some (shown_schedule net schedule)) is (play_as_shown strategy stated schedule played),
        satisfies_shown plan schedule satisfies,
      )

  pub controls_stated : IsPlan net → (strategy : Tree) → Controls strategy (shown_form net) → Controls strategy net
  controls_stated plan strategy controls situation is_situation =
      let (schedule, played, satisfies) = controls (shown_situation net situation) (durations_shown net.links situation is_situation) in
      let (stated, its_play, is) = play_stated strategy situation schedule played in
      (stated, its_play, satisfies_stated plan stated (subst (Satisfies (shown_form net)) (sym is) satisfies))

  -- sooner is sooner as shown
  sooner_shown : (points : List PointId) (first second : List ℕ) → AllZip (λ sooner later. sooner ≤ later) first second
      → AllZip (λ sooner later. sooner ≤ later) (shown_moments net points first) (shown_moments net points second)
  sooner_shown [] [] [] sooner = tt
  sooner_shown [] [] (n ∷ second) sooner = absurd sooner
  sooner_shown [] (m ∷ first) [] sooner = absurd sooner
  sooner_shown [] (m ∷ first) (n ∷ second) sooner = sooner
  sooner_shown (p ∷ points) [] [] sooner = tt
  sooner_shown (p ∷ points) [] (n ∷ second) sooner = absurd sooner
  sooner_shown (p ∷ points) (m ∷ first) [] sooner = absurd sooner
  sooner_shown (p ∷ points) (m ∷ first) (n ∷ second) sooner = let h = sooner.0 in (omega (arith, h), sooner_shown points first second sooner.1)

  sooner_stated : (points : List PointId) (first second : List ℕ) → AllZip (λ sooner later. sooner ≤ later) (shown_moments net points first) (shown_moments net points second)
      → AllZip (λ sooner later. sooner ≤ later) first second
  sooner_stated [] [] [] sooner = tt
  sooner_stated [] [] (n ∷ second) sooner = absurd sooner
  sooner_stated [] (m ∷ first) [] sooner = absurd sooner
  sooner_stated [] (m ∷ first) (n ∷ second) sooner = sooner
  sooner_stated (p ∷ points) [] [] sooner = tt
  sooner_stated (p ∷ points) [] (n ∷ second) sooner = absurd sooner
  sooner_stated (p ∷ points) (m ∷ first) [] sooner = absurd sooner
  sooner_stated (p ∷ points) (m ∷ first) (n ∷ second) sooner = let h = sooner.0 in (omega (arith, h), sooner_stated points first second sooner.1)

  pub earliest_shown : IsPlan net → (situation schedule : List ℕ) → IsEarliest net situation schedule → IsEarliest (shown_form net) (shown_situation net situation) (shown_schedule net schedule)
  earliest_shown plan situation schedule earliest = record {
    is_situation = durations_shown net.links situation earliest.is_situation;
    strategy = earliest.strategy;
    controls = controls_shown plan earliest.strategy earliest.controls;
    played = play_as_shown earliest.strategy situation schedule earliest.played;
    earliest = λ other played controls is.
        let (stated, its_play, shows) = play_stated other situation played is in
        subst (AllZip (λ sooner later. sooner ≤ later) (shown_schedule net schedule)) shows
        (sooner_shown (points_of net) schedule stated (earliest.earliest other stated (controls_stated plan other controls) its_play));
  }

  pub earliest_stated : IsPlan net → (situation schedule : List ℕ) → IsSituation net situation → IsEarliest (shown_form net) (shown_situation net situation) schedule
      → (stated : List ℕ) × IsEarliest net situation stated × (shown_schedule net stated ≡ schedule)
  earliest_stated plan situation schedule is_situation earliest =
      let (stated, its_play, shows) = play_stated earliest.strategy situation schedule earliest.played in (
        stated,
        record {
          is_situation = is_situation;
          strategy = earliest.strategy;
          controls = controls_stated plan earliest.strategy earliest.controls;
          played = its_play;
          earliest = λ other played controls is.
              sooner_stated (points_of net) stated played
              (subst (λ (s : List ℕ). AllZip (λ sooner later. sooner ≤ later) s (shown_schedule net played)) (sym shows)
              (earliest.earliest other (shown_schedule net played) (controls_shown plan other controls) (play_as_shown other situation played is)));
        },
        shows,
      )

pub law_satisfies_as_shown : SatisfiesAsShown
law_satisfies_as_shown net schedule plan = (satisfies_shown net plan schedule, satisfies_stated net plan schedule)

pub law_situations_are_shown : SituationsAreShown
law_situations_are_shown net situation plan = (durations_shown net net.links situation, situation_stated net plan situation)

pub law_control_is_shown : ControlIsShown
law_control_is_shown net strategy plan = (controls_shown net plan strategy, controls_stated net plan strategy)

pub law_earliest_is_shown : EarliestIsShown
law_earliest_is_shown net situation plan =
    (λ schedule. earliest_shown net plan situation schedule, λ schedule. earliest_stated net plan situation schedule)

pub law_controllable_is_shown : ControllableIsShown
law_controllable_is_shown net plan =
    (λ controllable. (controllable.0, controls_shown net plan controllable.0 controllable.1), λ controllable. (controllable.0, controls_stated net plan controllable.0 controllable.1))

pub law_shown_form_is_instant : ShownFormIsInstant
law_shown_form_is_instant net plan = record { sound = shown_sound net plan; no_delay = refl }
