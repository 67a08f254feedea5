-- Strategies that are dynamic under a delay are those that are dynamic in the shown form, so they are what trees play.
use Rattle.std.proofs.Common.{◌≡◌, ℕ, zero, suc, ◌+◌, ◌-◌, Bool, true, false, cond, List, [], ◌∷◌, drop, length, get_or, Option, Some, None, is_some, refl, sym, ap, subst, ◌∙◌, arith}
use Rattle.std.specs.Prelude.{slice_get, unwrap_or}
use Rattle.std.specs.List.{AllZip}
use Rattle.std.specs.Option.{option_map}
use Rattle.std.proofs.lemmas.Option.{none-some, same_Some, slice_get-map}
use Rattle.net_model.specs.Edges.{IsLinkOf}
use Rattle.net_model.specs.Network.{Plan, IsPlan, IsExecutable, activation}
use Rattle.net_model.specs.ShownForm.{gain, lag, shown_durations, shown_form, shown_link, shown_situation}
use Rattle.net_model.specs.declared.ids.LinkId.{LinkId}
use Rattle.net_model.specs.declared.ids.PointId.{PointId}
use Rattle.net_model.specs.declared.part.Link.{Link}
use Rattle.strategy_model.specs.Dispatch.{AgreeUpTo, IsDynamic}
use Rattle.strategy_model.specs.Plays.{play, points_of}
use Rattle.strategy_model.specs.ShownSchedules.{shown_moments, shown_schedule}
use Rattle.strategy_model.specs.Situations.{IsDuration, IsSituation, moment_in}
use Rattle.strategy_model.proofs.CompareLemmas.{duration_of}
use Rattle.strategy_model.proofs.MomentLemmas.{contingent}
use Rattle.strategy_model.proofs.PlayLemmas.{link_sound}
use Rattle.strategy_model.proofs.PlayedLemmas.{law_trees_are_dynamic}
use Rattle.strategy_model.proofs.ShownFormLemmas.{durations_shown, law_shown_form_is_instant, moment_in_shown, play_as_shown, play_stated, situation_stated, size_shown}
use Rattle.strategy_model.proofs.ShownPlayLemmas.{activation_shown, some_from_none}
use Rattle.strategy_model.proofs.UnfoldLemmas.{law_dynamic_strategies_are_trees}
use Rattle.relaxation_laws.specs.DelayedStrategies.{IsDynamicAsShown}
use Rattle.relaxation_laws.specs.Laws.{DynamicAsShownAreTrees, TreesAreDynamicAsShown}

agree_along : (t a b c d : ℕ) → a ≡ c → b ≡ d → AgreeUpTo t a b → AgreeUpTo t c d
agree_along t a b c d first second agree =
    subst (λ (n : ℕ). AgreeUpTo t c n) second (subst (λ (m : ℕ). AgreeUpTo t m b) first agree)

sum_of_both : (b : Bool) (delay : ℕ) → cond b delay 0 + cond b 0 delay ≡ delay
sum_of_both true delay = omega arith
sum_of_both false delay = omega arith

mapped_back : (f : Link → Link) (o : Option Link) (y : Link) → option_map f o ≡ Some y → (x : Link) × (o ≡ Some x) × (f x ≡ y)
mapped_back f None y is = absurd (none-some y is)
mapped_back f (Some x) y is = (x, refl, same_Some (f x) y is)

module _ (net : Plan) where
  -- schedules are one if they are shown as one
  shown_once : (points : List PointId) (xs ys : List ℕ) → shown_moments net points xs ≡ shown_moments net points ys → xs ≡ ys
  shown_once [] [] [] same = refl
  shown_once [] [] (y ∷ ys) same = same
  shown_once [] (x ∷ xs) [] same = same
  shown_once [] (x ∷ xs) (y ∷ ys) same = same
  shown_once (p ∷ points) [] [] same = refl
  shown_once (p ∷ points) [] (y ∷ ys) same = let size = ap length same in absurd (omega (arith, size))
  shown_once (p ∷ points) (x ∷ xs) [] same = let size = ap length same in absurd (omega (arith, size))
  shown_once (p ∷ points) (x ∷ xs) (y ∷ ys) same =
      let head = ap (λ (zs : List ℕ). get_or zs 0 0) same in
      let first : x ≡ y = omega (arith, head) in
      let rest = shown_once points xs ys (ap (λ (zs : List ℕ). drop 1 zs) same) in
      λ i. first i ∷ rest i

  -- the duration of a link as it is shown
  duration_shown : (links : List Link) (durations : List ℕ) (k : ℕ) (link : Link) (duration : ℕ) → slice_get links k ≡ Some link → slice_get durations k ≡ Some duration
      → slice_get (shown_durations net links durations) k ≡ Some (duration + gain net link)
  duration_shown [] durations k link duration declared lasts = absurd (none-some link declared)
  duration_shown (l ∷ links) [] k link duration declared lasts = absurd (none-some duration lasts)
  duration_shown (l ∷ links) (d ∷ durations) zero link duration declared lasts =
      let one = same_Some l link declared in
      let two = same_Some d duration lasts in
      λ i. Some (two i + gain net (one i))
  duration_shown (l ∷ links) (d ∷ durations) (suc k) link duration declared lasts = duration_shown links durations k link duration declared lasts

  -- the durations that are shown as these
  stated_durations : List Link → List ℕ → List ℕ
  stated_durations (link ∷ links) (duration ∷ durations) = (duration - gain net link) ∷ stated_durations links durations
  stated_durations links durations = []

  stated_once : (links : List Link) (durations : List ℕ) → AllZip IsDuration links durations → stated_durations links (shown_durations net links durations) ≡ durations
  unfolding stated_durations
  stated_once [] [] picks = refl
  stated_once [] (d ∷ durations) picks = absurd picks
  stated_once (link ∷ links) [] picks = absurd picks
  stated_once (link ∷ links) (d ∷ durations) picks =
      let back : (d + gain net link) - gain net link ≡ d = omega arith in
      let rest = stated_once links durations picks.1 in
      λ i. back i ∷ rest i

  module _ (plan : IsPlan net) where
    lag_of_completion : (name : LinkId) (link : Link) → IsLinkOf net name link → lag net link.to ≡ net.delay
    lag_of_completion name link declared =
        ap (λ (b : Bool). cond b net.delay 0) (some_from_none net (activation net link.to) (contingent net name.0 link declared))

    link_shown : (name : LinkId) (link : Link) → IsLinkOf net name link → IsLinkOf (shown_form net) name (shown_link net link)
    link_shown name link declared = slice_get-map (shown_link net) net.links name.0 ∙ ap (option_map (shown_link net)) declared

    link_stated : (name : LinkId) (link : Link) → IsLinkOf (shown_form net) name link → (stated : Link) × IsLinkOf net name stated × (shown_link net stated ≡ link)
    link_stated name link declared =
        mapped_back (shown_link net) (slice_get net.links name.0) link (sym (slice_get-map (shown_link net) net.links name.0) ∙ declared)

    executable_shown : (point : PointId) → IsExecutable net point → IsExecutable (shown_form net) point
    executable_shown point (within, none) = (within, ap is_some (activation_shown net point) ∙ none)

    executable_stated : (point : PointId) → IsExecutable (shown_form net) point → IsExecutable net point
    executable_stated point (within, none) = (within, sym (ap is_some (activation_shown net point)) ∙ none)

    -- moments as they are shown
    module _ (schedule : List ℕ) (complete : length schedule ≡ length net.points) where
      completion_shown : (name : LinkId) (link : Link) → IsLinkOf net name link → moment_in (shown_schedule net schedule) link.to ≡ moment_in schedule link.to + net.delay
      completion_shown name link declared =
          moment_in_shown net schedule link.to complete (link_sound net plan name.0 link declared).to_point ∙ ap (λ (n : ℕ). moment_in schedule link.to + n) (lag_of_completion name link declared)

      activation_at : (name : LinkId) (link : Link) → IsLinkOf net name link → moment_in (shown_schedule net schedule) link.from ≡ moment_in schedule link.from + lag net link.from
      activation_at name link declared = moment_in_shown net schedule link.from complete (link_sound net plan name.0 link declared).from_point

      execution_shown : (point : PointId) → IsExecutable net point → moment_in (shown_schedule net schedule) point ≡ moment_in schedule point
      execution_shown point (within, none) =
          let later = moment_in_shown net schedule point complete within in
          let at_once : lag net point ≡ 0 = ap (λ (b : Bool). cond b net.delay 0) none in
          omega (arith, later, at_once)

      -- a link lasts its duration exactly if it does as it is shown
      lasts_shown : (name : LinkId) (link : Link) (duration : ℕ) → IsLinkOf net name link → moment_in schedule link.to ≡ moment_in schedule link.from + duration
          → moment_in (shown_schedule net schedule) link.to ≡ moment_in (shown_schedule net schedule) link.from + (duration + gain net link)
      lasts_shown name link duration declared lasts =
          let to = completion_shown name link declared in
          let from = activation_at name link declared in
          let whole = sum_of_both (is_some (activation net link.from)) net.delay in
          omega (arith, to, from, whole, lasts)

      lasts_stated : (name : LinkId) (link : Link) (duration : ℕ) → IsLinkOf net name link
          → moment_in (shown_schedule net schedule) link.to ≡ moment_in (shown_schedule net schedule) link.from + (duration + gain net link)
          → moment_in schedule link.to ≡ moment_in schedule link.from + duration
      lasts_stated name link duration declared lasts =
          let to = completion_shown name link declared in
          let from = activation_at name link declared in
          let whole = sum_of_both (is_some (activation net link.from)) net.delay in
          omega (arith, to, from, whole, lasts)

    -- ---- a strategy and the one that has its schedules as they are shown
    module _ (schedule_of shown_of : List ℕ → List ℕ) (shows : (situation : List ℕ) → IsSituation net situation → shown_of (shown_situation net situation) ≡ shown_schedule net (schedule_of situation)) where
      as_stated : IsDynamic (shown_form net) shown_of → IsDynamicAsShown net schedule_of
      as_stated dynamic = record { complete = complete; lasting = lasting; seen_alone = seen_alone }
        where
          is_shown : (situation : List ℕ) → IsSituation net situation → IsSituation (shown_form net) (shown_situation net situation)
          is_shown situation is = durations_shown net net.links situation is

          complete : (situation : List ℕ) → IsSituation net situation → length (schedule_of situation) ≡ length net.points
          complete situation is =
              sym (size_shown net (points_of net) (schedule_of situation)) ∙ (sym (ap length (shows situation is)) ∙ dynamic.complete (shown_situation net situation) (is_shown situation is))

          lasting : (situation : List ℕ) (name : LinkId) (link : Link) (duration : ℕ) → IsSituation net situation → IsLinkOf net name link → slice_get situation name.0 ≡ Some duration
              → moment_in (schedule_of situation) link.to ≡ moment_in (schedule_of situation) link.from + duration
          lasting situation name link duration is declared lasts =
              lasts_stated (schedule_of situation) (complete situation is) name link duration declared
              (subst (λ (s : List ℕ). moment_in s link.to ≡ moment_in s link.from + (duration + gain net link)) (shows situation is)
              (dynamic.lasting (shown_situation net situation) name (shown_link net link) (duration + gain net link) (is_shown situation is) (link_shown name link declared)
              (duration_shown net.links situation name.0 link duration declared lasts)))

          seen_alone : (first second : List ℕ) (t : ℕ) → IsSituation net first → IsSituation net second
              → ((name : LinkId) (link : Link) → IsLinkOf net name link → AgreeUpTo t (moment_in (schedule_of first) link.to + net.delay) (moment_in (schedule_of second) link.to + net.delay))
              → (point : PointId) → IsExecutable net point → AgreeUpTo t (moment_in (schedule_of first) point) (moment_in (schedule_of second) point)
          seen_alone first second t is_first is_second same point executable =
              let at_first = ap (λ (s : List ℕ). moment_in s point) (shows first is_first) ∙ execution_shown (schedule_of first) (complete first is_first) point executable in
              let at_second = ap (λ (s : List ℕ). moment_in s point) (shows second is_second) ∙ execution_shown (schedule_of second) (complete second is_second) point executable in
              agree_along t _ _ _ _ at_first at_second
              (dynamic.seen_alone (shown_situation net first) (shown_situation net second) t (is_shown first is_first) (is_shown second is_second) completions point (executable_shown point executable))
            where
              completions : (name : LinkId) (link : Link) → IsLinkOf (shown_form net) name link → AgreeUpTo t (moment_in (shown_of (shown_situation net first)) link.to) (moment_in (shown_of (shown_situation net second)) link.to)
              completions name link declared =
                  let (stated, its, is) = link_stated name link declared in
                  let to = ap (λ (l : Link). l.to) is in
                  let first_shown = ap (λ (s : List ℕ). moment_in s link.to) (shows first is_first) ∙ ap (moment_in (shown_schedule net (schedule_of first))) (sym to) in
                  let second_shown = ap (λ (s : List ℕ). moment_in s link.to) (shows second is_second) ∙ ap (moment_in (shown_schedule net (schedule_of second))) (sym to) in
                  agree_along t _ _ _ _ (sym (first_shown ∙ completion_shown (schedule_of first) (complete first is_first) name stated its))
                  (sym (second_shown ∙ completion_shown (schedule_of second) (complete second is_second) name stated its)) (same name stated its)

      as_shown : IsDynamicAsShown net schedule_of → IsDynamic (shown_form net) shown_of
      as_shown dynamic = record { complete = complete; lasting = lasting; seen_alone = seen_alone }
        where
          -- what is given in the situation that is shown as this
          shown_in : (situation stated : List ℕ) → IsSituation net stated → shown_situation net stated ≡ situation → shown_of situation ≡ shown_schedule net (schedule_of stated)
          shown_in situation stated is same = ap shown_of (sym same) ∙ shows stated is

          complete : (situation : List ℕ) → IsSituation (shown_form net) situation → length (shown_of situation) ≡ length net.points
          complete situation is =
              let (stated, is_stated, same) = situation_stated net plan situation is in
              ap length (shown_in situation stated is_stated same) ∙ (size_shown net (points_of net) (schedule_of stated) ∙ dynamic.complete stated is_stated)

          lasting : (situation : List ℕ) (name : LinkId) (link : Link) (duration : ℕ) → IsSituation (shown_form net) situation → IsLinkOf (shown_form net) name link → slice_get situation name.0 ≡ Some duration
              → moment_in (shown_of situation) link.to ≡ moment_in (shown_of situation) link.from + duration
          lasting situation name link duration is declared lasts =
              let (stated, is_stated, same) = situation_stated net plan situation is in
              let (its, its_declared, its_shown) = link_stated name link declared in
              let (short, lasts_stated, fits) = duration_of net.links stated name.0 its is_stated its_declared in
              let long : short + gain net its ≡ duration =
              same_Some (short + gain net its) duration (sym (duration_shown net.links stated name.0 its short its_declared lasts_stated) ∙ (ap (λ (s : List ℕ). slice_get s name.0) same ∙ lasts)) in
              let here = shown_in situation stated is_stated same in
              let to = ap (λ (s : List ℕ). moment_in s link.to) here ∙ ap (λ (l : Link). moment_in (shown_schedule net (schedule_of stated)) l.to) (sym its_shown) in
              let from = ap (λ (s : List ℕ). moment_in s link.from) here ∙ ap (λ (l : Link). moment_in (shown_schedule net (schedule_of stated)) l.from) (sym its_shown) in
              let after = lasts_shown (schedule_of stated) (dynamic.complete stated is_stated) name its short its_declared (dynamic.lasting stated name its short is_stated its_declared lasts_stated) in
              omega (arith, to, from, after, long)

          seen_alone : (first second : List ℕ) (t : ℕ) → IsSituation (shown_form net) first → IsSituation (shown_form net) second
              → ((name : LinkId) (link : Link) → IsLinkOf (shown_form net) name link → AgreeUpTo t (moment_in (shown_of first) link.to) (moment_in (shown_of second) link.to))
              → (point : PointId) → IsExecutable (shown_form net) point → AgreeUpTo t (moment_in (shown_of first) point) (moment_in (shown_of second) point)
          seen_alone first second t is_first is_second same point executable =
              let (one, is_one, same_one) = situation_stated net plan first is_first in
              let (two, is_two, same_two) = situation_stated net plan second is_second in
              let here = shown_in first one is_one same_one in
              let there = shown_in second two is_two same_two in
              let stated = executable_stated point executable in
              let at_first = ap (λ (s : List ℕ). moment_in s point) here ∙ execution_shown (schedule_of one) (dynamic.complete one is_one) point stated in
              let at_second = ap (λ (s : List ℕ). moment_in s point) there ∙ execution_shown (schedule_of two) (dynamic.complete two is_two) point stated in
              let completions : (name : LinkId) (link : Link) → IsLinkOf net name link → AgreeUpTo t (moment_in (schedule_of one) link.to + net.delay) (moment_in (schedule_of two) link.to + net.delay) =
              λ name link declared. agree_along t _ _ _ _ (ap (λ (s : List ℕ). moment_in s link.to) here ∙ completion_shown (schedule_of one) (dynamic.complete one is_one) name link declared)
              (ap (λ (s : List ℕ). moment_in s link.to) there ∙ completion_shown (schedule_of two) (dynamic.complete two is_two) name link declared) (same name (shown_link net link) (link_shown name link declared)) in
              agree_along t _ _ _ _ (sym at_first) (sym at_second) (dynamic.seen_alone one two t is_one is_two completions point stated)

-- the schedule of a play, if there is one
abbrev pub or_empty : Option (List ℕ) → List ℕ
or_empty schedule = unwrap_or schedule []

pub law_trees_are_dynamic_as_shown : TreesAreDynamicAsShown
law_trees_are_dynamic_as_shown net strategy schedule_of plan plays =
    let shown_of : List ℕ → List ℕ = λ situation. or_empty (play strategy (shown_form net) situation) in
    let plays_shown : (situation : List ℕ) → IsSituation net situation → play strategy (shown_form net) (shown_situation net situation) ≡ Some (shown_schedule net (schedule_of situation)) =
    λ situation is. play_as_shown net strategy situation (schedule_of situation) (plays situation is) in
    let shows : (situation : List ℕ) → IsSituation net situation → shown_of (shown_situation net situation) ≡ shown_schedule net (schedule_of situation) = λ situation is. ap or_empty (plays_shown situation is) in
    let plays_all : (situation : List ℕ) → IsSituation (shown_form net) situation → play strategy (shown_form net) situation ≡ Some (shown_of situation) =
    λ situation is.
    let (stated, is_stated, same) = situation_stated net plan situation is in
    subst (λ (s : List ℕ). play strategy (shown_form net) s ≡ Some (shown_of s)) same (plays_shown stated is_stated ∙ ap Some (sym (shows stated is_stated))) in
    as_stated net plan schedule_of shown_of shows (law_trees_are_dynamic (shown_form net) strategy shown_of (law_shown_form_is_instant net plan) plays_all)

pub law_dynamic_as_shown_are_trees : DynamicAsShownAreTrees
law_dynamic_as_shown_are_trees net schedule_of plan dynamic =
    let shown_of : List ℕ → List ℕ = λ situation. shown_schedule net (schedule_of (stated_durations net net.links situation)) in
    let shows : (situation : List ℕ) → IsSituation net situation → shown_of (shown_situation net situation) ≡ shown_schedule net (schedule_of situation) =
    λ situation is. ap (λ (s : List ℕ). shown_schedule net (schedule_of s)) (stated_once net net.links situation is) in
    let (strategy, plays) = law_dynamic_strategies_are_trees (shown_form net) shown_of (law_shown_form_is_instant net plan) (as_shown net plan schedule_of shown_of shows dynamic) in (
      strategy,
      λ situation is.
          let (stated, its_play, same) = play_stated net strategy situation (shown_schedule net (schedule_of situation)) (plays (shown_situation net situation) (durations_shown net net.links situation is) ∙ ap Some (shows situation is)) in
          its_play ∙ ap Some (shown_once net (points_of net) stated (schedule_of situation) same),
    )
