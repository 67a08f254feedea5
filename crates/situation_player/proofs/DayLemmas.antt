-- A day is played out by feeding each next moment with what completes at it: so the execution keeps to the earliest schedule, and if no moment is next it is at its end.
use Rattle.std.proofs.Common.{◌≡◌, ℕ, ℤ, pos, ◌≤ℤ◌, zero, suc, ◌+◌, ◌-◌, ◌<◌, ◌≤◌, ◌^◌, ◌⊎◌, List, [], ◌∷◌, ◌++◌, length, Option, Some, None, inl, inr, refl, ap, sym, subst, ◌∙◌, arith}
use Rattle.std.specs.Prelude.{slice_get, unsigned_abs, IfSome}
use Rattle.std.specs.List.{All, Contains, zip}
use Rattle.std.proofs.lemmas.Bool.{cases_lt, leb-true}
use Rattle.std.proofs.lemmas.Int.{ints}
use Rattle.std.proofs.lemmas.List.Elements.{All-weaker, All-contains_itself}
use Rattle.std.proofs.lemmas.Option.{none-some, same_Some}
use Rattle.net_model.specs.Limits.{most_size, most_moment}
use Rattle.net_model.specs.Network.{Plan, IsPoint, IsContingent}
use Rattle.net_model.specs.Edges.{IsLinkOf}
use Rattle.net_model.specs.declared.ids.PointId.{PointId}
use Rattle.net_model.specs.declared.ids.LinkId.{LinkId}
use Rattle.net_model.specs.declared.part.Link.{Link}
use Rattle.closure_model.specs.Tables.{Graph}
use Rattle.closure_model.proofs.Lists.{Contains-map, Contains-map_from}
use Rattle.strategy_model.specs.Control.{IsEarliest}
use Rattle.strategy_model.specs.Situations.{moment_in}
use Rattle.strategy_model.proofs.CompareLemmas.{law_completion_follows_activation, duration_of}
use Rattle.strategy_model.proofs.KindLemmas.{Ending}
use Rattle.strategy_model.proofs.PlayLemmas.{link_sound}
use Rattle.dispatch_net.proofs.ExecutionLemmas.{dispatchable_length}
use Rattle.net_model.specs.Moments.{Moments, moment_of}
use Rattle.execution_model.specs.Execution.{Setting, acts_at, acted, time_runs}
use Rattle.execution_model.specs.Feeds.{Execution, next_moment, IsNextDue}
use Rattle.execution_model.specs.Streams.{Listing}
use Rattle.closure_laws.specs.Forward.{IsDispatchedForward}
use Rattle.execution_model.specs.Laws.{setting_of}
use Rattle.execution_model.specs.declared.feed_answers.Why.{Why}
use Rattle.execution_model.proofs.CutLemmas.{IsCut, IsRun, cut_value, not_sooner}
use Rattle.execution_model.proofs.FittingLemmas.{IsNext, AreNext, end_of, KeepsTo}
use Rattle.execution_model.proofs.LawLemmas.{run_of}
use Rattle.execution_model.proofs.MomentLemmas.{no_acts_same, come_not_due, none_due_no_acts}
use Rattle.execution_model.proofs.PlaceLemmas.{ending_point, contingent_ending, ending_contingent}
use Rattle.execution_model.proofs.TimeLemmas.{time_cut}
use Rattle.situation_player.specs.PlayedDays.{IsTimed, IsNextMoment, lasting_in, lastings_of, completion, first_completion, completing_at}
use Rattle.situation_player.specs.declared.played_day.Lasting.{Lasting}
use Rattle.situation_player.proofs.CompletionLemmas.{IsBy, sooner_first, sooner_second, sooner_is, first_by, first_is, active_from, completion_from, zipped, zips, completing_is, is_completing, completing_once}
use Rattle.situation_player.proofs.LateLemmas.{in_good_time}

-- ---- time in which no moment brings an act
quiet : (setting : Setting) (moments : Moments) (t count : ℕ) → length moments ≡ length setting.dispatch → ((k : ℕ) → t ≤ k → k < t + count → acts_at setting moments k ≡ [])
    → time_runs setting moments t count ≡ moments
quiet setting moments t zero long none = refl
quiet setting moments t (suc count) long none =
    let same : acted setting moments t ≡ moments = no_acts_same setting moments t long (none t (omega arith) (omega arith)) in
    ap (λ (ms : Moments). time_runs setting ms (suc t) count) same ∙ quiet setting moments (suc t) count long (λ k from below. none k (omega (arith, from)) (omega (arith, below)))

-- ---- what comes next, with one more listing
pub next_one : (net : Plan) (schedule : List ℕ) (from : ℕ) (listings : List Listing) (listing : Listing) → AreNext net schedule from listings
    → IsNext net schedule (end_of from listings) listing → AreNext net schedule from (listings ++ listing ∷ [])
next_one net schedule from [] listing are is = (is, tt)
next_one net schedule from (first ∷ others) listing (here, are) is = (here, next_one net schedule (first.moment + 1) others listing are is)

-- ---- no later than a moment
by_later : (o : Option ℕ) (t u : ℕ) → IsBy o t → t ≤ u → IsBy o u
by_later None t u by later = by
by_later (Some m) t u by later = omega (arith, by, later)

by_or_not : (o : Option ℕ) (t : ℕ) → IsBy o t ⊎ (IsBy o t → ⊥)
by_or_not None t = inr (λ by. by)
by_or_not (Some m) t = elim (cases_lt t m) [ inl above ↦ inr (λ by. omega (arith, above, by)) | inr within ↦ inl within ]

module _ (net : Plan) (table : Graph) (order : List PointId) (by : IsDispatchedForward net table order) (situation schedule : List ℕ) (earliest : IsEarliest net situation schedule) where
  run : IsRun net table schedule
  run = run_of net table order by situation schedule earliest

  abbrev lastings : List Lasting
  lastings = lastings_of net.links situation

  -- a link with its duration, as it lasts in the schedule
  record LastsSo (lasting : Lasting) : Type 0 where
    name : LinkId
    link : Link
    declared : IsLinkOf net name link
    is : lasting ≡ lasting_in (link, lasting.duration)
    some : 1 ≤ lasting.duration
    few : lasting.duration ≤ most_size
    lasting_in_it : moment_in schedule link.to ≡ moment_in schedule link.from + lasting.duration

  so_of : (name : LinkId) (link : Link) (duration : ℕ) → IsLinkOf net name link → slice_get situation name.0 ≡ Some duration → LastsSo (lasting_in (link, duration))
  so_of name link duration declared its =
      let (d, found, fits) = duration_of net.links situation name.0 link earliest.is_situation declared in
      let same : d ≡ duration = same_Some d duration (sym found ∙ its) in
      let sound = link_sound net run.plan name.0 link declared in
      let low = fits.0 in
      let high = fits.1 in
      let positive = sound.positive in
      let small : unsigned_abs link.high ≤ most_size = leb-true (unsigned_abs link.high) most_size sound.within in
      record {
        name = name;
        link = link;
        declared = declared;
        is = refl;
        some = positive_duration link.low d duration same positive low;
        few = small_duration link.high d duration same high small;
        lasting_in_it = law_completion_follows_activation net earliest.strategy situation schedule name link duration by.instant earliest.played declared its;
      }
    where
      positive_duration : (low : ℤ) (d duration : ℕ) → d ≡ duration → pos 1 ≤ℤ low → low ≤ℤ pos d → 1 ≤ duration
      positive_duration low d duration same positive above = omega (arith, ints)

      small_duration : (high : ℤ) (d duration : ℕ) → d ≡ duration → pos d ≤ℤ high → unsigned_abs high ≤ most_size → duration ≤ most_size
      small_duration high d duration same below small = omega (arith, ints)

  lasts_so : (lasting : Lasting) → Contains lastings lasting → LastsSo lasting
  lasts_so lasting among =
      let (pair, inside, is) = Contains-map_from lasting_in (zip net.links situation) lasting among in
      let (k, declared, its) = zipped net.links situation pair inside in
      subst LastsSo is (so_of (record { 0 = k }) pair.0 pair.1 declared its)

  from_point : (lasting : Lasting) → LastsSo lasting → IsPoint net lasting.from
  from_point lasting so = subst (λ (l : Lasting). IsPoint net l.from) (sym so.is) (link_sound net run.plan so.name.0 so.link so.declared).from_point

  to_point : (lasting : Lasting) → LastsSo lasting → IsPoint net lasting.to
  to_point lasting so = subst (λ (l : Lasting). IsPoint net l.to) (sym so.is) (link_sound net run.plan so.name.0 so.link so.declared).to_point

  lasts_in_it : (lasting : Lasting) → LastsSo lasting → moment_in schedule lasting.to ≡ moment_in schedule lasting.from + lasting.duration
  lasts_in_it lasting so =
      ap (λ (l : Lasting). moment_in schedule l.to) so.is ∙ so.lasting_in_it ∙ ap (λ (l : Lasting). moment_in schedule l.from + lasting.duration) (sym so.is)

  -- the link of a contingent point
  record EndsSo (point : PointId) : Type 0 where
    lasting : Lasting
    among : Contains lastings lasting
    so : LastsSo lasting
    ends : lasting.to ≡ point

  ends_so : (point : PointId) → Ending net point → EndsSo point
  ends_so point ending =
      let (duration, its, fits) = duration_of net.links situation ending.name.0 ending.link earliest.is_situation ending.declared in
      let lasting = lasting_in (ending.link, duration) in
      record {
        lasting = lasting;
        among = Contains-map lasting_in (zip net.links situation) (ending.link, duration) (zips net.links situation ending.name.0 ending.link duration ending.declared its);
        so = so_of ending.name ending.link duration ending.declared its;
        ends = ending.ends;
      }

  -- it is known when each link completes
  pub timed : (execution : Execution) → KeepsTo net table schedule execution → All (IsTimed (length net.points) execution.moments) lastings
  timed execution keeps =
      All-weaker (Contains lastings) (IsTimed (length net.points) execution.moments) (λ lasting among.
      let so = lasts_so lasting among in
      record {
        from_point = from_point lasting so;
        to_point = to_point lasting so;
        fits = fits lasting so (moment_of execution.moments lasting.from) refl;
      }) lastings (All-contains_itself lastings)
    where
      fits : (lasting : Lasting) → LastsSo lasting → (o : Option ℕ) → moment_of execution.moments lasting.from ≡ o → IfSome o (λ activated. activated + lasting.duration < 2 ^ 64)
      fits lasting so None found = tt
      fits lasting so (Some activated) found =
          let value = (cut_value net schedule execution.moments (next_moment execution) keeps.cut lasting.from activated (from_point lasting so) found).0 in
          let soon = in_good_time net table order by situation schedule earliest lasting.from (from_point lasting so) in
          let few = so.few in
          omega (arith, value, soon, few)

  module _ (execution : Execution) (keeps : KeepsTo net table schedule execution) (unrefused : execution.refused ≡ None) (next : Option ℕ)
      (is : IsNextMoment execution lastings next) where
    abbrev from : ℕ
    from = next_moment execution

    abbrev moments : Moments
    moments = execution.moments

    abbrev DueBy : Option ℕ → Option Why → Type 0
    DueBy due refused = elim refused [ Some cause ↦ due ≡ None | None ↦ IsNextDue execution due ]

    due_is : IsNextDue execution is.0
    due_is = subst (DueBy is.0) unrefused is.1

    -- ---- no point comes before it
    module _ (t : ℕ) (not_by : IsBy next t → ⊥) (none_sooner : (point : PointId) → IsPoint net point → from ≤ moment_in schedule point → moment_in schedule point < t → ⊥) (later : from ≤ t) where
      none_completes : (point : PointId) → Ending net point → from ≤ moment_in schedule point → moment_in schedule point < suc t → ⊥
      none_completes point ending above below =
          let its = ends_so point ending in
          let so = its.so in
          let lasting = its.lasting in
          let some = so.some in
          let lasts = lasts_in_it lasting so in
          let at : moment_in schedule lasting.to ≡ moment_in schedule point = ap (moment_in schedule) its.ends in
          let from_start : moment_in schedule lasting.from < from = (elim (cases_lt (moment_in schedule lasting.from) from) [
            | inl less ↦ less
            | inr after ↦ absurd (none_sooner lasting.from (from_point lasting so) after (omega (arith, lasts, at, some, below)))
          ]) in
          let unknown : moment_of moments lasting.to ≡ None = keeps.cut.unknown lasting.to (to_point lasting so) (omega (arith, at, above)) in
          let known : moment_of moments lasting.from ≡ Some (moment_in schedule lasting.from) = keeps.cut.known lasting.from (from_point lasting so) from_start in
          let low = first_by moments lastings lasting (moment_in schedule lasting.from + lasting.duration) its.among (completion_from moments lasting (moment_in schedule lasting.from) unknown known) in
          not_by (subst (λ (o : Option ℕ). IsBy o t) (sym is.2) (sooner_second is.0 (first_completion moments lastings) t
          (by_later (first_completion moments lastings) (moment_in schedule lasting.from + lasting.duration) t low (omega (arith, lasts, at, below)))))

      none_acts : (k : ℕ) → from ≤ k → k < from + (suc t - from) → acts_at execution.setting moments k ≡ []
      none_acts k above below = by_due is.0 refl due_is
        where
          by_due : (due : Option ℕ) → is.0 ≡ due → IsNextDue execution due → acts_at execution.setting moments k ≡ []
          by_due None same none = none k above
          by_due (Some d) same (after, none, some) =
              elim (cases_lt t d) [
                | inl beyond ↦ none k above (omega (arith, below, beyond, later))
                | inr reached ↦ absurd (not_by (subst (λ (o : Option ℕ). IsBy o t) (sym is.2)
                    (sooner_first is.0 (first_completion moments lastings) t (subst (λ (o : Option ℕ). IsBy o t) (sym same) reached))))
              ]

      long : length moments ≡ length (setting_of net table).dispatch
      long = keeps.cut.long ∙ sym (dispatchable_length net table by.forward.for_network)

      still : IsCut net schedule moments (suc t)
      still =
          let count : ℕ = suc t - from in
          let end : from + count ≡ suc t = omega (arith, later) in
          let same = quiet (setting_of net table) moments from count long
          (λ k above below. subst (λ (s : Setting). acts_at s moments k ≡ []) keeps.setting (none_acts k above below)) in
          let cut = time_cut net table schedule run count moments from keeps.cut (λ point ending above below. none_completes point ending above (omega (arith, below, end))) in
          subst (λ (m : ℕ). IsCut net schedule moments m) end (subst (λ (ms : Moments). IsCut net schedule ms (from + count)) same cut)

    no_later : (bound : ℕ) (point : PointId) → IsPoint net point → from ≤ moment_in schedule point → moment_in schedule point < bound → (IsBy next (moment_in schedule point) → ⊥) → ⊥
    no_later zero point inside above less not_by = absurd (omega (arith, less))
    no_later (suc bound) point inside above less not_by =
        let t : ℕ = moment_in schedule point in
        let sooner_none = λ (q : PointId) (q_inside : IsPoint net q) (q_above : from ≤ moment_in schedule q) (q_less : moment_in schedule q < t).
        no_later bound q q_inside q_above (omega (arith, less, q_less)) (λ q_by. not_by (by_later next (moment_in schedule q) t q_by (omega (arith, q_less)))) in
        let cut = still t not_by sooner_none above in
        absurd (none-some t (sym (keeps.cut.unknown point inside above) ∙ cut.known point inside (omega arith)))

    -- each point that has not come comes at the next moment or after it
    pub next_by : (point : PointId) → IsPoint net point → from ≤ moment_in schedule point → IsBy next (moment_in schedule point)
    next_by point inside above =
        elim (by_or_not next (moment_in schedule point)) [
          | inl by_then ↦ by_then
          | inr not_by ↦ absurd (no_later (suc (moment_in schedule point)) point inside above (omega arith) not_by)
        ]

    -- ---- a next moment
    module _ (m : ℕ) (there : next ≡ Some m) where
      at_or_after : (point : PointId) → IsPoint net point → from ≤ moment_in schedule point → m ≤ moment_in schedule point
      at_or_after point inside above = subst (λ (o : Option ℕ). IsBy o (moment_in schedule point)) there (next_by point inside above)

      -- a link that completes at it
      completes_then : (lasting : Lasting) → Contains lastings lasting → completion moments lasting ≡ Some m → (from ≤ moment_in schedule lasting.to) × (moment_in schedule lasting.to ≡ m)
      completes_then lasting among completes =
          let so = lasts_so lasting among in
          let its = active_from moments lasting m completes in
          let lasts = lasts_in_it lasting so in
          let after = its.later in
          let from_start = (cut_value net schedule moments from keeps.cut lasting.from its.activated (from_point lasting so) its.active).0 in
          (not_sooner net schedule moments from keeps.cut lasting.to (to_point lasting so) its.unknown, omega (arith, lasts, after, from_start))

      comes_later : from ≤ m
      comes_later =
          elim (sooner_is is.0 (first_completion moments lastings) m (sym is.2 ∙ there)) [
            | inl due ↦ (subst (λ (o : Option ℕ). IsNextDue execution o) due due_is).0
            | inr completes ↦
                (let one = first_is moments lastings m completes in
                let (above, same) = completes_then one.lasting one.among one.is in
                omega (arith, above, same))
          ]

      abbrev listing : Listing
      listing = record { moment = m; points = completing_at moments m lastings }

      pub is_next : IsNext net schedule from listing
      is_next = record {
        later = comes_later;
        once = completing_once moments m net.links situation run.plan.links_apart;
        comes = comes;
        listed = listed;
      }
        where
          comes : (point : PointId) → Contains (completing_at moments m lastings) point → IsContingent net point × (moment_in schedule point ≡ m)
          comes point among =
              let one = completing_is moments m lastings point among in
              let so = lasts_so one.lasting one.among in
              let (above, same) = completes_then one.lasting one.among one.is in
              let ending : Ending net point = record { name = so.name; link = so.link; declared = so.declared; ends = ap (λ (l : Lasting). l.to) (sym so.is) ∙ one.ends } in
              (ending_contingent net point ending, ap (moment_in schedule) (sym one.ends) ∙ same)

          listed : (point : PointId) → IsContingent net point → from ≤ moment_in schedule point → moment_in schedule point ≤ m → Contains (completing_at moments m lastings) point
          listed point contingent above below =
              let ending = contingent_ending net point contingent in
              let its = ends_so point ending in
              let so = its.so in
              let lasting = its.lasting in
              let some = so.some in
              let lasts = lasts_in_it lasting so in
              let at : moment_in schedule lasting.to ≡ moment_in schedule point = ap (moment_in schedule) its.ends in
              let least = at_or_after point (ending_point net run.plan point ending) above in
              let from_start : moment_in schedule lasting.from < from = (elim (cases_lt (moment_in schedule lasting.from) from) [
                | inl less ↦ less
                | inr after ↦ (let least_from = at_or_after lasting.from (from_point lasting so) after in absurd (omega (arith, least_from, lasts, at, some, below)))
              ]) in
              let unknown : moment_of moments lasting.to ≡ None = keeps.cut.unknown lasting.to (to_point lasting so) (omega (arith, at, above)) in
              let known : moment_of moments lasting.from ≡ Some (moment_in schedule lasting.from) = keeps.cut.known lasting.from (from_point lasting so) from_start in
              let completes : completion moments lasting ≡ Some m =
              completion_from moments lasting (moment_in schedule lasting.from) unknown known ∙ ap Some (omega (arith, lasts, at, below, least)) in
              subst (λ (p : PointId). Contains (completing_at moments m lastings) p) its.ends (is_completing moments m lastings lasting its.among completes)

      -- it is within the limit, since some point has not come
      all_come : most_moment < m → (point : PointId) → IsPoint net point → moment_in schedule point < from
      all_come beyond point inside =
          elim (cases_lt (moment_in schedule point) from) [
            | inl less ↦ less
            | inr above ↦
                (let soon = in_good_time net table order by situation schedule earliest point inside in
                let least = at_or_after point inside above in
                absurd (omega (arith, soon, least, beyond)))
          ]

      pub within_limit : m ≤ most_moment
      within_limit = elim (cases_lt most_moment m) [ inl beyond ↦ absurd (impossible beyond) | inr within ↦ within ]
        where
          impossible : most_moment < m → ⊥
          impossible beyond =
              elim (sooner_is is.0 (first_completion moments lastings) m (sym is.2 ∙ there)) [
                | inl due ↦
                    (let (after, none, some) = subst (λ (o : Option ℕ). IsNextDue execution o) due due_is in
                    some (none_due_no_acts execution.setting moments m
                    (λ point inside.
                    let size = dispatchable_length net table by.forward.for_network in
                    let dispatch = ap (λ (s : Setting). length s.dispatch) keeps.setting in
                    let stands : IsPoint net point = omega (arith, inside, size, dispatch) in
                    come_not_due execution.setting moments m point (moment_in schedule point) (keeps.cut.known point stands (all_come beyond point stands)))))
                | inr completes ↦
                    (let one = first_is moments lastings m completes in
                    let (above, same) = completes_then one.lasting one.among one.is in
                    let gone = all_come beyond one.lasting.to (to_point one.lasting (lasts_so one.lasting one.among)) in
                    omega (arith, above, gone))
              ]

    -- if there is none, every point has come
    pub all_before : next ≡ None → (point : PointId) → IsPoint net point → moment_in schedule point < from
    all_before none point inside =
        elim (cases_lt (moment_in schedule point) from) [
          | inl less ↦ less
          | inr above ↦ absurd (subst (λ (o : Option ℕ). IsBy o (moment_in schedule point)) none (next_by point inside above))
        ]
