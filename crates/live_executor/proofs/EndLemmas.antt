-- An execution without open points comes to its end, before the end of time.
use Rattle.std.proofs.Common.{◌≡◌, ℕ, ◌+◌, ◌<◌, ◌≤◌, Bool, true, false, cond, List, [], ◌∷◌, length, Option, Some, None, refl, ap, sym, subst, ◌∙◌, inl, inr, arith, ℤ}
use Rattle.std.specs.Prelude.{is_some, IfSome, find, slice_get, unsigned_abs, ◌&&◌, ◌||◌, not}
use Rattle.std.specs.List.{All, list_all}
use Rattle.std.specs.Option.{option_map_or}
use Rattle.std.proofs.lemmas.Bool.{and_parts, and_from, true≢false}
use Rattle.std.proofs.lemmas.List.{length-map}
use Rattle.std.proofs.lemmas.List.Elements.{All-head, All-tail}
use Rattle.net_model.specs.Limits.{most_size}
use Rattle.net_model.specs.declared.ids.PointId.{PointId}
use Rattle.net_model.specs.declared.part.Link.{Link}
use Rattle.closure_model.proofs.OrderLemmas.{find_none}
use Rattle.dispatch_net.specs.Dispatchable.{DispatchLists, conditions_at, no_conditions}
use Rattle.dispatch_net.specs.declared.dispatch.Conditions.{Conditions}
use Rattle.dispatch_net.proofs.ExecutionLemmas.{dispatchable_length}
use Rattle.dispatch_net.specs.Held.{IsSlimOrWhole}
use Rattle.dispatch_net.specs.Slim.{is_bound_implied, is_wait_implied, slim_conditions, slimmed}
use Rattle.dispatch_net.proofs.SlimLists.{list_passes, passes_each, slim_at}
use Rattle.execution_model.specs.Paced.{slim_setting}
use Rattle.net_model.specs.Moments.{Moments, moment_of}
use Rattle.closure_model.proofs.Lists.{Contains-filter_from}
use Rattle.execution_model.specs.Execution.{Setting, meets, has_come, link_to, is_due, meets_bound, meets_wait, meets_wait_for, has_gone_by, points_of, acts_at, time_runs}
use Rattle.execution_model.specs.Feeds.{is_open}
use Rattle.execution_model.specs.Laws.{NoActsLeftIsWhole, setting_of}
use Rattle.execution_model.proofs.LinkLemmas.{contingent_has_link, link_to_is_point}
use Rattle.execution_model.proofs.PlaceLemmas.{gone_by, from_gone_by}
use Rattle.execution_model.proofs.MomentLemmas.{Contains-point, due_parts, due_from, time_runs_contingent, no_acts_none_due, none_due_no_acts}
use Rattle.live_executor.specs.Limits.{AreBefore}
use Rattle.live_executor.specs.Sound.{IsLowerBound, IsWait, IsSoundSetting, IsKeptNetwork, ComesToItsEnd, kept_network, made_setting}
use Rattle.live_executor.specs.Wakes.{WakeLists}
use Rattle.live_executor.proofs.SameLemmas.{made_of}
use Rattle.live_executor.proofs.MomentLemmas.{moment_before}

-- ---- which network it is of
made_comes_to_its_end : NoActsLeftIsWhole → (lists : DispatchLists) (points : ℕ) (wakes : WakeLists) → IsKeptNetwork lists points → ComesToItsEnd (made_setting (kept_network lists wakes))
made_comes_to_its_end law lists points wakes kept moments whole contingent idle =
    let of = kept.dispatched in
    let setting = made_setting (kept_network lists wakes) in
    let count : length lists.made ≡ length kept.net.points = ap length of.made ∙ dispatchable_length kept.net of.table of.may.for_network in
    let same : setting ≡ setting_of kept.net of.table = made_of kept.net lists wakes of in
    law kept.net of.table of.order moments 0 of.instant of.graph of.may (whole ∙ count)
    (λ point is.
    let (link, found) = contingent_has_link kept.net setting of.links of.instant.sound point is in
    let inside = link_to_is_point kept.net setting of.links of.instant.sound point link found in
    contingent point (omega (arith, count, inside)) (ap is_some found))
    (λ t from. subst (λ (s : Setting). acts_at s moments t ≡ []) same (idle t))

-- what is met by all lower bounds and waits is met by some of them
fewer_met : (setting : Setting) (moments : Moments) (t : ℕ) (all : Conditions) → meets setting moments t all ≡ true → meets setting moments t (slim_conditions setting.links setting.dispatch all) ≡ true
fewer_met setting moments t all met =
    let slim = slim_conditions setting.links setting.dispatch all in
    let (bounds, waits) = and_parts (list_all (meets_bound moments t) all.lower_bounds) (list_all (meets_wait setting moments t) all.waits) met in
    and_from (list_all (meets_bound moments t) slim.lower_bounds) (list_all (meets_wait setting moments t) slim.waits)
    (list_passes (meets_bound moments t) slim.lower_bounds (λ bound among. passes_each (meets_bound moments t) all.lower_bounds bound bounds
    (Contains-filter_from (λ b. not (is_bound_implied setting.links setting.dispatch all b)) all.lower_bounds bound among)))
    (list_passes (meets_wait setting moments t) slim.waits (λ wait among. passes_each (meets_wait setting moments t) all.waits wait waits
    (Contains-filter_from (λ w. not (is_wait_implied setting.links setting.dispatch all w)) all.waits wait among)))

-- so a point that is due by what was made is due by what others do not imply
slim_due : (setting : Setting) (moments : Moments) (t : ℕ) (point : PointId) → is_due setting moments t point ≡ true → is_due (slim_setting setting) moments t point ≡ true
slim_due setting moments t point is =
    let (no_link, no_moment, met) = due_parts setting moments t point is in
    due_from (slim_setting setting) moments t point no_link no_moment
    (ap (meets setting moments t) (slim_at setting.links setting.dispatch point) ∙ fewer_met setting moments t (conditions_at setting.dispatch point) met)

slim_comes_to_its_end : (setting : Setting) → ComesToItsEnd setting → ComesToItsEnd (slim_setting setting)
slim_comes_to_its_end setting comes moments whole contingent idle =
    let long : length (slimmed setting.links setting.dispatch) ≡ length setting.dispatch = length-map setting.dispatch (slim_conditions setting.links setting.dispatch) in
    comes moments (whole ∙ long) (λ point inside is. contingent point (omega (arith, inside, long)) is)
    (λ t. none_due_no_acts setting moments t (λ point inside. by t point (no_acts_none_due (slim_setting setting) moments t (idle t) point (omega (arith, inside, long))) (is_due setting moments t point) refl))
  where
    by : (t : ℕ) (point : PointId) → is_due (slim_setting setting) moments t point ≡ false → (b : Bool) → is_due setting moments t point ≡ b → b ≡ false
    by t point none false is = refl
    by t point none true is = absurd (true≢false (sym (slim_due setting moments t point is) ∙ none))

pub comes_to_its_end : NoActsLeftIsWhole → (lists : DispatchLists) (points : ℕ) (wakes : WakeLists) → IsKeptNetwork lists points → ComesToItsEnd (kept_network lists wakes).setting
comes_to_its_end law lists points wakes kept = by kept.slim_or_whole
  where
    made : ComesToItsEnd (made_setting (kept_network lists wakes))
    made = made_comes_to_its_end law lists points wakes kept

    by : IsSlimOrWhole lists.links lists.made lists.kept → ComesToItsEnd (record { links = lists.links; dispatch = lists.kept })
    by (inl whole) = subst (λ (cs : List Conditions). ComesToItsEnd (record { links = lists.links; dispatch = cs })) (sym whole) made
    by (inr slim) = subst (λ (cs : List Conditions). ComesToItsEnd (record { links = lists.links; dispatch = cs })) (sym slim) (slim_comes_to_its_end (made_setting (kept_network lists wakes)) made)

-- ---- closed points
shut : (come link : Bool) → cond come false link ≡ false → link ≡ true → come ≡ true
shut true link none some = refl
shut false link none some = cc

some_of : {X : Type 0} (o : Option X) → is_some o ≡ true → (x : X) × (o ≡ Some x)
some_of None is = cc
some_of (Some x) is = (x, refl)

-- if no contingent point is open each has come, and time that runs leaves it so
pub closed_have_come : (setting : Setting) (moments : Moments) (from count : ℕ) → length moments ≡ length setting.dispatch → find (is_open setting moments) (points_of setting) ≡ None
    → (point : PointId) → point.0 < length setting.dispatch → is_some (link_to setting point) ≡ true → is_some (moment_of (time_runs setting moments from count) point) ≡ true
closed_have_come setting moments from count whole none point inside contingent =
    let (link, ends) = some_of (link_to setting point) contingent in
    ap is_some (time_runs_contingent setting moments from count whole point link ends)
    ∙ shut (has_come moments point) (is_some (link_to setting point)) (find_none (is_open setting moments) (points_of setting) point none (Contains-point setting point inside)) contingent

-- ---- what is due comes in time
both : (a b c d : Bool) → (a ≡ true → c ≡ true) → (b ≡ true → d ≡ true) → (a && b) ≡ true → (c && d) ≡ true
both true true c d first second is = rw (first refl, second refl) refl
both true false c d first second is = cc
both false b c d first second is = cc

all_later : {X : Type 0} (P : X → Type 0) (p q : X → Bool) → ((x : X) → P x → p x ≡ true → q x ≡ true) → (xs : List X) → All P xs → list_all p xs ≡ true → list_all q xs ≡ true
all_later P p q step [] all passes = refl
all_later P p q step (x ∷ xs) all passes =
    both (p x) (list_all p xs) (q x) (list_all q xs) (step x (All-head P x xs all)) (all_later P p q step xs (All-tail P x xs all)) passes

module _ (setting : Setting) (sound : IsSoundSetting setting) (moments : Moments) (from t u : ℕ) (before : AreBefore from moments) (later : from + most_size ≤ u + 1) where
  gone_later : (point : PointId) (n : ℤ) → unsigned_abs n ≤ most_size → has_gone_by moments t point n ≡ true → has_gone_by moments u point n ≡ true
  gone_later point n small holds =
      let (m, known, within) = from_gone_by moments t point n holds in
      let low : m < from = subst (λ (o : Option ℕ). IfSome o (λ a. a < from)) known (moment_before from moments before point) in
      gone_by moments u point n m known (omega (arith, low, small, later))

  waits : (a b c d : Bool) → (c ≡ true → d ≡ true) → (a && (b || c)) ≡ true → (a && (b || d)) ≡ true
  waits true true c d step is = refl
  waits true false c d step is = step is
  waits false b c d step is = cc

  wait_later : (n : ℤ) (link : Option Link) → unsigned_abs n ≤ most_size → option_map_or (meets_wait_for moments t n) link false ≡ true → option_map_or (meets_wait_for moments u n) link false ≡ true
  wait_later n None small is = cc
  wait_later n (Some link) small is =
      waits (has_come moments link.from) (has_come moments link.to) (has_gone_by moments t link.from n) (has_gone_by moments u link.from n) (gone_later link.from n small) is

  pub due_later : (point : PointId) → point.0 < length setting.dispatch → is_due setting moments t point ≡ true → is_due setting moments u point ≡ true
  due_later point inside is =
      let (no_link, no_moment, met) = due_parts setting moments t point is in
      let conditions = conditions_at setting.dispatch point in
      due_from setting moments u point no_link no_moment
      (both (list_all (meets_bound moments t) conditions.lower_bounds) (list_all (meets_wait setting moments t) conditions.waits)
      (list_all (meets_bound moments u) conditions.lower_bounds) (list_all (meets_wait setting moments u) conditions.waits)
      (all_later (IsLowerBound (length setting.dispatch)) (meets_bound moments t) (meets_bound moments u) (λ b low. gone_later b.0 b.1 low.small) conditions.lower_bounds
      (sound.bounds point.0 no_conditions inside))
      (all_later (IsWait (length setting.links)) (meets_wait setting moments t) (meets_wait setting moments u) (λ w low. wait_later w.1 (slice_get setting.links w.0.0) low.small) conditions.waits
      (sound.waits point.0 no_conditions inside))
      met)
