-- What is kept for the points, after one of them has got its moment.
use Rattle.std.proofs.Common.{◌≡◌, ◌≢◌, ◌⊎◌, ℕ, ◌+◌, ◌-◌, ◌<◌, ◌≤◌, ℤ, Bool, true, false, cond, List, [], ◌∷◌, length, get_or, take, Option, Some, None, is_none, is_some, refl, ap, sym, subst, ◌∙◌, inl, inr, arith}
use Rattle.std.specs.Prelude.{◌&&◌, ◌||◌, ◌==◌, IfSome, nat_le, replicate, slice_get, slice_index, slice_set, unsigned_abs}
use Rattle.std.specs.List.{Contains, count_by, list_all}
use Rattle.std.specs.Option.{option_map_or}
use Rattle.std.proofs.lemmas.Bool.{cases_Bool, cases_lt, cases_order, true≢false, eqb-true}
use Rattle.std.proofs.lemmas.Bool.Decides.{nat_tests}
use Rattle.std.proofs.lemmas.List.{get_or_past, get_or-set_same, get_or-set_other, get_or-replicate, length-replicate}
use Rattle.std.proofs.lemmas.List.Sums.{sum_by-cons, sum_by-take-le, count_by_more_yes, count_by_more_no}
use Rattle.std.proofs.lemmas.List.Folds.{list_any_more}
use Rattle.closure_model.specs.Orders.{contains_point}
use Rattle.closure_model.proofs.Lists.{Contains-none, Contains-head, Contains-tail, Contains-cases}
use Rattle.net_model.specs.declared.ids.PointId.{PointId}
use Rattle.net_model.specs.declared.ids.LinkId.{LinkId}
use Rattle.net_model.specs.declared.part.Link.{Link}
use Rattle.dispatch_net.specs.declared.dispatch.Conditions.{Conditions}
use Rattle.dispatch_net.specs.Dispatchable.{conditions_at, no_conditions}
use Rattle.net_model.specs.Moments.{Moments, moment_of}
use Rattle.execution_model.specs.Execution.{Setting, has_come, has_gone_by, link_to, meets_bound, meets_wait_for, meets_wait, meets, is_due}
use Rattle.execution_model.specs.Feeds.{completed_at}
use Rattle.execution_model.proofs.OneByOneLemmas.{all_alike}
use Rattle.execution_model.proofs.MomentLemmas.{length-completed_at, moment_completed, moment_of_other, come_not_due}
use Rattle.live_executor.specs.Due.{holds_from, PassesFrom}
use Rattle.live_executor.specs.WokenPoints.{is_open_bound, is_open_wait, open_count, condition_count, is_bound_after, is_wait_from, count_fixed_by, times, AreWoken, PassesSince, AreDueSince, IsAwake, IsFoundOrKept}

-- ---- counts
module _ {X : Type 0} (p : X → Bool) where
  pub count_cons : (x : X) (xs : List X) → count_by p (x ∷ xs) ≡ cond (p x) 1 0 + count_by p xs
  count_cons x xs = sum_by-cons (λ y. cond (p y) 1 0) x xs

  -- a count is 0 if nothing passes
  pub count_zero : (xs : List X) → count_by p xs ≡ 0 → (x : X) → Contains xs x → p x ≡ false
  count_zero [] none x among = absurd (Contains-none x among)
  count_zero (y ∷ ys) none x among = by (count_zero ys) (p y) refl (count_cons y ys)
    where
      by : (count_by p ys ≡ 0 → (z : X) → Contains ys z → p z ≡ false) → (b : Bool) → p y ≡ b → count_by p (y ∷ ys) ≡ cond b 1 0 + count_by p ys → p x ≡ false
      by rest true is counts = absurd (omega (arith, none, counts))
      by rest false is counts = elim (Contains-cases y ys x among) [ inl same ↦ ap p (sym same) ∙ is | inr there ↦ rest (omega (arith, none, counts)) x there ]

  -- and something passes if it isn't
  count_some : (xs : List X) → count_by p xs ≢ 0 → (x : X) × Contains xs x × (p x ≡ true)
  count_some [] some = absurd (some refl)
  count_some (y ∷ ys) some = by (count_some ys) (p y) refl (count_cons y ys)
    where
      by : (count_by p ys ≢ 0 → (z : X) × Contains ys z × (p z ≡ true)) → (b : Bool) → p y ≡ b → count_by p (y ∷ ys) ≡ cond b 1 0 + count_by p ys → (z : X) × Contains (y ∷ ys) z × (p z ≡ true)
      by rest true is counts = (y, Contains-head y ys, is)
      by rest false is counts = let (z, among, passes) = rest (λ none. some (omega (arith, none, counts))) in (z, Contains-tail y ys z among, passes)

-- what passes now and what is fixed are together what passed before
count_splits : {X : Type 0} (now fixed before : X → Bool) (xs : List X) → ((x : X) → cond (now x) 1 0 + cond (fixed x) 1 0 ≡ cond (before x) 1 0) → count_by now xs + count_by fixed xs ≡ count_by before xs
count_splits now fixed before [] each = refl
count_splits now fixed before (x ∷ xs) each =
    let rest = count_splits now fixed before xs each in
    let a = count_cons now x xs in
    let b = count_cons fixed x xs in
    let c = count_cons before x xs in
    let here = each x in
    omega (arith, rest, a, b, c, here)

fails_one : {X : Type 0} (p : X → Bool) (xs : List X) (x : X) → Contains xs x → p x ≡ false → list_all p xs ≡ false
fails_one p [] x among fails = absurd (Contains-none x among)
fails_one {X} p (y ∷ ys) x among fails = by (fails_one p ys x) (p y) refl (Contains-cases y ys x among)
  where
    by : (Contains ys x → p x ≡ false → list_all p ys ≡ false) → (b : Bool) → p y ≡ b → (y ≡ x) ⊎ Contains ys x → (b && list_all p ys) ≡ false
    by rest false is at = refl
    by rest true is (inl same) = absurd (true≢false (sym is ∙ ap p same ∙ fails))
    by rest true is (inr there) = rest there fails

and_false : (a b : Bool) → b ≡ false → (a && b) ≡ false
and_false true b none = none
and_false false b none = refl

from_none : {X : Type 0} (o : Option X) → is_none o ≡ true → o ≡ None
from_none None none = refl
from_none (Some x) none = absurd (true≢false (sym none))

-- ---- with an open condition nothing is met
module _ (setting : Setting) (moments : Moments) (t : ℕ) where
  open_bound_fails : (bound : PointId × ℤ) → is_open_bound moments bound ≡ true → meets_bound moments t bound ≡ false
  open_bound_fails bound open_it = ap (λ (o : Option ℕ). option_map_or (λ moment. nat_le (moment + unsigned_abs bound.1) t) o false) (from_none (moment_of moments bound.0) open_it)

  open_wait_fails : (wait : LinkId × ℤ) → is_open_wait setting.links moments wait ≡ true → meets_wait setting moments t wait ≡ false
  open_wait_fails wait open_it = by (slice_get setting.links wait.0.0) open_it
    where
      by : (o : Option Link) → option_map_or (λ (link : Link). is_none (moment_of moments link.from)) o true ≡ true → option_map_or (meets_wait_for moments t wait.1) o false ≡ false
      by None open_it = refl
      by (Some link) open_it = ap (λ (o : Option ℕ). is_some o && (has_come moments link.to || has_gone_by moments t link.from wait.1)) (from_none (moment_of moments link.from) open_it)

  pub open_not_met : (c : Conditions) → open_count setting moments c ≢ 0 → meets setting moments t c ≡ false
  open_not_met c some = by (cases_order (count_by (is_open_bound moments) c.lower_bounds) 0)
    where
      by : (count_by (is_open_bound moments) c.lower_bounds ≡ 0) ⊎ ((count_by (is_open_bound moments) c.lower_bounds < 0) ⊎ (0 < count_by (is_open_bound moments) c.lower_bounds)) → meets setting moments t c ≡ false
      by (inl none) =
          let (wait, among, open_it) = count_some (is_open_wait setting.links moments) c.waits (λ none_too. some (omega (arith, none, none_too))) in
          and_false (list_all (meets_bound moments t) c.lower_bounds) (list_all (meets_wait setting moments t) c.waits)
          (fails_one (meets_wait setting moments t) c.waits wait among (open_wait_fails wait open_it))
      by (inr (inl less)) = absurd (omega (arith, less))
      by (inr (inr above)) =
          let (bound, among, open_it) = count_some (is_open_bound moments) c.lower_bounds (λ none. omega (arith, none, above)) in
          ap (λ (b : Bool). b && list_all (meets_wait setting moments t) c.waits) (fails_one (meets_bound moments t) c.lower_bounds bound among (open_bound_fails bound open_it))

  pub open_not_due : (point : PointId) → open_count setting moments (conditions_at setting.dispatch point) ≢ 0 → is_due setting moments t point ≡ false
  open_not_due point some =
      and_false (is_none (link_to setting point) && is_none (moment_of moments point)) (meets setting moments t (conditions_at setting.dispatch point))
      (open_not_met (conditions_at setting.dispatch point) some)

-- ---- a point gets its moment
module _ (setting : Setting) (moments : Moments) (moment : ℕ) (point : PointId) (new : moment_of moments point ≡ None) (inside : point.0 < length moments) where
  abbrev after : Moments
  after = completed_at moments moment point

  same_number : (p q : PointId) → p.0 == q.0 ≡ true → p ≡ q
  same_number p q same = ap (λ (k : ℕ). record { 0 = k }) (eqb-true p.0 q.0 same)

  apart : (p q : PointId) → p.0 == q.0 ≡ false → p.0 ≢ q.0
  apart p q differs = grind (arith, nat_tests)

  other_moment : (other : PointId) → other.0 == point.0 ≡ false → moment_of after other ≡ moment_of moments other
  other_moment other differs = moment_of_other moments moment point other (apart other point differs)

  -- it is open before and not after, or as it was
  point_splits : (other : PointId) → cond (is_none (moment_of after other)) 1 0 + cond (other.0 == point.0) 1 0 ≡ cond (is_none (moment_of moments other)) 1 0
  point_splits other = by (other.0 == point.0) refl
    where
      by : (b : Bool) → other.0 == point.0 ≡ b → cond (is_none (moment_of after other)) 1 0 + cond b 1 0 ≡ cond (is_none (moment_of moments other)) 1 0
      by true same =
          let is : other ≡ point = same_number other point same in
          let now : moment_of after other ≡ Some moment = ap (moment_of after) is ∙ moment_completed moments moment point inside in
          let before : moment_of moments other ≡ None = ap (moment_of moments) is ∙ new in
          ap (λ (o : Option ℕ). cond (is_none o) 1 0 + 1) now ∙ sym (ap (λ (o : Option ℕ). cond (is_none o) 1 0) before)
      by false differs = ap (λ (o : Option ℕ). cond (is_none o) 1 0 + 0) (other_moment other differs) ∙ add_zero (cond (is_none (moment_of moments other)) 1 0)
        where
          add_zero : (n : ℕ) → n + 0 ≡ n
          add_zero n = omega arith

  wait_splits : (wait : LinkId × ℤ) → cond (is_open_wait setting.links after wait) 1 0 + cond (is_wait_from setting.links point wait) 1 0 ≡ cond (is_open_wait setting.links moments wait) 1 0
  wait_splits wait = by (slice_get setting.links wait.0.0)
    where
      by : (o : Option Link) → cond (option_map_or (λ (link : Link). is_none (moment_of after link.from)) o true) 1 0 + cond (option_map_or (λ (link : Link). link.from.0 == point.0) o false) 1 0
          ≡ cond (option_map_or (λ (link : Link). is_none (moment_of moments link.from)) o true) 1 0
      by None = refl
      by (Some link) = point_splits link.from

  pub count_decreases : (c : Conditions) → open_count setting after c + count_fixed_by setting point c ≡ open_count setting moments c
  count_decreases c =
      let bounds = count_splits (is_open_bound after) (is_bound_after point) (is_open_bound moments) c.lower_bounds (λ bound. point_splits bound.0) in
      let waits = count_splits (is_open_wait setting.links after) (is_wait_from setting.links point) (is_open_wait setting.links moments) c.waits wait_splits in
      omega (arith, bounds, waits)

  -- conditions that neither wait for the point nor end with it are met as before
  module _ (t : ℕ) (c : Conditions) (fixes_none : count_fixed_by setting point c ≡ 0)
      (ends_none : (wait : LinkId × ℤ) (link : Link) → Contains c.waits wait → slice_get setting.links wait.0.0 ≡ Some link → link.to.0 == point.0 ≡ false) where
    bound_same : (bound : PointId × ℤ) → Contains c.lower_bounds bound → meets_bound after t bound ≡ meets_bound moments t bound
    bound_same bound among =
        let differs = count_zero (is_bound_after point) c.lower_bounds (omega (arith, fixes_none)) bound among in
        ap (λ (o : Option ℕ). option_map_or (λ m. nat_le (m + unsigned_abs bound.1) t) o false) (other_moment bound.0 differs)

    wait_same : (wait : LinkId × ℤ) → Contains c.waits wait → meets_wait setting after t wait ≡ meets_wait setting moments t wait
    wait_same wait among = by (slice_get setting.links wait.0.0) refl (count_zero (is_wait_from setting.links point) c.waits (omega (arith, fixes_none)) wait among)
      where
        by : (o : Option Link) → slice_get setting.links wait.0.0 ≡ o → option_map_or (λ (link : Link). link.from.0 == point.0) o false ≡ false
            → option_map_or (meets_wait_for after t wait.1) o false ≡ option_map_or (meets_wait_for moments t wait.1) o false
        by None declared differs = refl
        by (Some link) declared differs =
            let from = other_moment link.from differs in
            let to = other_moment link.to (ends_none wait link among declared) in
            λ i. is_some (from i) && (is_some (to i) || option_map_or (λ m. nat_le (m + unsigned_abs wait.1) t) (from i) false)

    meets_same : meets setting after t c ≡ meets setting moments t c
    meets_same = λ i. all_alike (meets_bound after t) (meets_bound moments t) c.lower_bounds bound_same i && all_alike (meets_wait setting after t) (meets_wait setting moments t) c.waits wait_same i

-- ---- what is kept
pub is_among_times : (points : List PointId) (point : PointId) → contains_point points point ≡ false → times points point ≡ 0
is_among_times [] point absent = refl
is_among_times (p ∷ ps) point absent = by (is_among_times ps point) (p.0 == point.0) refl absent (count_cons (λ (other : PointId). other.0 == point.0) p ps)
  where
    by : (contains_point ps point ≡ false → times ps point ≡ 0) → (b : Bool) → p.0 == point.0 ≡ b → (b || contains_point ps point) ≡ false → times (p ∷ ps) point ≡ cond b 1 0 + times ps point → times (p ∷ ps) point ≡ 0
    by rest true same absent counts = absurd (true≢false absent)
    by rest false differs absent counts = let none = rest absent in omega (arith, counts, none)

due_set : (due : Moments) (point : PointId) (value : Option ℕ) (other : PointId) → other.0 ≢ point.0 → moment_of (slice_set due point.0 value) other ≡ moment_of due other
due_set due point value other differs = get_or-set_other due point.0 other.0 value None differs

-- a point gets its moment: it had none, and the points that it wakes are known; the counts were lowered, and then those that it wakes were recomputed
pub record HasWoken (setting : Setting) (moments : Moments) (counts lowered : List ℕ) (due woken last : Moments) (fixes ends : List PointId) (point : PointId) (moment : ℕ) : Type 0 where
  pub awake : IsAwake setting moment moments counts due
  pub wakes : AreWoken setting point fixes ends
  pub new : moment_of moments point ≡ None
  pub inside : point.0 < length setting.dispatch
  pub lower : (other : PointId) → slice_index lowered other.0 + times fixes other ≡ slice_index counts other.0
  pub lowered_count : length lowered ≡ length counts
  pub first : (other : PointId) → IsFoundOrKept moment setting (completed_at moments moment point) lowered fixes (slice_set due point.0 None) woken other
  pub second : (other : PointId) → IsFoundOrKept moment setting (completed_at moments moment point) lowered ends woken last other
  pub last_count : length last ≡ length due

module _ (setting : Setting) (moments : Moments) (counts lowered : List ℕ) (due woken last : Moments) (fixes ends : List PointId) (point : PointId) (moment : ℕ)
    (has : HasWoken setting moments counts lowered due woken last fixes ends point moment) where
  abbrev come : Moments
  come = completed_at moments moment point

  abbrev lists : PointId → Conditions
  lists other = conditions_at setting.dispatch other

  in_moments : point.0 < length moments
  in_moments = omega (arith, has.inside, has.awake.moments_count)

  counted : (other : PointId) → other.0 < length setting.dispatch → slice_index lowered other.0 ≡ open_count setting come (lists other)
  counted other within =
      let descends = count_decreases setting moments moment point has.new in_moments (lists other) in
      let decreased = has.lower other in
      let before = has.awake.counted other within in
      let fixed = has.wakes.fixed other in
      omega (arith, descends, decreased, before, fixed)

  -- the point itself is no longer due
  point_known : (other : PointId) → other ≡ point → moment_of last other ≡ moment_of (slice_set due point.0 None) other → PassesSince moment (λ t. is_due setting come t other) (moment_of last other)
  point_known other same kept =
      let none : moment_of (slice_set due point.0 None) other ≡ None = ap (moment_of (slice_set due point.0 None)) same ∙ get_or-set_same due point.0 None None (omega (arith, has.inside, has.awake.due_count)) in (
        (λ t from. come_not_due setting come t other moment (ap (moment_of come) same ∙ moment_completed moments moment point in_moments)
            ∙ sym (ap (λ (o : Option ℕ). holds_from o t) (kept ∙ none))),
        subst (λ (o : Option ℕ). IfSome o (λ k. moment ≤ k)) (sym (kept ∙ none)) tt,
      )

  -- nor does another change that has open conditions, or that the point doesn't wake
  other_test : (other : PointId) → other.0 < length setting.dispatch → other.0 == point.0 ≡ false → moment_of last other ≡ moment_of (slice_set due point.0 None) other
      → (slice_index lowered other.0 ≡ 0 → contains_point fixes other ≡ false) → (slice_index lowered other.0 ≡ 0 → contains_point ends other ≡ false)
      → (t : ℕ) → moment ≤ t → is_due setting come t other ≡ holds_from (moment_of last other) t
  other_test other within differs kept no_fix no_end t from =
      let as_before : moment_of last other ≡ moment_of due other = kept ∙ due_set due point None other (apart setting moments moment point has.new in_moments other point differs) in
      by (cases_order (slice_index lowered other.0) 0) ∙ ((has.awake.known other within).0 t from ∙ sym (ap (λ (o : Option ℕ). holds_from o t) as_before))
    where
      some_open : 0 < slice_index lowered other.0 → is_due setting come t other ≡ is_due setting moments t other
      some_open above =
          let now = counted other within in
          let before = has.awake.counted other within in
          let decreased = has.lower other in
          open_not_due setting come t other (λ none. omega (arith, none, now, above)) ∙ sym (open_not_due setting moments t other (λ none. omega (arith, none, before, decreased, above)))

      none_open : slice_index lowered other.0 ≡ 0 → is_due setting come t other ≡ is_due setting moments t other
      none_open none =
          let fixed : count_fixed_by setting point (lists other) ≡ 0 = sym (has.wakes.fixed other) ∙ is_among_times fixes other (no_fix none) in
          let met = meets_same setting moments moment point has.new in_moments t (lists other) fixed (ends_differ none) in
          let its = other_moment setting moments moment point has.new in_moments other differs in
          λ i. is_none (link_to setting other) && is_none (its i) && met i
        where
          ends_differ : slice_index lowered other.0 ≡ 0 → (wait : LinkId × ℤ) (link : Link) → Contains (lists other).waits wait → slice_get setting.links wait.0.0 ≡ Some link → link.to.0 == point.0 ≡ false
          ends_differ none wait link among declared = by (link.to.0 == point.0) refl
            where
              by : (b : Bool) → link.to.0 == point.0 ≡ b → b ≡ false
              by false differs = refl
              by true same = absurd (true≢false (sym (has.wakes.ended other wait link among declared (eqb-true link.to.0 point.0 same)) ∙ no_end none))

      by : (slice_index lowered other.0 ≡ 0) ⊎ ((slice_index lowered other.0 < 0) ⊎ (0 < slice_index lowered other.0)) → is_due setting come t other ≡ is_due setting moments t other
      by (inl none) = none_open none
      by (inr (inl less)) = absurd (omega (arith, less))
      by (inr (inr above)) = some_open above

  other_known : (other : PointId) → other.0 < length setting.dispatch → other.0 == point.0 ≡ false → moment_of last other ≡ moment_of (slice_set due point.0 None) other
      → (slice_index lowered other.0 ≡ 0 → contains_point fixes other ≡ false) → (slice_index lowered other.0 ≡ 0 → contains_point ends other ≡ false)
      → PassesSince moment (λ t. is_due setting come t other) (moment_of last other)
  other_known other within differs kept no_fix no_end =
      let as_before : moment_of last other ≡ moment_of due other = kept ∙ due_set due point None other (apart setting moments moment point has.new in_moments other point differs) in
      (other_test other within differs kept no_fix no_end, subst (λ (o : Option ℕ). IfSome o (λ k. moment ≤ k)) (sym as_before) (has.awake.known other within).1)

  known : AreDueSince moment setting come last
  known other within =
      elim (has.second other) [
        | inl found ↦ found
        | inr (same, no_end) ↦ elim (has.first other) [
          | inl found ↦ ((λ t from. found.0 t from ∙ sym (ap (λ (o : Option ℕ). holds_from o t) same)), subst (λ (o : Option ℕ). IfSome o (λ k. moment ≤ k)) (sym same) found.1)
          | inr (kept, no_fix) ↦ elim (cases_Bool (other.0 == point.0)) [
            | inl is ↦ point_known other (same_number setting moments moment point has.new in_moments other point is) (same ∙ kept)
            | inr differs ↦ other_known other within differs (same ∙ kept) no_fix no_end
          ]
        ]
      ]

  pub awake_after : IsAwake setting moment come lowered last
  awake_after = record {
    moments_count = length-completed_at moments moment point ∙ has.awake.moments_count;
    counts_count = has.lowered_count ∙ has.awake.counts_count;
    due_count = has.last_count ∙ has.awake.due_count;
    counted = counted;
    known = known;
  }

-- ---- the loops
module _ (counts before now : List ℕ) (waiters : List PointId) (i : ℕ) (inside : i < length waiters) where
  abbrev here : PointId → PointId
  here d = get_or waiters i d

  at_most : (point : PointId) → times (take (i + 1) waiters) point ≤ times waiters point
  at_most point = sum_by-take-le (λ (other : PointId). cond (other.0 == point.0) 1 0) waiters (i + 1)

  more_here : (d : PointId) → times (take (i + 1) waiters) (here d) ≡ times (take i waiters) (here d) + 1
  more_here d = count_by_more_yes (λ (other : PointId). other.0 == (here d).0) waiters i d inside (grind (arith, nat_tests))

  more_elsewhere : (d point : PointId) → (here d).0 == point.0 ≡ false → times (take (i + 1) waiters) point ≡ times (take i waiters) point
  more_elsewhere d point differs = count_by_more_no (λ (other : PointId). other.0 == point.0) waiters i d inside differs

  pub enough_to_lower : (d : PointId) → ((point : PointId) → times waiters point ≤ slice_index counts point.0)
      → ((point : PointId) → slice_index before point.0 + times (take i waiters) point ≡ slice_index counts point.0) → 1 ≤ slice_index before (here d).0
  enough_to_lower d enough each =
      let more = more_here d in
      let most = at_most (here d) in
      let all = enough (here d) in
      let so_far = each (here d) in
      omega (arith, more, most, all, so_far)

  pub lowered_more : (d : PointId) → (here d).0 < length before → 1 ≤ slice_index before (here d).0
      → ((point : PointId) → slice_index before point.0 + times (take i waiters) point ≡ slice_index counts point.0)
      → now ≡ slice_set before (here d).0 (slice_index before (here d).0 - 1)
      → (point : PointId) → slice_index now point.0 + times (take (i + 1) waiters) point ≡ slice_index counts point.0
  lowered_more d within spare_capacity each set point = by ((here d).0 == point.0) refl
    where
      by : (b : Bool) → (here d).0 == point.0 ≡ b → slice_index now point.0 + times (take (i + 1) waiters) point ≡ slice_index counts point.0
      by true same =
          let is : here d ≡ point = ap (λ (k : ℕ). let p : PointId = record { 0 = k } in p) (eqb-true (here d).0 point.0 same) in
          let decreased : slice_index now (here d).0 ≡ slice_index before (here d).0 - 1 = ap (λ (xs : List ℕ). slice_index xs (here d).0) set ∙ get_or-set_same before (here d).0 (slice_index before (here d).0 - 1) 0 within in
          let more = more_here d in
          let so_far = each (here d) in
          subst (λ (p : PointId). slice_index now p.0 + times (take (i + 1) waiters) p ≡ slice_index counts p.0) is (omega (arith, decreased, more, so_far, spare_capacity))
      by false differs =
          let apart : point.0 ≢ (here d).0 = grind (arith, nat_tests) in
          let kept : slice_index now point.0 ≡ slice_index before point.0 = ap (λ (xs : List ℕ). slice_index xs point.0) set ∙ get_or-set_other before (here d).0 point.0 (slice_index before (here d).0 - 1) 0 apart in
          let more = more_elsewhere d point differs in
          let so_far = each point in
          omega (arith, kept, more, so_far)

module _ (now : ℕ) (setting : Setting) (moments : Moments) (counts : List ℕ) (waiters : List PointId) (old before : Moments) (i : ℕ) (inside : i < length waiters) (d : PointId) where
  abbrev waiter : PointId
  waiter = get_or waiters i d

  absent_more : (point : PointId) → contains_point (take i waiters) point ≡ false → waiter.0 == point.0 ≡ false → contains_point (take (i + 1) waiters) point ≡ false
  absent_more point absent differs =
      list_any_more (λ (other : PointId). other.0 == point.0) waiters i d inside
      ∙ (ap (λ (b : Bool). b || waiter.0 == point.0) absent ∙ differs)

  -- a woken point with open conditions is left
  pub left_more : slice_index counts waiter.0 ≢ 0 → (point : PointId) → IsFoundOrKept now setting moments counts (take i waiters) old before point
      → IsFoundOrKept now setting moments counts (take (i + 1) waiters) old before point
  left_more open_it point (inl found) = inl found
  left_more open_it point (inr (same, absent)) = inr (same, λ none. by none (waiter.0 == point.0) refl)
    where
      by : slice_index counts point.0 ≡ 0 → (b : Bool) → waiter.0 == point.0 ≡ b → contains_point (take (i + 1) waiters) point ≡ false
      by none true is = absurd (open_it (ap (slice_index counts) (eqb-true waiter.0 point.0 is) ∙ none))
      by none false differs = absent_more point (absent none) differs

  -- one without is found
  pub found_more : (value : Option ℕ) → waiter.0 < length before → PassesSince now (λ t. is_due setting moments t waiter) value → (point : PointId)
      → IsFoundOrKept now setting moments counts (take i waiters) old before point
      → IsFoundOrKept now setting moments counts (take (i + 1) waiters) old (slice_set before waiter.0 value) point
  found_more value within passes point so_far = by (waiter.0 == point.0) refl so_far
    where
      by : (b : Bool) → waiter.0 == point.0 ≡ b → IsFoundOrKept now setting moments counts (take i waiters) old before point
          → IsFoundOrKept now setting moments counts (take (i + 1) waiters) old (slice_set before waiter.0 value) point
      by true same so_far =
          let is : waiter ≡ point = ap (λ (k : ℕ). let p : PointId = record { 0 = k } in p) (eqb-true waiter.0 point.0 same) in
          let its : moment_of (slice_set before waiter.0 value) waiter ≡ value = get_or-set_same before waiter.0 value None within in
          inl (subst (λ (p : PointId). PassesSince now (λ t. is_due setting moments t p) (moment_of (slice_set before waiter.0 value) p)) is
          ((λ t from. passes.0 t from ∙ sym (ap (λ (o : Option ℕ). holds_from o t) its)), subst (λ (o : Option ℕ). IfSome o (λ k. now ≤ k)) (sym its) passes.1))
      by false differs (inl found) =
          let apart : point.0 ≢ waiter.0 = grind (arith, nat_tests) in
          inl ((λ t from. found.0 t from ∙ sym (ap (λ (o : Option ℕ). holds_from o t) (due_set before waiter value point apart))), subst (λ (o : Option ℕ). IfSome o (λ k. now ≤ k)) (sym (due_set before waiter value point apart)) found.1)
      by false differs (inr (same, absent)) =
          let apart : point.0 ≢ waiter.0 = grind (arith, nat_tests) in
          inr (due_set before waiter value point apart ∙ same, λ none. absent_more point (absent none) differs)

pub enough_counted : (setting : Setting) (moments : Moments) (counts : List ℕ) (due : Moments) (point : PointId) (fixes ends : List PointId) (moment : ℕ) → IsAwake setting moment moments counts due → AreWoken setting point fixes ends
    → moment_of moments point ≡ None → point.0 < length setting.dispatch → (other : PointId) → times fixes other ≤ slice_index counts other.0
enough_counted setting moments counts due point fixes ends moment awake wakes new inside other =
    let fixed = wakes.fixed other in
    elim (cases_lt other.0 (length setting.dispatch)) [
      | inl within ↦
          (let descends = count_decreases setting moments moment point new (omega (arith, inside, awake.moments_count)) (conditions_at setting.dispatch other) in
          let counted = awake.counted other within in
          omega (arith, descends, counted, fixed))
      | inr past ↦
          (let none : count_fixed_by setting point (conditions_at setting.dispatch other) ≡ 0 = ap (count_fixed_by setting point) (get_or_past setting.dispatch other.0 no_conditions past) in
          omega (arith, none, fixed))
    ]

-- ---- before any point has come
abbrev one_if : Bool → ℕ
one_if b = cond b 1 0

count_all : {X : Type 0} (p : X → Bool) (xs : List X) → ((x : X) → p x ≡ true) → count_by p xs ≡ length xs
count_all p [] each = refl
count_all p (x ∷ xs) each =
    let rest = count_all p xs each in
    let counts = count_cons p x xs in
    let one : one_if (p x) ≡ 1 = ap one_if (each x) in
    omega (arith, rest, counts, one)

module _ (setting : Setting) (moments : Moments) (none : moments ≡ replicate (length setting.dispatch) None) where
  never : (point : PointId) → is_none (moment_of moments point) ≡ true
  never point = ap (λ (m : Moments). is_none (moment_of m point)) none ∙ ap is_none (elim (cases_lt point.0 (length setting.dispatch)) [
    | inl inside ↦ get_or-replicate (length setting.dispatch) point.0 None None inside
    | inr past ↦ get_or_past (replicate (length setting.dispatch) None) point.0 None (let long = length-replicate (length setting.dispatch) (let n : Option ℕ = None in n) in omega (arith, past, long))
  ])

  all_open : (c : Conditions) → open_count setting moments c ≡ condition_count c
  all_open c =
      let bounds = count_all (is_open_bound moments) c.lower_bounds (λ bound. never bound.0) in
      let waits = count_all (is_open_wait setting.links moments) c.waits (λ wait. by (slice_get setting.links wait.0.0)) in
      omega (arith, bounds, waits)
    where
      by : (o : Option Link) → option_map_or (λ (link : Link). is_none (moment_of moments link.from)) o true ≡ true
      by None = refl
      by (Some link) = never link.from

  -- each point is counted with all its conditions
  abbrev AreCountedWhole : List ℕ → Type 0
  AreCountedWhole counts = (point : PointId) → point.0 < length setting.dispatch → slice_index counts point.0 ≡ condition_count (conditions_at setting.dispatch point)

  pub awake_first : (counts : List ℕ) (due : Moments) → length counts ≡ length setting.dispatch → length due ≡ length counts → AreCountedWhole counts
      → ((point : PointId) → point.0 < length setting.dispatch → PassesFrom (λ t. is_due setting moments t point) (moment_of due point)) → IsAwake setting 0 moments counts due
  awake_first counts due counts_long due_long counted found = record {
    moments_count = ap (λ (m : Moments). length m) none ∙ length-replicate (length setting.dispatch) None;
    counts_count = counts_long;
    due_count = due_long ∙ counts_long;
    counted = λ point inside. counted point inside ∙ sym (all_open (conditions_at setting.dispatch point));
    known = λ point inside. ((λ t from. found point inside t), from_zero (moment_of due point));
  }
    where
      from_zero : (o : Option ℕ) → IfSome o (λ moment. 0 ≤ moment)
      from_zero None = tt
      from_zero (Some m) = omega arith

-- ---- one point more is found
module _ (counts : List ℕ) (due now : Moments) (i : ℕ) (its : ℕ) (wanted : PointId → ℕ) (passes : PointId → Option ℕ → Type 0) where
  pub found_counts : i < length counts → its ≡ wanted (record { 0 = i }) → ((point : PointId) → point.0 < i → slice_index counts point.0 ≡ wanted point)
      → (point : PointId) → point.0 < i + 1 → slice_index (slice_set counts i its) point.0 ≡ wanted point
  found_counts inside is before point below = elim (cases_lt point.0 i) [
    | inl less ↦ get_or-set_other counts i point.0 its 0 (omega (arith, less)) ∙ before point less
    | inr past ↦
        (let same : i ≡ point.0 = omega (arith, below, past) in
        subst (λ (k : ℕ). slice_index (slice_set counts i its) k ≡ wanted (record { 0 = k })) same (get_or-set_same counts i its 0 inside ∙ is))
  ]

  pub found_due : now ≡ slice_set due i (moment_of now (record { 0 = i })) → passes (record { 0 = i }) (moment_of now (record { 0 = i })) → ((point : PointId) → point.0 < i → passes point (moment_of due point))
      → (point : PointId) → point.0 < i + 1 → passes point (moment_of now point)
  found_due set is before point below = elim (cases_lt point.0 i) [
    | inl less ↦ subst (passes point) (sym (ap (λ (ds : Moments). moment_of ds point) set ∙ get_or-set_other due i point.0 (moment_of now (record { 0 = i })) None (omega (arith, less)))) (before point less)
    | inr past ↦ (let same : i ≡ point.0 = omega (arith, below, past) in subst (λ (k : ℕ). passes (record { 0 = k }) (moment_of now (record { 0 = k }))) same is)
  ]
