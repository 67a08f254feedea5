-- What is dropped is met if what is kept is met.
use Rattle.std.proofs.Common.{◌≡◌, ℕ, zero, suc, ◌+◌, ◌<◌, ◌≤◌, ℤ, pos, Bool, true, false, List, Option, Some, None, is_none, is_some, refl, ap, sym, subst, ◌∙◌, inl, inr, arith}
use Rattle.std.specs.Prelude.{◌&&◌, ◌||◌, ◌==◌, not, ◌+ℤ◌, ◌<ℤ◌, int_le, slice_get, unsigned_abs}
use Rattle.std.specs.List.{Contains, list_all}
use Rattle.std.specs.Option.{option_map_or}
use Rattle.std.specs.Cmp.Derive.{one_truth}
use Rattle.std.proofs.lemmas.Bool.{and_parts, and_from, or_cases, or_left, or_right, true≢false, eqb-true}
use Rattle.net_model.specs.declared.ids.PointId.{PointId}
use Rattle.net_model.specs.declared.ids.LinkId.{LinkId}
use Rattle.net_model.specs.declared.part.Link.{Link}
use Rattle.dispatch_net.specs.declared.dispatch.Conditions.{Conditions}
use Rattle.dispatch_net.specs.Dispatchable.{conditions_at}
use Rattle.net_model.specs.Moments.{Moments, moment_of}
use Rattle.closure_model.proofs.Lists.{Contains-filter, Contains-filter_from, any_is}
use Rattle.execution_model.specs.Execution.{Setting, has_come, has_gone_by, link_to, meets_bound, meets_wait_for, meets_wait, meets}
use Rattle.execution_model.proofs.PlaceLemmas.{gone_by, from_gone_by}
use Rattle.dispatch_net.proofs.SlimLists.{list_passes, passes_each, same_point, adds_up, no_less, some_low, link_there, slim_at}
use Rattle.dispatch_net.specs.Slim.{over_point, implied_over_link, is_bound_implied, over_end, over_wait, is_wait_implied, slim_conditions}
use Rattle.execution_model.specs.Paced.{IsRankedNetwork, ArePaced, SlimIsDueTheSame}

-- ---- one condition that is met if another is
module _ (setting : Setting) (rank : PointId → ℕ) (moments : Moments) (ranked : IsRankedNetwork setting rank) (paced : ArePaced setting moments) (t : ℕ) where
  abbrev made : List Conditions
  made = setting.dispatch

  met_over_point : (bound other : PointId × ℤ) → pos 0 <ℤ bound.1 → pos 0 <ℤ other.1 → over_point made bound other ≡ true → meets_bound moments t other ≡ true
      → meets_bound moments t bound ≡ true
  met_over_point bound other n_above m_above over met =
      let lists = conditions_at made other.0 in
      let (inner, among, tested) = any_is (λ (inner : PointId × ℤ). inner.0.0 == bound.0.0 && int_le bound.1 (other.1 +ℤ inner.1)) lists.lower_bounds over in
      let (same, enough) = and_parts (inner.0.0 == bound.0.0) (int_le bound.1 (other.1 +ℤ inner.1)) tested in
      let (z, z_is, z_gone) = from_gone_by moments t other.0 other.1 met in
      let all = (and_parts (list_all (meets_bound moments z) lists.lower_bounds) (list_all (meets_wait setting moments z) lists.waits) (paced.executed other.0 z z_is)).0 in
      let (y, y_is, y_gone) = from_gone_by moments z inner.0 inner.1 (passes_each (meets_bound moments z) lists.lower_bounds inner all among) in
      let its : moment_of moments bound.0 ≡ Some y = subst (λ (p : PointId). moment_of moments p ≡ Some y) (same_point inner.0 bound.0 same) y_is in
      let sum = adds_up bound.1 other.1 inner.1 enough n_above m_above (ranked.lists.bounds_positive other.0 inner among) in
      gone_by moments t bound.0 bound.1 y its (omega (arith, z_gone, y_gone, sum))

  met_over_link : (bound other : PointId × ℤ) → pos 0 <ℤ bound.1 → pos 0 <ℤ other.1 → implied_over_link setting.links bound other ≡ true → meets_bound moments t other ≡ true
      → meets_bound moments t bound ≡ true
  met_over_link bound other n_above m_above over met =
      let (link, among, tested) = any_is (λ (link : Link). link.to.0 == other.0.0 && (link.from.0 == bound.0.0 && int_le bound.1 (other.1 +ℤ link.low))) setting.links over in
      let (to, more) = and_parts (link.to.0 == other.0.0) (link.from.0 == bound.0.0 && int_le bound.1 (other.1 +ℤ link.low)) tested in
      let (from, enough) = and_parts (link.from.0 == bound.0.0) (int_le bound.1 (other.1 +ℤ link.low)) more in
      let (z, z_is, z_gone) = from_gone_by moments t other.0 other.1 met in
      let ends : moment_of moments link.to ≡ Some z = subst (λ (p : PointId). moment_of moments p ≡ Some z) (sym (same_point link.to other.0 to)) z_is in
      let (a, a_is, late) = paced.completed link z among ends in
      let its : moment_of moments bound.0 ≡ Some a = subst (λ (p : PointId). moment_of moments p ≡ Some a) (same_point link.from bound.0 from) a_is in
      let sum = adds_up bound.1 other.1 link.low enough n_above m_above (some_low link.low (ranked.lists.links_positive link among)) in
      gone_by moments t bound.0 bound.1 a its (omega (arith, z_gone, late, sum))

  -- a wait that is met for its link
  wait_of : (wait : LinkId × ℤ) (link : Link) → slice_get setting.links wait.0.0 ≡ Some link → meets_wait_for moments t wait.1 link ≡ true → meets_wait setting moments t wait ≡ true
  wait_of wait link declared met = ap (λ (o : Option Link). option_map_or (meets_wait_for moments t wait.1) o false) declared ∙ met

  link_of : (test : Link → Bool) (k : ℕ) → option_map_or test (slice_get setting.links k) false ≡ true → (link : Link) × (slice_get setting.links k ≡ Some link) × (test link ≡ true)
  link_of test k holds = by (slice_get setting.links k) refl holds
    where
      by : (o : Option Link) → slice_get setting.links k ≡ o → option_map_or test o false ≡ true → (link : Link) × (slice_get setting.links k ≡ Some link) × (test link ≡ true)
      by None none holds = absurd (true≢false (sym holds))
      by (Some link) declared holds = (link, declared, holds)

  has_its : (point : PointId) (m : ℕ) → moment_of moments point ≡ Some m → has_come moments point ≡ true
  has_its point m its = ap is_some its

  met_over_end : (wait : LinkId × ℤ) (other : PointId × ℤ) → pos 0 <ℤ wait.1 → pos 0 <ℤ other.1 → option_map_or (over_end wait.1 other) (slice_get setting.links wait.0.0) false ≡ true
      → meets_bound moments t other ≡ true → meets_wait setting moments t wait ≡ true
  met_over_end wait other n_above m_above over met = by (link_of (over_end wait.1 other) wait.0.0 over) (from_gone_by moments t other.0 other.1 met)
    where
      by : (link : Link) × (slice_get setting.links wait.0.0 ≡ Some link) × (over_end wait.1 other link ≡ true)
          → (z : ℕ) × (moment_of moments other.0 ≡ Some z) × (z + unsigned_abs other.1 ≤ t) → meets_wait setting moments t wait ≡ true
      by (link, declared, holds) (z, z_is, z_gone) =
          wait_of wait link declared (elim (or_cases (other.0.0 == link.from.0 && int_le wait.1 other.1) (other.0.0 == link.to.0) holds) [
            | inl first ↦
                (let (same, enough) = and_parts (other.0.0 == link.from.0) (int_le wait.1 other.1) first in
                let its : moment_of moments link.from ≡ Some z = subst (λ (p : PointId). moment_of moments p ≡ Some z) (same_point other.0 link.from same) z_is in
                let less = no_less wait.1 other.1 enough n_above m_above in
                and_from (has_come moments link.from) (has_come moments link.to || has_gone_by moments t link.from wait.1) (has_its link.from z its)
                (or_right (has_come moments link.to) (has_gone_by moments t link.from wait.1) (gone_by moments t link.from wait.1 z its (omega (arith, z_gone, less)))))
            | inr ends ↦
                (let its : moment_of moments link.to ≡ Some z = subst (λ (p : PointId). moment_of moments p ≡ Some z) (same_point other.0 link.to ends) z_is in
                let (a, a_is, late) = paced.completed link z (link_there setting.links wait.0.0 link declared) its in
                and_from (has_come moments link.from) (has_come moments link.to || has_gone_by moments t link.from wait.1) (has_its link.from a a_is)
                (or_left (has_come moments link.to) (has_gone_by moments t link.from wait.1) (has_its link.to z its)))
          ])

  module _ (wait : LinkId × ℤ) (other : PointId × ℤ) where
    abbrev over_lists : Conditions
    over_lists = conditions_at made other.0

    abbrev over_test : LinkId × ℤ → Bool
    over_test inner = inner.0.0 == wait.0.0 && int_le wait.1 (other.1 +ℤ inner.1)

    met_over_wait : pos 0 <ℤ wait.1 → pos 0 <ℤ other.1 → over_wait made wait other ≡ true → meets_bound moments t other ≡ true → meets_wait setting moments t wait ≡ true
    met_over_wait n_above m_above over met = by (any_is over_test over_lists.waits over) (from_gone_by moments t other.0 other.1 met)
      where
        by : (inner : LinkId × ℤ) × Contains over_lists.waits inner × (over_test inner ≡ true)
            → (z : ℕ) × (moment_of moments other.0 ≡ Some z) × (z + unsigned_abs other.1 ≤ t) → meets_wait setting moments t wait ≡ true
        by (inner, among, tested) (z, z_is, z_gone) =
            let (same, enough) = and_parts (inner.0.0 == wait.0.0) (int_le wait.1 (other.1 +ℤ inner.1)) tested in
            let all = (and_parts (list_all (meets_bound moments z) over_lists.lower_bounds) (list_all (meets_wait setting moments z) over_lists.waits) (paced.executed other.0 z z_is)).1 in
            let inner_met : meets_wait setting moments z inner ≡ true = passes_each (meets_wait setting moments z) over_lists.waits inner all among in
            let (link, at, holds) = link_of (meets_wait_for moments z inner.1) inner.0.0 inner_met in
            let declared : slice_get setting.links wait.0.0 ≡ Some link = subst (λ (k : ℕ). slice_get setting.links k ≡ Some link) (eqb-true inner.0.0 wait.0.0 same) at in
            let sum = adds_up wait.1 other.1 inner.1 enough n_above m_above (ranked.lists.waits_positive other.0 inner among) in
            let (is_activated, ends) = and_parts (has_come moments link.from) (has_come moments link.to || has_gone_by moments z link.from inner.1) holds in
            wait_of wait link declared
            (and_from (has_come moments link.from) (has_come moments link.to || has_gone_by moments t link.from wait.1) is_activated
            (elim (or_cases (has_come moments link.to) (has_gone_by moments z link.from inner.1) ends) [
              | inl come ↦ or_left (has_come moments link.to) (has_gone_by moments t link.from wait.1) come
              | inr gone ↦
                  (let (a, a_is, a_gone) = from_gone_by moments z link.from inner.1 gone in
                  or_right (has_come moments link.to) (has_gone_by moments t link.from wait.1) (gone_by moments t link.from wait.1 a a_is (omega (arith, z_gone, a_gone, sum))))
            ]))

  -- ---- the conditions of a point
  module _ (point : PointId) where
    abbrev lists : Conditions
    lists = conditions_at made point

    abbrev slim : Conditions
    slim = slim_conditions setting.links made lists

    -- each lower bound is met if those that are kept are: along the order, from the last point on
    bound_met : list_all (meets_bound moments t) slim.lower_bounds ≡ true → (fuel : ℕ) (bound : PointId × ℤ) → Contains lists.lower_bounds bound → rank point ≤ rank bound.0 + fuel
        → meets_bound moments t bound ≡ true
    bound_met kept zero bound among near = absurd (let less = ranked.lists.bounds point bound among in omega (arith, less, near))
    bound_met kept (suc fuel) bound among near = by (λ other there nearer. bound_met kept fuel other there nearer) (is_bound_implied setting.links made lists bound) refl
      where
        over : (other : PointId × ℤ) → Contains lists.lower_bounds other → (over_point made bound other || implied_over_link setting.links bound other) ≡ true
            → (rank bound.0 < rank other.0) × (meets_bound moments t other ≡ true → meets_bound moments t bound ≡ true)
        over other there holds =
            let n_above = ranked.lists.bounds_positive point bound among in
            let m_above = ranked.lists.bounds_positive point other there in
            elim (or_cases (over_point made bound other) (implied_over_link setting.links bound other) holds) [
              | inl first ↦
                  (let (inner, within, tested) = any_is (λ (inner : PointId × ℤ). inner.0.0 == bound.0.0 && int_le bound.1 (other.1 +ℤ inner.1)) (conditions_at made other.0).lower_bounds first in
                  let same : inner.0 ≡ bound.0 = same_point inner.0 bound.0 (and_parts (inner.0.0 == bound.0.0) (int_le bound.1 (other.1 +ℤ inner.1)) tested).0 in
                  (subst (λ (p : PointId). rank p < rank other.0) same (ranked.lists.bounds other.0 inner within), met_over_point bound other n_above m_above first))
              | inr second ↦
                  (let (link, within, tested) = any_is (λ (link : Link). link.to.0 == other.0.0 && (link.from.0 == bound.0.0 && int_le bound.1 (other.1 +ℤ link.low))) setting.links second in
                  let (to, more) = and_parts (link.to.0 == other.0.0) (link.from.0 == bound.0.0 && int_le bound.1 (other.1 +ℤ link.low)) tested in
                  let from = (and_parts (link.from.0 == bound.0.0) (int_le bound.1 (other.1 +ℤ link.low)) more).0 in
                  let goes : rank link.from < rank link.to = ranked.lists.links_go_down link within in
                  let begins : rank link.from ≡ rank bound.0 = ap rank (same_point link.from bound.0 from) in
                  let ends : rank link.to ≡ rank other.0 = ap rank (same_point link.to other.0 to) in
                  (omega (arith, goes, begins, ends), met_over_link bound other n_above m_above second))
            ]

        by : ((other : PointId × ℤ) → Contains lists.lower_bounds other → rank point ≤ rank other.0 + fuel → meets_bound moments t other ≡ true)
            → (b : Bool) → is_bound_implied setting.links made lists bound ≡ b → meets_bound moments t bound ≡ true
        by rest false is = passes_each (meets_bound moments t) slim.lower_bounds bound kept (Contains-filter (λ b. not (is_bound_implied setting.links made lists b)) lists.lower_bounds bound among (ap not is))
        by rest true is =
            let (other, there, holds) = any_is (λ other. over_point made bound other || implied_over_link setting.links bound other) lists.lower_bounds is in
            let (further, meets) = over other there holds in
            meets (rest other there (omega (arith, further, near)))

    wait_met : list_all (meets_bound moments t) slim.lower_bounds ≡ true → list_all (meets_wait setting moments t) slim.waits ≡ true → (wait : LinkId × ℤ) → Contains lists.waits wait
        → meets_wait setting moments t wait ≡ true
    wait_met kept kept_waits wait among = by (is_wait_implied setting.links made lists wait) refl
      where
        by : (b : Bool) → is_wait_implied setting.links made lists wait ≡ b → meets_wait setting moments t wait ≡ true
        by false is = passes_each (meets_wait setting moments t) slim.waits wait kept_waits (Contains-filter (λ w. not (is_wait_implied setting.links made lists w)) lists.waits wait among (ap not is))
        by true is =
            let (other, there, holds) = any_is (λ other. option_map_or (over_end wait.1 other) (slice_get setting.links wait.0.0) false || over_wait made wait other) lists.lower_bounds is in
            let n_above = ranked.lists.waits_positive point wait among in
            let m_above = ranked.lists.bounds_positive point other there in
            let met = bound_met kept (rank point) other there (omega arith) in
            elim (or_cases (option_map_or (over_end wait.1 other) (slice_get setting.links wait.0.0) false) (over_wait made wait other) holds) [
              | inl first ↦ met_over_end wait other n_above m_above first met
              | inr second ↦ met_over_wait wait other n_above m_above second met
            ]

    pub slim_meets_the_same : meets setting moments t slim ≡ meets setting moments t lists
    slim_meets_the_same = one_truth (meets setting moments t slim) (meets setting moments t lists) up down
      where
        up : meets setting moments t slim ≡ true → meets setting moments t lists ≡ true
        up holds =
            let (bounds, waits) = and_parts (list_all (meets_bound moments t) slim.lower_bounds) (list_all (meets_wait setting moments t) slim.waits) holds in
            and_from (list_all (meets_bound moments t) lists.lower_bounds) (list_all (meets_wait setting moments t) lists.waits)
            (list_passes (meets_bound moments t) lists.lower_bounds (λ bound among. bound_met bounds (rank point) bound among (omega arith)))
            (list_passes (meets_wait setting moments t) lists.waits (λ wait among. wait_met bounds waits wait among))

        down : meets setting moments t lists ≡ true → meets setting moments t slim ≡ true
        down holds =
            let (bounds, waits) = and_parts (list_all (meets_bound moments t) lists.lower_bounds) (list_all (meets_wait setting moments t) lists.waits) holds in
            and_from (list_all (meets_bound moments t) slim.lower_bounds) (list_all (meets_wait setting moments t) slim.waits)
            (list_passes (meets_bound moments t) slim.lower_bounds (λ bound among. passes_each (meets_bound moments t) lists.lower_bounds bound bounds
            (Contains-filter_from (λ b. not (is_bound_implied setting.links made lists b)) lists.lower_bounds bound among)))
            (list_passes (meets_wait setting moments t) slim.waits (λ wait among. passes_each (meets_wait setting moments t) lists.waits wait waits
            (Contains-filter_from (λ w. not (is_wait_implied setting.links made lists w)) lists.waits wait among)))

pub law_slim_is_due_the_same : SlimIsDueTheSame
law_slim_is_due_the_same setting rank moments ranked paced t point =
    ap (λ (c : Conditions). is_none (link_to setting point) && is_none (moment_of moments point) && meets setting moments t c) (slim_at setting.links setting.dispatch point)
    ∙ ap (λ (b : Bool). is_none (link_to setting point) && is_none (moment_of moments point) && b) (slim_meets_the_same setting rank moments ranked paced t point)
