-- The schedules that are executed by what is kept are those that are executed by what was made.
use Rattle.std.proofs.Common.{◌≡◌, ◌⊎◌, ℕ, zero, suc, ◌+◌, ◌<◌, ◌≤◌, ℤ, pos, Bool, true, false, List, map, length, min, Option, Some, None, refl, ap, sym, subst, ◌∙◌, inl, inr, arith}
use Rattle.std.specs.Prelude.{◌&&◌, ◌||◌, ◌==◌, not, ◌+ℤ◌, ◌≤ℤ◌, int_le, slice_get, unsigned_abs}
use Rattle.std.specs.List.{All, Contains}
use Rattle.std.specs.Option.{option_map_or}
use Rattle.std.proofs.lemmas.Bool.{cases_lt, and_parts, or_cases, eqb-true}
use Rattle.std.proofs.lemmas.Int.{ints}
use Rattle.std.proofs.lemmas.List.Elements.{All-contains, Contains-append_left, Contains-append_right, Contains-append_cases}
use Rattle.std.proofs.lemmas.Option.{slice_get_read}
use Rattle.net_model.specs.Network.{Plan, IsExecutable}
use Rattle.net_model.specs.Edges.{IsLinkOf}
use Rattle.net_model.specs.declared.ids.PointId.{PointId}
use Rattle.net_model.specs.declared.ids.LinkId.{LinkId}
use Rattle.net_model.specs.declared.part.Link.{Link}
use Rattle.closure_model.specs.Tables.{Graph}
use Rattle.closure_model.proofs.Lists.{Contains-none, Contains-map, Contains-map_from, Contains-filter, Contains-filter_from, any_is}
use Rattle.strategy_model.specs.Situations.{IsSituation, moment_in}
use Rattle.strategy_model.proofs.CompareLemmas.{duration_of}
use Rattle.strategy_model.proofs.OrderLemmas.{rank}
use Rattle.dispatch_net.specs.declared.dispatch.Conditions.{Conditions}
use Rattle.dispatch_net.specs.Dispatchable.{dispatchable, conditions_at, no_conditions}
use Rattle.dispatch_net.specs.Execution.{IsFirstNotBefore, required_by_bound, required_by_wait, required_moments}
use Rattle.dispatch_net.specs.Slim.{over_point, implied_over_link, is_bound_implied, over_end, over_wait, is_wait_implied, slim_conditions, slimmed}
use Rattle.dispatch_net.specs.Ranked.{IsRanked, IsDispatchTable}
use Rattle.dispatch_net.specs.Laws.{SlimExecutionsAreTheSame}
use Rattle.closure_model.proofs.BaseLemmas.{all_contained}
use Rattle.dispatch_net.proofs.SlimLists.{slim_at, same_point, adds_up, no_less, some_low}
use Rattle.dispatch_net.proofs.RankLemmas.{made_is_ranked, by_kind}

min_left : (a b u : ℕ) → a ≤ u → min a b ≤ u
min_left a b u below = grind arith

min_right : (a b u : ℕ) → b ≤ u → min a b ≤ u
min_right a b u below = grind arith

min_cases : (a b u : ℕ) → min a b ≤ u → (a ≤ u) ⊎ (b ≤ u)
min_cases a b u below = elim (cases_lt b a) [ inl less ↦ inr (grind (arith, less, below)) | inr not_less ↦ inl (grind (arith, not_less, below)) ]

lasts_low : (low : ℤ) (d : ℕ) → low ≤ℤ pos d → pos 1 ≤ℤ low → unsigned_abs low ≤ d
lasts_low low d below positive = grind (arith, ints)

module _ (net : Plan) (table : Graph) (order : List PointId) (is : IsDispatchTable net table order) (situation schedule : List ℕ) (is_situation : IsSituation net situation)
    (contingent : (name : LinkId) (link : Link) (duration : ℕ) → IsLinkOf net name link → slice_get situation name.0 ≡ Some duration → moment_in schedule link.to ≡ moment_in schedule link.from + duration) where
  abbrev made : List Conditions
  made = dispatchable net table

  ranked : IsRanked net.links (dispatchable net table) (rank order)
  ranked = made_is_ranked net table order is

  -- a contingent point comes no sooner than the shortest duration after the activation
  lasting : (link : Link) → Contains net.links link → moment_in schedule link.from + unsigned_abs link.low ≤ moment_in schedule link.to
  lasting link among = by (ranked_name link among)
    where
      ranked_name : (l : Link) → Contains net.links l → (name : LinkId) × IsLinkOf net name l
      ranked_name l (k, inside, at) = (record { 0 = k }, slice_get_read net.links (length net.links) k l refl inside (sym at))

      by : (name : LinkId) × IsLinkOf net name link → moment_in schedule link.from + unsigned_abs link.low ≤ moment_in schedule link.to
      by (name, declared) =
          let (d, its, fits) = duration_of net.links situation name.0 link is_situation declared in
          let lasts = contingent name link d declared its in
          let least = lasts_low link.low d fits.0 (ranked.links_positive link among) in
          omega (arith, lasts, least)

  abbrev Meets : Conditions → (u : ℕ) → Type 0
  Meets c u = All (λ m. m ≤ u) (required_moments net schedule c)

  bound_below : (c : Conditions) (u : ℕ) (bound : PointId × ℤ) → Meets c u → Contains c.lower_bounds bound → moment_in schedule bound.0 + unsigned_abs bound.1 ≤ u
  bound_below c u bound meets among =
      All-contains (λ m. m ≤ u) (required_moments net schedule c) (required_by_bound schedule bound) meets
      (Contains-append_left (map (required_by_bound schedule) c.lower_bounds) (map (required_by_wait net schedule) c.waits) (required_by_bound schedule bound) (Contains-map (required_by_bound schedule) c.lower_bounds bound among))

  wait_below : (c : Conditions) (u : ℕ) (wait : LinkId × ℤ) → Meets c u → Contains c.waits wait → required_by_wait net schedule wait ≤ u
  wait_below c u wait meets among =
      All-contains (λ m. m ≤ u) (required_moments net schedule c) (required_by_wait net schedule wait) meets
      (Contains-append_right (map (required_by_bound schedule) c.lower_bounds) (map (required_by_wait net schedule) c.waits) (required_by_wait net schedule wait) (Contains-map (required_by_wait net schedule) c.waits wait among))

  meets_from : (c : Conditions) (u : ℕ) → ((bound : PointId × ℤ) → Contains c.lower_bounds bound → moment_in schedule bound.0 + unsigned_abs bound.1 ≤ u)
      → ((wait : LinkId × ℤ) → Contains c.waits wait → required_by_wait net schedule wait ≤ u) → Meets c u
  meets_from c u bounds waits = all_contained (λ m. m ≤ u) (required_moments net schedule c) each
    where
      each : (m : ℕ) → Contains (required_moments net schedule c) m → m ≤ u
      each m among =
          elim (Contains-append_cases (map (required_by_bound schedule) c.lower_bounds) (map (required_by_wait net schedule) c.waits) m among) [
            | inl left ↦ (let (bound, there, same) = Contains-map_from (required_by_bound schedule) c.lower_bounds m left in subst (λ n. n ≤ u) same (bounds bound there))
            | inr right ↦ (let (wait, there, same) = Contains-map_from (required_by_wait net schedule) c.waits m right in subst (λ n. n ≤ u) same (waits wait there))
          ]

  module _ (point : PointId) (below : (other : PointId) → rank order other < rank order point → Meets (conditions_at made other) (moment_in schedule other)) (u : ℕ) where
    abbrev lists : Conditions
    lists = conditions_at made point

    abbrev slim : Conditions
    slim = slim_conditions net.links made lists

    kept_bound : Meets slim u → (fuel : ℕ) (bound : PointId × ℤ) → Contains lists.lower_bounds bound → rank order point ≤ rank order bound.0 + fuel
        → moment_in schedule bound.0 + unsigned_abs bound.1 ≤ u
    kept_bound kept zero bound among near = absurd (let less = ranked.bounds point bound among in omega (arith, less, near))
    kept_bound kept (suc fuel) bound among near = by (λ other there nearer. kept_bound kept fuel other there nearer) (is_bound_implied net.links made lists bound) refl
      where
        over : (other : PointId × ℤ) → Contains lists.lower_bounds other → (over_point made bound other || implied_over_link net.links bound other) ≡ true
            → (rank order bound.0 < rank order other.0) × (moment_in schedule other.0 + unsigned_abs other.1 ≤ u → moment_in schedule bound.0 + unsigned_abs bound.1 ≤ u)
        over other there holds =
            let n_above = ranked.bounds_positive point bound among in
            let m_above = ranked.bounds_positive point other there in
            elim (or_cases (over_point made bound other) (implied_over_link net.links bound other) holds) [
              | inl first ↦
                  (let (inner, within, tested) = any_is (λ (inner : PointId × ℤ). inner.0.0 == bound.0.0 && int_le bound.1 (other.1 +ℤ inner.1)) (conditions_at made other.0).lower_bounds first in
                  let (at, enough) = and_parts (inner.0.0 == bound.0.0) (int_le bound.1 (other.1 +ℤ inner.1)) tested in
                  let same : inner.0 ≡ bound.0 = same_point inner.0 bound.0 at in
                  let sum = adds_up bound.1 other.1 inner.1 enough n_above m_above (ranked.bounds_positive other.0 inner within) in
                  let required = bound_below (conditions_at made other.0) (moment_in schedule other.0) inner (below other.0 (ranked.bounds point other there)) within in
                  let its : moment_in schedule inner.0 ≡ moment_in schedule bound.0 = ap (moment_in schedule) same in
                  (subst (λ (p : PointId). rank order p < rank order other.0) same (ranked.bounds other.0 inner within), λ met. omega (arith, met, required, sum, its)))
              | inr second ↦
                  (let (link, within, tested) = any_is (λ (link : Link). link.to.0 == other.0.0 && (link.from.0 == bound.0.0 && int_le bound.1 (other.1 +ℤ link.low))) net.links second in
                  let (to, more) = and_parts (link.to.0 == other.0.0) (link.from.0 == bound.0.0 && int_le bound.1 (other.1 +ℤ link.low)) tested in
                  let (from, enough) = and_parts (link.from.0 == bound.0.0) (int_le bound.1 (other.1 +ℤ link.low)) more in
                  let goes : rank order link.from < rank order link.to = ranked.links_go_down link within in
                  let begins = same_point link.from bound.0 from in
                  let ends = same_point link.to other.0 to in
                  let r_begins : rank order link.from ≡ rank order bound.0 = ap (rank order) begins in
                  let r_ends : rank order link.to ≡ rank order other.0 = ap (rank order) ends in
                  let m_begins : moment_in schedule link.from ≡ moment_in schedule bound.0 = ap (moment_in schedule) begins in
                  let m_ends : moment_in schedule link.to ≡ moment_in schedule other.0 = ap (moment_in schedule) ends in
                  let sum = adds_up bound.1 other.1 link.low enough n_above m_above (some_low link.low (ranked.links_positive link within)) in
                  let lasts = lasting link within in
                  (omega (arith, goes, r_begins, r_ends), λ met. omega (arith, met, lasts, sum, m_begins, m_ends)))
            ]

        by : ((other : PointId × ℤ) → Contains lists.lower_bounds other → rank order point ≤ rank order other.0 + fuel → moment_in schedule other.0 + unsigned_abs other.1 ≤ u)
            → (b : Bool) → is_bound_implied net.links made lists bound ≡ b → moment_in schedule bound.0 + unsigned_abs bound.1 ≤ u
        by rest false no_others = bound_below slim u bound kept (Contains-filter (λ b. not (is_bound_implied net.links made lists b)) lists.lower_bounds bound among (ap not no_others))
        by rest true implied =
            let (other, there, holds) = any_is (λ other. over_point made bound other || implied_over_link net.links bound other) lists.lower_bounds implied in
            let (further, meets) = over other there holds in
            meets (rest other there (omega (arith, further, near)))

    -- what a wait requires
    asks_is : (wait : LinkId × ℤ) (link : Link) → slice_get net.links wait.0.0 ≡ Some link
        → required_by_wait net schedule wait ≡ min (moment_in schedule link.to) (moment_in schedule link.from + unsigned_abs wait.1)
    asks_is wait link declared = ap (λ (o : Option Link). option_map_or (λ (l : Link). min (moment_in schedule l.to) (moment_in schedule l.from + unsigned_abs wait.1)) o 0) declared

    asks_below : (wait : LinkId × ℤ) (link : Link) → slice_get net.links wait.0.0 ≡ Some link → (moment_in schedule link.to ≤ u) ⊎ (moment_in schedule link.from + unsigned_abs wait.1 ≤ u) → required_by_wait net schedule wait ≤ u
    asks_below wait link declared (inl come) = subst (λ n. n ≤ u) (sym (asks_is wait link declared)) (min_left (moment_in schedule link.to) (moment_in schedule link.from + unsigned_abs wait.1) u come)
    asks_below wait link declared (inr gone) = subst (λ n. n ≤ u) (sym (asks_is wait link declared)) (min_right (moment_in schedule link.to) (moment_in schedule link.from + unsigned_abs wait.1) u gone)

    -- a wait for a link that there isn't requires nothing
    asks_nothing : (wait : LinkId × ℤ) → slice_get net.links wait.0.0 ≡ None → required_by_wait net schedule wait ≤ u
    asks_nothing wait none =
        let nothing : required_by_wait net schedule wait ≡ 0 = ap (λ (o : Option Link). option_map_or (λ (l : Link). min (moment_in schedule l.to) (moment_in schedule l.from + unsigned_abs wait.1)) o 0) none in
        omega (arith, nothing)

    kept_wait : Meets slim u → (wait : LinkId × ℤ) → Contains lists.waits wait → required_by_wait net schedule wait ≤ u
    kept_wait kept wait among = by_link (slice_get net.links wait.0.0) refl
      where
        over : (link : Link) → slice_get net.links wait.0.0 ≡ Some link → (other : PointId × ℤ) → Contains lists.lower_bounds other → moment_in schedule other.0 + unsigned_abs other.1 ≤ u
            → (over_end wait.1 other link || over_wait made wait other) ≡ true → (moment_in schedule link.to ≤ u) ⊎ (moment_in schedule link.from + unsigned_abs wait.1 ≤ u)
        over link declared other there met holds =
            let n_above = ranked.waits_positive point wait among in
            let m_above = ranked.bounds_positive point other there in
            elim (or_cases (over_end wait.1 other link) (over_wait made wait other) holds) [
              | inl first ↦ elim (or_cases (other.0.0 == link.from.0 && int_le wait.1 other.1) (other.0.0 == link.to.0) first) [
                | inl begins ↦
                    (let (at, enough) = and_parts (other.0.0 == link.from.0) (int_le wait.1 other.1) begins in
                    let its : moment_in schedule other.0 ≡ moment_in schedule link.from = ap (moment_in schedule) (same_point other.0 link.from at) in
                    let less = no_less wait.1 other.1 enough n_above m_above in
                    inr (omega (arith, its, less, met)))
                | inr ends ↦
                    (let its : moment_in schedule other.0 ≡ moment_in schedule link.to = ap (moment_in schedule) (same_point other.0 link.to ends) in
                    inl (omega (arith, its, met)))
              ]
              | inr second ↦
                  (let (inner, within, tested) = any_is (λ (inner : LinkId × ℤ). inner.0.0 == wait.0.0 && int_le wait.1 (other.1 +ℤ inner.1)) (conditions_at made other.0).waits second in
                  let (at, enough) = and_parts (inner.0.0 == wait.0.0) (int_le wait.1 (other.1 +ℤ inner.1)) tested in
                  let named : slice_get net.links inner.0.0 ≡ Some link = ap (slice_get net.links) (eqb-true inner.0.0 wait.0.0 at) ∙ declared in
                  let required = wait_below (conditions_at made other.0) (moment_in schedule other.0) inner (below other.0 (ranked.bounds point other there)) within in
                  let sum = adds_up wait.1 other.1 inner.1 enough n_above m_above (ranked.waits_positive other.0 inner within) in
                  elim (min_cases (moment_in schedule link.to) (moment_in schedule link.from + unsigned_abs inner.1) (moment_in schedule other.0) (subst (λ n. n ≤ moment_in schedule other.0) (asks_is inner link named) required)) [
                    | inl come ↦ inl (omega (arith, come, met))
                    | inr gone ↦ inr (omega (arith, gone, met, sum))
                  ])
            ]

        by : (link : Link) → slice_get net.links wait.0.0 ≡ Some link → (b : Bool) → is_wait_implied net.links made lists wait ≡ b → required_by_wait net schedule wait ≤ u
        by link declared false no_others = wait_below slim u wait kept (Contains-filter (λ w. not (is_wait_implied net.links made lists w)) lists.waits wait among (ap not no_others))
        by link declared true implied =
            let (other, there, holds) = any_is (λ other. option_map_or (over_end wait.1 other) (slice_get net.links wait.0.0) false || over_wait made wait other) lists.lower_bounds implied in
            let tested : (over_end wait.1 other link || over_wait made wait other) ≡ true = ap (λ (o : Option Link). option_map_or (over_end wait.1 other) o false || over_wait made wait other) (sym declared) ∙ holds in
            asks_below wait link declared (over link declared other there (kept_bound kept (rank order point) other there (omega arith)) tested)

        by_link : (o : Option Link) → slice_get net.links wait.0.0 ≡ o → required_by_wait net schedule wait ≤ u
        by_link None none = asks_nothing wait none
        by_link (Some link) declared = by link declared (is_wait_implied net.links made lists wait) refl

    made_from_slim : Meets slim u → Meets lists u
    made_from_slim kept = meets_from lists u (λ bound among. kept_bound kept (rank order point) bound among (omega arith)) (kept_wait kept)

    slim_from_made : Meets lists u → Meets slim u
    slim_from_made meets =
        meets_from slim u
        (λ bound among. bound_below lists u bound meets (Contains-filter_from (λ b. not (is_bound_implied net.links made lists b)) lists.lower_bounds bound among))
        (λ wait among. wait_below lists u wait meets (Contains-filter_from (λ w. not (is_wait_implied net.links made lists w)) lists.waits wait among))

  abbrev kept : List Conditions
  kept = slimmed net.links made

  abbrev Executes : List Conditions → Type 0
  Executes by_what = (point : PointId) → IsExecutable net point → IsFirstNotBefore (required_moments net schedule (conditions_at by_what point)) (moment_in schedule point)

  meets_nothing : (point : PointId) (u : ℕ) → conditions_at made point ≡ no_conditions → Meets (conditions_at made point) u
  meets_nothing point u nothing = meets_from (conditions_at made point) u
      (λ bound among. absurd (Contains-none bound (subst (λ (c : Conditions). Contains c.lower_bounds bound) nothing among)))
      (λ wait among. absurd (Contains-none wait (subst (λ (c : Conditions). Contains c.waits wait) nothing among)))

  first_of : (point : PointId) → ((other : PointId) → rank order other < rank order point → Meets (conditions_at made other) (moment_in schedule other))
      → IsFirstNotBefore (required_moments net schedule (conditions_at kept point)) (moment_in schedule point) → IsFirstNotBefore (required_moments net schedule (conditions_at made point)) (moment_in schedule point)
  first_of point below first =
      let at = slim_at net.links made point in
      record {
        meets = made_from_slim point below (moment_in schedule point) (subst (λ (c : Conditions). Meets c (moment_in schedule point)) at first.meets);
        first = λ other meets. first.first other (subst (λ (c : Conditions). Meets c other) (sym at) (slim_from_made point below other meets));
      }

  meets_below : Executes kept → (fuel : ℕ) (point : PointId) → rank order point < fuel → Meets (conditions_at made point) (moment_in schedule point)
  meets_below executes zero point near = absurd (omega (arith, near))
  meets_below executes (suc fuel) point near =
      let below : (other : PointId) → rank order other < rank order point → Meets (conditions_at made other) (moment_in schedule other) = λ other less. meets_below executes fuel other (omega (arith, less, near)) in
      elim (by_kind net table order is point) [
        | inl executable ↦ (first_of point below (executes point executable)).meets
        | inr nothing ↦ meets_nothing point (moment_in schedule point) nothing
      ]

  made_executes : Executes kept → Executes made
  made_executes executes point executable = first_of point (λ other less. meets_below executes (suc (rank order other)) other (omega arith)) (executes point executable)

  slim_executes : Executes made → Executes kept
  slim_executes executes point executable =
      let at = slim_at net.links made point in
      let below : (other : PointId) → rank order other < rank order point → Meets (conditions_at made other) (moment_in schedule other) =
      λ other less. elim (by_kind net table order is other) [ inl free ↦ (executes other free).meets | inr nothing ↦ meets_nothing other (moment_in schedule other) nothing ] in
      let first = executes point executable in
      record {
        meets = subst (λ (c : Conditions). Meets c (moment_in schedule point)) (sym at) (slim_from_made point below (moment_in schedule point) first.meets);
        first = λ other meets. first.first other (made_from_slim point below other (subst (λ (c : Conditions). Meets c other) at meets));
      }

pub law_slim_executions_are_the_same : SlimExecutionsAreTheSame
law_slim_executions_are_the_same net table order situation schedule is is_situation = (
  λ execution. record { complete = execution.complete; executable = made_executes net table order is situation schedule is_situation execution.contingent execution.executable; contingent = execution.contingent },
  λ execution. record { complete = execution.complete; executable = slim_executes net table order is situation schedule is_situation execution.contingent execution.executable; contingent = execution.contingent },
)
