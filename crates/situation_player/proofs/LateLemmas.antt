-- How late a point comes at most in the earliest schedule of a situation: each point comes no later than the greatest number of a network
-- after a point that comes before it.
use Rattle.std.proofs.Common.{◌≡◌, ℕ, ℤ, pos, zero, suc, ◌+◌, ◌*◌, ◌-ℤ◌, ◌<◌, ◌≤◌, ◌⊎◌, Bool, true, false, cond, List, [], ◌∷◌, length, map, min, get_or, nat_lt, Option, Some, None, inl, inr, refl, ap, subst, arith}
use Rattle.std.specs.Prelude.{unsigned_abs, slice_get, ◌<ℤ◌}
use Rattle.std.specs.List.{All, Contains}
use Rattle.std.specs.Option.{option_map_or}
use Rattle.std.proofs.lemmas.Bool.{cases_lt, leb-true, lt-ltb, le-ltb}
use Rattle.std.proofs.lemmas.Int.{ints}
use Rattle.std.proofs.lemmas.List.Elements.{All-nil, All-cons, All-head, All-tail, Contains-append_cases}
use Rattle.net_model.specs.Limits.{most_size, most_moment}
use Rattle.net_model.specs.Network.{Plan, IsPoint, IsExecutable}
use Rattle.net_model.specs.declared.ids.PointId.{PointId}
use Rattle.net_model.specs.declared.ids.LinkId.{LinkId}
use Rattle.net_model.specs.declared.part.Link.{Link}
use Rattle.net_model.specs.declared.part.Edge.{Edge}
use Rattle.net_model.proofs.NetworkLemmas.{greatest-le}
use Rattle.closure_model.specs.Tables.{Graph, HasEdge}
use Rattle.closure_model.proofs.Lists.{Contains-head, Contains-tail, Contains-map_from}
use Rattle.strategy_model.specs.Control.{IsEarliest}
use Rattle.strategy_model.specs.Situations.{moment_in}
use Rattle.strategy_model.proofs.KindLemmas.{Ending, kind}
use Rattle.strategy_model.proofs.PlayLemmas.{link_sound}
use Rattle.dispatch_net.specs.Dispatchable.{dispatchable, conditions_at}
use Rattle.dispatch_net.specs.Execution.{IsFirstNotBefore, required_by_bound, required_by_wait, required_moments}
use Rattle.dispatch_net.specs.Laws.{AreExact}
use Rattle.dispatch_net.specs.declared.dispatch.Conditions.{Conditions}
use Rattle.dispatch_net.proofs.EarliestLemmas.{law_forward_tables_may_dispatch}
use Rattle.dispatch_net.proofs.ExactLemmas.{law_lists_are_exact}
use Rattle.dispatch_net.proofs.ExecutionLemmas.{point_count}
use Rattle.closure_laws.specs.Forward.{IsDispatchedForward}
use Rattle.execution_model.proofs.CutLemmas.{IsRun, lasts}
use Rattle.execution_model.proofs.LawLemmas.{run_of}

-- ---- numbers of a list below another
abbrev below : ℕ → List ℕ → ℕ
below t [] = 0
below t (m ∷ moments) = cond (nat_lt m t) 1 0 + below t moments

below_few : (t : ℕ) (moments : List ℕ) → below t moments ≤ length moments
below_few t [] = omega arith
below_few t (m ∷ moments) = omega (arith, below_few t moments, at_most_one (nat_lt m t))
  where
    at_most_one : (b : Bool) → cond b 1 0 ≤ 1
    at_most_one true = omega arith
    at_most_one false = omega arith

below_each : (m t u : ℕ) → t ≤ u → cond (nat_lt m t) 1 0 ≤ cond (nat_lt m u) 1 0
below_each m t u later =
    elim (cases_lt m t) [
      | inl less ↦ rw (lt-ltb m t less, lt-ltb m u (omega (arith, less, later))) (omega arith)
      | inr above ↦ rw (le-ltb m t above) (omega arith)
    ]

below_grows : (t u : ℕ) (moments : List ℕ) → t ≤ u → below t moments ≤ below u moments
below_grows t u [] later = omega arith
below_grows t u (m ∷ moments) later = omega (arith, below_each m t u later, below_grows t u moments later)

-- if one of them lies between, there is one more
below_more : (t u : ℕ) (moments : List ℕ) (k : ℕ) → k < length moments → t ≤ get_or moments k 0 → get_or moments k 0 < u → below t moments + 1 ≤ below u moments
below_more t u [] k inside above less = absurd (omega (arith, inside))
below_more t u (m ∷ moments) zero inside above less =
    let grows = below_grows t u moments (omega (arith, above, less)) in
    rw (le-ltb m t above, lt-ltb m u less) (omega (arith, grows))
below_more t u (m ∷ moments) (suc k) inside above less =
    omega (arith, below_each m t u (omega (arith, above, less)), below_more t u moments k (omega (arith, inside)) above less)

-- ---- the first moment that is before none of some is one of them, if it is not 0
one_or_less : (required : List ℕ) (moment : ℕ) → All (λ m. m ≤ suc moment) required → All (λ m. m ≤ moment) required ⊎ Contains required (suc moment)
one_or_less [] moment all = inl (All-nil (λ m. m ≤ moment))
one_or_less (m ∷ required) moment all =
    elim (cases_lt moment m) [
      | inl above ↦
          (let low : m ≤ suc moment = All-head (λ m. m ≤ suc moment) m required all in
          let same : m ≡ suc moment = omega (arith, above, low) in
          inr (subst (λ (n : ℕ). Contains (m ∷ required) n) same (Contains-head m required)))
      | inr low ↦ elim (one_or_less required moment (All-tail (λ m. m ≤ suc moment) m required all)) [
        | inl rest ↦ inl (All-cons (λ m. m ≤ moment) m required low rest)
        | inr later ↦ inr (Contains-tail m required (suc moment) later)
      ]
    ]

first_is_required : (required : List ℕ) (moment : ℕ) → IsFirstNotBefore required moment → 0 < moment → Contains required moment
first_is_required required zero first some = absurd (omega (arith, some))
first_is_required required (suc moment) first some =
    elim (one_or_less required moment first.meets) [
      | inl all ↦ absurd (let low = first.first moment all in omega (arith, low))
      | inr one ↦ one
    ]

-- a point that comes before another, which comes no later than the greatest number after it
record IsBefore (net : Plan) (schedule : List ℕ) (point : PointId) : Type 0 where
  other : PointId
  stands : IsPoint net other
  sooner : moment_in schedule other < moment_in schedule point
  near : moment_in schedule point ≤ moment_in schedule other + most_size

sized : (n : ℤ) → pos 0 <ℤ n → unsigned_abs (pos 0 -ℤ n) ≤ most_size → (1 ≤ unsigned_abs n) × (unsigned_abs n ≤ most_size)
sized n some small = (omega (arith, ints), omega (arith, ints, small))

module _ (net : Plan) (table : Graph) (order : List PointId) (by : IsDispatchedForward net table order) (situation schedule : List ℕ) (earliest : IsEarliest net situation schedule) where
  run : IsRun net table schedule
  run = run_of net table order by situation schedule earliest

  within : (edge : Edge) → HasEdge table edge → unsigned_abs edge.weight ≤ most_size
  within edge has =
      let may = law_forward_tables_may_dispatch net table order by.instant.sound by.forward by.ordered in
      let small = greatest-le net by.instant.sound in
      let low = may.within edge has in
      omega (arith, low, small)

  module _ (point : PointId) (executable : IsExecutable net point) where
    abbrev conditions : Conditions
    conditions = conditions_at (dispatchable net table) point

    exact : AreExact table point conditions
    exact = (law_lists_are_exact net table point run.for run.sound executable.0).0 executable

    before_by_bound : (bound : PointId × ℤ) → Contains conditions.lower_bounds bound → required_by_bound schedule bound ≡ moment_in schedule point → IsBefore net schedule point
    before_by_bound bound among is =
        let (some, has) = (exact.bounds bound.0 bound.1).0 among in
        let edge : Edge = record { from = point; to = bound.0; label = None; weight = pos 0 -ℤ bound.1 } in
        let key = run.sound.keys edge has in
        let low = key.to_point in
        let (one, small) = sized bound.1 some (within edge has) in
        record {
          other = bound.0;
          stands = omega (arith, low, point_count net table run.for);
          sooner = omega (arith, is, one);
          near = omega (arith, is, small);
        }

    before_by_wait : (wait : LinkId × ℤ) → Contains conditions.waits wait → required_by_wait net schedule wait ≡ moment_in schedule point → 0 < moment_in schedule point → IsBefore net schedule point
    before_by_wait wait among is some =
        let (more, edge) = (exact.waits wait.0 wait.1).0 among in
        let (one, small) = sized wait.1 more (within (record { from = point; to = edge.0; label = Some wait.0; weight = pos 0 -ℤ wait.1 }) edge.1) in
        by_link one small (slice_get net.links wait.0.0) refl is
      where
        by_link : 1 ≤ unsigned_abs wait.1 → unsigned_abs wait.1 ≤ most_size → (o : Option Link) → slice_get net.links wait.0.0 ≡ o
            → option_map_or (λ (link : Link). min (moment_in schedule link.to) (moment_in schedule link.from + unsigned_abs wait.1)) o 0 ≡ moment_in schedule point → IsBefore net schedule point
        by_link one small None found asks = absurd (omega (arith, asks, some))
        by_link one small (Some link) found asks =
            let its = lasts net table schedule run wait.0 link found in
            let lasting = its.is in
            let low = its.low in
            let positive = its.positive in
            record {
              other = link.from;
              stands = (link_sound net run.plan wait.0.0 link found).from_point;
              sooner = omega (arith, asks, lasting, low, positive, one);
              near = omega (arith, asks, small);
            }

    before_executable : 0 < moment_in schedule point → IsBefore net schedule point
    before_executable some =
        elim (Contains-append_cases (map (required_by_bound schedule) conditions.lower_bounds) (map (required_by_wait net schedule) conditions.waits) (moment_in schedule point)
        (first_is_required (required_moments net schedule conditions) (moment_in schedule point) (run.executed.executable point executable) some)) [
          | inl required ↦ (let (bound, among, is) = Contains-map_from (required_by_bound schedule) conditions.lower_bounds (moment_in schedule point) required in before_by_bound bound among is)
          | inr required ↦ (let (wait, among, is) = Contains-map_from (required_by_wait net schedule) conditions.waits (moment_in schedule point) required in before_by_wait wait among is some)
        ]

  before_ending : (point : PointId) → Ending net point → IsBefore net schedule point
  before_ending point ending =
      let its = lasts net table schedule run ending.name ending.link ending.declared in
      let sound = link_sound net run.plan ending.name.0 ending.link ending.declared in
      let at : moment_in schedule ending.link.to ≡ moment_in schedule point = ap (moment_in schedule) ending.ends in
      let lasting = its.is in
      let low = its.low in
      let high = its.high in
      let positive = its.positive in
      let small : unsigned_abs ending.link.high ≤ most_size = leb-true (unsigned_abs ending.link.high) most_size sound.within in
      record {
        other = ending.link.from;
        stands = sound.from_point;
        sooner = omega (arith, at, lasting, low, positive);
        near = omega (arith, at, lasting, high, small);
      }

  before_it : (point : PointId) → IsPoint net point → 0 < moment_in schedule point → IsBefore net schedule point
  before_it point inside some =
      elim (kind net point inside) [
        | inl executable ↦ before_executable point executable some
        | inr ending ↦ before_ending point ending
      ]

  -- so a point comes no later than so many times that number as points come before it
  late_by : (bound : ℕ) (point : PointId) → IsPoint net point → moment_in schedule point < bound → moment_in schedule point ≤ most_size * below (moment_in schedule point) schedule
  late_by zero point inside less = absurd (omega (arith, less))
  late_by (suc bound) point inside less =
      elim (cases_lt 0 (moment_in schedule point)) [
        | inl some ↦
            (let is = before_it point inside some in
            let sooner = is.sooner in
            let near = is.near in
            let stands = is.stands in
            let size = run.executed.complete in
            let other = late_by bound is.other is.stands (omega (arith, sooner, less)) in
            let more = below_more (moment_in schedule is.other) (moment_in schedule point) schedule is.other.0 (omega (arith, stands, size)) (omega arith) sooner in
            omega (arith, near, other, more))
        | inr none ↦ omega (arith, none)
      ]

  -- The limits just suffice for each point to be played: 2,000 points, each at most 2,000,000,000 moments after another one, are at most the 4,000,000,000,000 moments of an execution.
  pub in_good_time : (point : PointId) → IsPoint net point → moment_in schedule point ≤ most_moment
  in_good_time point inside =
      let late = late_by (suc (moment_in schedule point)) point inside (omega arith) in
      let few = below_few (moment_in schedule point) schedule in
      let size = run.executed.complete in
      let most = by.instant.sound.few_points in
      omega (arith, late, few, size, most)
