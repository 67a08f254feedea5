-- The moments so far of a schedule: those before a moment. What is completed and executed then, and what is known after it.
use Rattle.std.proofs.Common.{◌≡◌, ℕ, zero, suc, ◌+◌, ◌<◌, ◌≤◌, ◌&&◌, ◌||◌, not, Bool, true, false, cond, List, [], ◌∷◌, ◌++◌, Option, Some, None, length, map, is_some, is_none, refl, ap, sym, ◌∙◌, subst, arith, inl, inr}
use Rattle.std.specs.Prelude.{slice_get, filter, nat_lt, ◌==◌}
use Rattle.std.specs.List.{slice_index, list_any, range_with_len}
use Rattle.std.specs.Option.{option_map}
use Rattle.std.proofs.lemmas.Bool.{lt-ltb, eqb-true, eq-eqb, ne_eqb, cases_lt, and_parts, and_from, and_right, or_left, or_right, true≢false}
use Rattle.std.proofs.lemmas.Option.{none-some, same_Some}
use Rattle.std.proofs.lemmas.List.Elements.{filter_agree}
use Rattle.net_model.specs.Network.{Plan, IsPlan, IsPoint, activation}
use Rattle.net_model.specs.Edges.{IsLinkOf}
use Rattle.net_model.specs.declared.ids.PointId.{PointId}
use Rattle.net_model.specs.declared.ids.LinkId.{LinkId}
use Rattle.net_model.specs.declared.part.Link.{Link}
use Rattle.strategy_model.specs.Situations.{IsSituation, moment_in}
use Rattle.strategy_model.specs.Plays.{PartialSchedule, same_point, moment_so_far, at_moment, points_of, may_act, all_some, schedule_made}
use Rattle.strategy_model.specs.InstantPlays.{completes, is_completed, completed}
use Rattle.strategy_model.proofs.MomentLemmas.{same_from_test, test_from_same, point_at, found_first, found_later, passes_test}
use Rattle.strategy_model.proofs.PlayLemmas.{and_moment, known_stays, unknown_later, link_sound, Completion, completed_means, completes_means}
use Rattle.strategy_model.proofs.CompareLemmas.{duration_of, at_least_1}
use Rattle.strategy_model.proofs.KindLemmas.{Ending, kind_of_any, ending_known}

-- a contingent point comes at a moment
abbrev pub comes_seen : Plan → List ℕ → ℕ → PointId → Bool
comes_seen net schedule t point = is_some (activation net point) && (moment_in schedule point == t)

-- an executable point comes at a moment
abbrev pub comes_acted : Plan → List ℕ → ℕ → PointId → Bool
comes_acted net schedule t point = is_none (activation net point) && (moment_in schedule point == t)

-- the contingent points that come at a moment
abbrev pub seen_in : Plan → List ℕ → ℕ → List PointId
seen_in net schedule t = filter (comes_seen net schedule t) (points_of net)

-- the executable points that come at a moment
abbrev pub acts_in : Plan → List ℕ → ℕ → List PointId
acts_in net schedule t = filter (comes_acted net schedule t) (points_of net)

-- the moments so far are those of the schedule before a moment
pub record Known (net : Plan) (schedule : List ℕ) (so_far : PartialSchedule) (t : ℕ) : Type 0 where
  pub before : (point : PointId) → IsPoint net point → moment_in schedule point < t → moment_so_far so_far point ≡ Some (moment_in schedule point)
  pub not_yet : (point : PointId) → IsPoint net point → t ≤ moment_in schedule point → moment_so_far so_far point ≡ None

pub some_from_none : {A : Type 0} (o : Option A) → is_none o ≡ false → is_some o ≡ true
some_from_none None known = absurd (true≢false known)
some_from_none (Some x) known = refl

-- ---- a moment among those that points get
given_among : (test : PointId → Bool) (t : ℕ) (points : List PointId) (place : ℕ) (point : PointId) → slice_get points place ≡ Some point → test point ≡ true → moment_so_far (at_moment t (filter test points)) point ≡ Some t
given_among test t [] place point there passes = absurd (none-some point there)
given_among test t (first ∷ points) zero point there passes =
    let same : first ≡ point = same_Some first point there in
    let kept : test first ≡ true = subst (λ (p : PointId). test p ≡ true) (sym same) passes in
    let at_head : moment_so_far (at_moment t (first ∷ filter test points)) point ≡ Some t = ap (λ (b : Bool). cond b (Some t) (moment_so_far (at_moment t (filter test points)) point)) (test_from_same first point same) in
    ap (λ (b : Bool). moment_so_far (at_moment t (cond b (first ∷ filter test points) (filter test points))) point) kept ∙ at_head
given_among test t (first ∷ points) (suc place) point there passes =
    by (test first) (given_among test t points place point there passes)
  where
    at_first : (same : Bool) → moment_so_far (at_moment t (filter test points)) point ≡ Some t → cond same (Some t) (moment_so_far (at_moment t (filter test points)) point) ≡ Some t
    at_first true rest = refl
    at_first false rest = rest

    by : (b : Bool) → moment_so_far (at_moment t (filter test points)) point ≡ Some t → moment_so_far (at_moment t (cond b (first ∷ filter test points) (filter test points))) point ≡ Some t
    by false rest = rest
    by true rest = at_first (same_point first point) rest

-- a point of the network that passes a test gets the moment
pub given : (net : Plan) (test : PointId → Bool) (t : ℕ) (point : PointId) → IsPoint net point → test point ≡ true → moment_so_far (at_moment t (filter test (points_of net))) point ≡ Some t
given net test t point within passes = given_among test t (points_of net) point.0 point (point_at net point within) passes

-- one that fails it gets none
pub not_given : (net : Plan) (test : PointId → Bool) (t : ℕ) (point : PointId) → test point ≡ false → moment_so_far (at_moment t (filter test (points_of net))) point ≡ None
not_given net test t point fails = by (moment_so_far (at_moment t (filter test (points_of net))) point) refl
  where
    by : (o : Option ℕ) → moment_so_far (at_moment t (filter test (points_of net))) point ≡ o → o ≡ None
    by None none = refl
    by (Some m) found = absurd (true≢false (sym (passes_test test t (points_of net) point m found) ∙ fails))

-- ---- what is completed
completion_there : (so_far : PartialSchedule) (t : ℕ) (links : List Link) (durations : List ℕ) (place : ℕ) (link : Link) (duration : ℕ) (point : PointId) → slice_get links place ≡ Some link
    → slice_get durations place ≡ Some duration → same_point link.to point ≡ true → completes so_far t link duration ≡ true → is_completed so_far t links durations point ≡ true
completion_there so_far t [] durations place link duration point declared lasts ends done = absurd (none-some link declared)
completion_there so_far t (l ∷ links) [] place link duration point declared lasts ends done = absurd (none-some duration lasts)
completion_there so_far t (l ∷ links) (d ∷ durations) zero link duration point declared lasts ends done =
    let same : l ≡ link = same_Some l link declared in
    let its : d ≡ duration = same_Some d duration lasts in
    or_left (same_point l.to point && completes so_far t l d) (is_completed so_far t links durations point)
    (and_from (same_point l.to point) (completes so_far t l d) (subst (λ (x : Link). same_point x.to point ≡ true) (sym same) ends)
    (subst (λ (x : Link). completes so_far t x d ≡ true) (sym same) (subst (λ (e : ℕ). completes so_far t link e ≡ true) (sym its) done)))
completion_there so_far t (l ∷ links) (d ∷ durations) (suc place) link duration point declared lasts ends done =
    or_right (same_point l.to point && completes so_far t l d) (is_completed so_far t links durations point) (completion_there so_far t links durations place link duration point declared lasts ends done)

-- a link's completion at its activation's moment and its duration
completes_at : (so_far : PartialSchedule) (t : ℕ) (link : Link) (duration a : ℕ) → moment_so_far so_far link.from ≡ Some a → a + duration ≡ t → completes so_far t link duration ≡ true
completes_at so_far t link duration a known is =
    ap (λ (o : Option ℕ). elim o [ Some a ↦ (a + duration) == t | None ↦ false ]) known ∙ eq-eqb (a + duration) t is

pub same_tests : (b c : Bool) → (b ≡ true → c ≡ true) → (c ≡ true → b ≡ true) → b ≡ c
same_tests true c there back = sym (there refl)
same_tests false true there back = back refl
same_tests false false there back = refl

-- ---- what may be executed
-- the points of numbers
abbrev points_from : ℕ → ℕ → List PointId
points_from a n = map (λ k. record { 0 = k }) (range_with_len a n)

none_again : (test : PointId → Bool) (a n : ℕ) (point : PointId) → point.0 < a → list_any (same_point point) (filter test (points_from a n)) ≡ false
none_again test a zero point below = refl
none_again test a (suc n) point below =
    by (test (record { 0 = a })) (ne_eqb point.0 a (λ same. omega (arith, same, below))) (none_again test (a + 1) n point (omega (arith, below)))
  where
    by : (b : Bool) → (point.0 == a) ≡ false → list_any (same_point point) (filter test (points_from (a + 1) n)) ≡ false
        → list_any (same_point point) (cond b (record { 0 = a } ∷ filter test (points_from (a + 1) n)) (filter test (points_from (a + 1) n))) ≡ false
    by true other rest = ap (λ (c : Bool). c || list_any (same_point point) (filter test (points_from (a + 1) n))) other ∙ rest
    by false other rest = rest

-- a point may be executed
record MayExecute (net : Plan) (so_far : PartialSchedule) (point : PointId) : Type 0 where
  pub within : IsPoint net point
  pub executable : is_none (activation net point) ≡ true
  pub unexecuted : moment_so_far so_far point ≡ None

may_act_more : (net : Plan) (so_far : PartialSchedule) (act : PointId) (acts : List PointId) → MayExecute net so_far act → list_any (same_point act) acts ≡ false → may_act net so_far acts ≡ true → may_act net so_far (act ∷ acts) ≡ true
may_act_more net so_far act acts may once rest =
    let within : nat_lt act.0 (length net.points) ≡ true = lt-ltb act.0 (length net.points) may.within in
    let unexecuted : is_none (moment_so_far so_far act) ≡ true = ap is_none may.unexecuted in
    let apart : not (list_any (same_point act) acts) ≡ true = ap not once in
    and_from (nat_lt act.0 (length net.points) && is_none (activation net act) && is_none (moment_so_far so_far act) && not (list_any (same_point act) acts)) (may_act net so_far acts)
    (and_from (nat_lt act.0 (length net.points) && is_none (activation net act) && is_none (moment_so_far so_far act)) (not (list_any (same_point act) acts))
    (and_from (nat_lt act.0 (length net.points) && is_none (activation net act)) (is_none (moment_so_far so_far act))
    (and_from (nat_lt act.0 (length net.points)) (is_none (activation net act)) within may.executable) unexecuted) apart) rest

may_act_among : (net : Plan) (so_far : PartialSchedule) (test : PointId → Bool) (a n : ℕ) → ((k : ℕ) → k < a + n → test (record { 0 = k }) ≡ true → MayExecute net so_far (record { 0 = k }))
    → may_act net so_far (filter test (points_from a n)) ≡ true
may_act_among net so_far test a zero may = refl
may_act_among net so_far test a (suc n) may =
    by (test (record { 0 = a })) refl (may_act_among net so_far test (a + 1) n (λ k within. may k (omega (arith, within))))
  where
    by : (b : Bool) → test (record { 0 = a }) ≡ b → may_act net so_far (filter test (points_from (a + 1) n)) ≡ true
        → may_act net so_far (cond b (record { 0 = a } ∷ filter test (points_from (a + 1) n)) (filter test (points_from (a + 1) n))) ≡ true
    by true passes rest =
        may_act_more net so_far (record { 0 = a }) (filter test (points_from (a + 1) n)) (may a (omega arith) passes) (none_again test (a + 1) n (record { 0 = a }) (omega arith)) rest
    by false fails rest = rest

-- the executable points that come at a moment may be executed then
pub acts_allowed : (net : Plan) (schedule : List ℕ) (so_far : PartialSchedule) (t : ℕ) → Known net schedule so_far t → may_act net so_far (acts_in net schedule t) ≡ true
acts_allowed net schedule so_far t known =
    may_act_among net so_far (comes_acted net schedule t) 0 (length net.points) (λ k within passes.
    let (executable, comes) = and_parts (is_none (activation net (record { 0 = k }))) (moment_in schedule (record { 0 = k }) == t) passes in
    let now = eqb-true (moment_in schedule (record { 0 = k })) t comes in
    record { within = omega (arith, within); executable = executable; unexecuted = known.not_yet (record { 0 = k }) (omega (arith, within)) (omega (arith, now)) })

-- ---- the schedule that is made
all_made : (moment : PointId → Option ℕ) (a : ℕ) (xs : List ℕ) → ((i : ℕ) → i < length xs → moment (record { 0 = a + i }) ≡ Some (slice_index xs i)) → all_some (map moment (points_from a (length xs))) ≡ Some xs
all_made moment a [] each = refl
all_made moment a (x ∷ xs) each =
    let at : a + 0 ≡ a = omega arith in
    let first : moment (record { 0 = a }) ≡ Some x = subst (λ (k : ℕ). moment (record { 0 = k }) ≡ Some x) at (each 0 (omega arith)) in
    let rest = all_made moment (a + 1) xs (λ i within.
    let next : a + suc i ≡ a + 1 + i = omega arith in
    subst (λ (k : ℕ). moment (record { 0 = k }) ≡ Some (slice_index xs i)) next (each (suc i) (omega (arith, within)))) in
    ap (λ (o : Option ℕ). all_some (o ∷ map moment (points_from (a + 1) (length xs)))) first ∙ ap (option_map (λ ys. x ∷ ys)) rest

-- if all moments are known the schedule is made
pub made_of_known : (net : Plan) (schedule : List ℕ) (so_far : PartialSchedule) (t : ℕ) → length schedule ≡ length net.points → Known net schedule so_far t → ((point : PointId) → IsPoint net point → moment_in schedule point < t)
    → schedule_made net so_far ≡ Some schedule
made_of_known net schedule so_far t size known past =
    subst (λ (n : ℕ). all_some (map (moment_so_far so_far) (points_from 0 n)) ≡ Some schedule) size (all_made (moment_so_far so_far) 0 schedule each)
  where
    each : (i : ℕ) → i < length schedule → moment_so_far so_far (record { 0 = 0 + i }) ≡ Some (slice_index schedule i)
    each i within =
        let at : i ≡ 0 + i = omega arith in
        let inside : i < length net.points = omega (arith, within, size) in
        subst (λ (k : ℕ). moment_so_far so_far (record { 0 = k }) ≡ Some (slice_index schedule i)) at (known.before (record { 0 = i }) inside (past (record { 0 = i }) inside))

module _ (net : Plan) (situation schedule : List ℕ) (plan : IsPlan net) (is_situation : IsSituation net situation)
    (lasting : (name : LinkId) (link : Link) (duration : ℕ) → IsLinkOf net name link → slice_get situation name.0 ≡ Some duration
    → moment_in schedule link.to ≡ moment_in schedule link.from + duration) (so_far : PartialSchedule) (t : ℕ) (known : Known net schedule so_far t) where
  -- the activation of a link that is known has its moment in the schedule
  known_from : (link : Link) (a : ℕ) → IsPoint net link.from → moment_so_far so_far link.from ≡ Some a → (a ≡ moment_in schedule link.from) × (a < t)
  known_from link a within found =
      elim (cases_lt (moment_in schedule link.from) t) [
        | inl before ↦ let same = same_Some a (moment_in schedule link.from) (sym found ∙ known.before link.from within before) in (same, omega (arith, same, before))
        | inr later ↦ absurd (none-some a (sym (known.not_yet link.from within later) ∙ found))
      ]

  completed_comes : (point : PointId) → Completion so_far t net.links situation point → Ending net point × (moment_in schedule point ≡ t)
  completed_comes point completion =
      let (place, link, duration, declared, its, same, done) = completion in
      let name : LinkId = record { 0 = place } in
      let ends = same_from_test link.to point same in
      let (a, found, is) = completes_means so_far t link duration done in
      let (at, early) = known_from link a (link_sound net plan place link declared).from_point found in
      let lasts = lasting name link duration declared its in
      let here : moment_in schedule link.to ≡ moment_in schedule point = ap (moment_in schedule) ends in
      (record { name = name; link = link; declared = declared; ends = ends }, omega (arith, is, at, lasts, here))

  comes_completed : (point : PointId) → Ending net point → moment_in schedule point ≡ t → is_completed so_far t net.links situation point ≡ true
  comes_completed point ending comes =
      let link = ending.link in
      let (duration, its, fits) = duration_of net.links situation ending.name.0 link is_situation ending.declared in
      let sound = link_sound net plan ending.name.0 link ending.declared in
      let lasts = lasting ending.name link duration ending.declared its in
      let here : moment_in schedule link.to ≡ moment_in schedule point = ap (moment_in schedule) ending.ends in
      let positive = at_least_1 net link duration sound fits in
      let found = known.before link.from sound.from_point (omega (arith, lasts, here, comes, positive)) in
      completion_there so_far t net.links situation ending.name.0 link duration point ending.declared its (test_from_same link.to point ending.ends)
      (completes_at so_far t link duration (moment_in schedule link.from) found (omega (arith, lasts, here, comes)))

  -- what is completed are the contingent points that come then
  pub completed_is : completed net situation so_far t ≡ seen_in net schedule t
  completed_is =
      filter_agree (is_completed so_far t net.links situation) (comes_seen net schedule t) (λ point. same_tests (is_completed so_far t net.links situation point) (comes_seen net schedule t point) (there point) (back point)) (points_of net)
    where
      there : (point : PointId) → is_completed so_far t net.links situation point ≡ true → comes_seen net schedule t point ≡ true
      there point done =
          let (ending, comes) = completed_comes point (completed_means so_far t net.links situation point done) in
          and_from (is_some (activation net point)) (moment_in schedule point == t) (some_from_none (activation net point) (ending_known net point ending)) (eq-eqb (moment_in schedule point) t comes)

      back : (point : PointId) → comes_seen net schedule t point ≡ true → is_completed so_far t net.links situation point ≡ true
      back point holds =
          let (contingent, comes) = and_parts (is_some (activation net point)) (moment_in schedule point == t) holds in
          elim (kind_of_any net point) [
            | inl none ↦ absurd (true≢false (sym contingent ∙ ap is_some none))
            | inr ending ↦ comes_completed point ending (eqb-true (moment_in schedule point) t comes)
          ]

  -- and after the moment what came at it is known too
  pub known_after : Known net schedule (and_moment so_far t (seen_in net schedule t) (acts_in net schedule t)) (t + 1)
  known_after = record { before = before; not_yet = not_yet }
    where
      new : (point : PointId) → IsPoint net point → moment_in schedule point ≡ t → moment_so_far (at_moment t (seen_in net schedule t) ++ at_moment t (acts_in net schedule t)) point ≡ Some t
      new point within comes = by (activation net point) refl
        where
          here : (moment_in schedule point == t) ≡ true
          here = eq-eqb (moment_in schedule point) t comes

          by : (o : Option LinkId) → activation net point ≡ o → moment_so_far (at_moment t (seen_in net schedule t) ++ at_moment t (acts_in net schedule t)) point ≡ Some t
          by None none =
              let fails : comes_seen net schedule t point ≡ false = rw none refl in
              let passes : comes_acted net schedule t point ≡ true = rw none here in
              found_later (at_moment t (seen_in net schedule t)) (at_moment t (acts_in net schedule t)) point (not_given net (comes_seen net schedule t) t point fails) ∙ given net (comes_acted net schedule t) t point within passes
          by (Some name) some =
              let passes : comes_seen net schedule t point ≡ true = rw some here in
              found_first (at_moment t (seen_in net schedule t)) (at_moment t (acts_in net schedule t)) point t (given net (comes_seen net schedule t) t point within passes)

      before : (point : PointId) → IsPoint net point → moment_in schedule point < t + 1 → moment_so_far (and_moment so_far t (seen_in net schedule t) (acts_in net schedule t)) point ≡ Some (moment_in schedule point)
      before point within sooner =
          elim (cases_lt (moment_in schedule point) t) [
            | inl earlier ↦ known_stays so_far t (seen_in net schedule t) (acts_in net schedule t) point (moment_in schedule point) (known.before point within earlier)
            | inr later ↦
                let now : moment_in schedule point ≡ t = omega (arith, later, sooner) in
                unknown_later so_far t (seen_in net schedule t) (acts_in net schedule t) point (known.not_yet point within later) ∙ new point within now ∙ ap (λ (m : ℕ). Some m) (sym now)
          ]

      not_yet : (point : PointId) → IsPoint net point → t + 1 ≤ moment_in schedule point → moment_so_far (and_moment so_far t (seen_in net schedule t) (acts_in net schedule t)) point ≡ None
      not_yet point within later =
          let other : (moment_in schedule point == t) ≡ false = ne_eqb (moment_in schedule point) t (λ same. omega (arith, same, later)) in
          unknown_later so_far t (seen_in net schedule t) (acts_in net schedule t) point (known.not_yet point within (omega (arith, later)))
          ∙ found_later (at_moment t (seen_in net schedule t)) (at_moment t (acts_in net schedule t)) point
          (not_given net (comes_seen net schedule t) t point (and_right (is_some (activation net point)) (moment_in schedule point == t) other))
          ∙ not_given net (comes_acted net schedule t) t point (and_right (is_none (activation net point)) (moment_in schedule point == t) other)
