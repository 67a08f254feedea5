-- The moments so far: how many there are, and what a point's moment is after acts, after time has run, and after completions.
use Rattle.std.proofs.Common.{◌≡◌, ◌≢◌, ◌⊎◌, ℕ, zero, suc, ◌+◌, ◌<◌, ◌≤◌, Bool, true, false, List, [], ◌∷◌, map, filter, length, get_or, Option, Some, None, is_none, refl, ap, sym, subst, ◌∙◌, inl, inr, arith}
use Rattle.std.specs.Prelude.{◌&&◌, ◌||◌, ◌==◌, fold, IsSome, if◌then◌else◌}
use Rattle.std.specs.List.{All, Contains, range_with_len}
use Rattle.std.proofs.lemmas.Bool.{cases_lt, eqb-true, true≢false}
use Rattle.std.proofs.lemmas.Bool.Decides.{nat_tests}
use Rattle.closure_model.specs.Orders.{contains_point}
use Rattle.std.proofs.lemmas.List.{get_or-map, length-map, get_or_past, get_or-set_same, get_or-set_other, length-set, same_lists, get_or_default}
use Rattle.std.proofs.lemmas.List.FromFn.{get_or-map-range_with_len, length-map-range_with_len}
use Rattle.std.proofs.lemmas.Option.{none-some, same_Some}
use Rattle.net_model.specs.declared.ids.PointId.{PointId}
use Rattle.net_model.specs.declared.part.Link.{Link}
use Rattle.closure_model.proofs.KeyLists.{Contains-points}
use Rattle.closure_model.proofs.Lists.{Contains-none, Contains-cases}
use Rattle.net_model.specs.Moments.{Moments, moment_of}
use Rattle.execution_model.specs.Execution.{Setting, points_of, link_to, meets, is_due, acts_at, acted, time_runs}
use Rattle.execution_model.specs.Feeds.{completed_at}
use Rattle.execution_model.specs.declared.feed_answers.Act.{Act}
use Rattle.dispatch_net.specs.Dispatchable.{conditions_at}

-- ---- a filter that keeps nothing
kept_none : {X Y : Type 0} (p : X → Bool) (f : X → Y) (xs : List X) → map f (filter p xs) ≡ [] → (x : X) → Contains xs x → p x ≡ false
kept_none p f [] none x inside = absurd (Contains-none x inside)
kept_none {X} {Y} p f (y ∷ ys) none x inside = by (kept_none p f ys) (p y) refl none (Contains-cases y ys x inside)
  where
    by : (map f (filter p ys) ≡ [] → (z : X) → Contains ys z → p z ≡ false) → (b : Bool) → p y ≡ b → map f (if b then y ∷ filter p ys else filter p ys) ≡ []
        → (y ≡ x) ⊎ Contains ys x → p x ≡ false
    by rest true is kept at = absurd (cc)
    by rest false is kept (inl same) = ap p (sym same) ∙ is
    by rest false is kept (inr there) = rest kept x there

keeps_none : (p : PointId → Bool) (a n : ℕ) → ((k : ℕ) → a ≤ k → k < a + n → p (record { 0 = k }) ≡ false) → filter p (map (λ k. record { 0 = k }) (range_with_len a n)) ≡ []
keeps_none p a zero fails = refl
keeps_none p a (suc n) fails =
    let rest = keeps_none p (a + 1) n (λ k from below. fails k (omega arith) (omega arith)) in
    let first : PointId = record { 0 = a } in
    ap (λ (b : Bool). if b then first ∷ filter p (map (λ k. record { 0 = k }) (range_with_len (a + 1) n)) else filter p (map (λ k. record { 0 = k }) (range_with_len (a + 1) n)))
    (fails a (omega arith) (omega arith)) ∙ rest

-- ---- lists of moments
-- a point beyond the points has no moment
pub past_none : (moments : Moments) (point : PointId) → length moments ≤ point.0 → moment_of moments point ≡ None
past_none moments point past = get_or_past moments point.0 None past

pub within_from_some : (moments : Moments) (point : PointId) (m : ℕ) → moment_of moments point ≡ Some m → point.0 < length moments
within_from_some moments point m some =
    elim (cases_lt point.0 (length moments)) [
      | inl inside ↦ inside
      | inr past ↦ (let none : moment_of moments point ≡ None = past_none moments point past in absurd (cc))
    ]

-- moments are those of their points
pub same_moments : (first second : Moments) → length first ≡ length second → ((point : PointId) → moment_of first point ≡ moment_of second point) → first ≡ second
same_moments first second long each =
    same_lists first second long (λ k d inside.
    let other : k < length second = omega arith in
    get_or_default first k d None inside ∙ each (record { 0 = k }) ∙ get_or_default second k None d other)

pub all_come : (moments : Moments) → ((point : PointId) → point.0 < length moments → IsSome (moment_of moments point)) → All IsSome moments
all_come moments each k d inside = subst IsSome (get_or_default moments k None d inside) (each (record { 0 = k }) inside)

-- ---- the points
module _ (setting : Setting) where
  pub length-points : length (points_of setting) ≡ length setting.dispatch
  length-points = length-map-range_with_len (λ k. let p : PointId = record { 0 = k } in p) 0 (length setting.dispatch)

  pub point_stands : (point d : PointId) → point.0 < length setting.dispatch → get_or (points_of setting) point.0 d ≡ point
  point_stands point d inside = get_or-map-range_with_len (λ k. let p : PointId = record { 0 = k } in p) 0 (length setting.dispatch) point.0 point.0 d inside (omega arith)

  pub Contains-point : (point : PointId) → point.0 < length setting.dispatch → Contains (points_of setting) point
  Contains-point point inside = Contains-points 0 (length setting.dispatch) point (omega arith) (omega arith)

-- ---- after the acts of a moment
module _ (setting : Setting) (moments : Moments) (t : ℕ) where
  pub length-acted : length (acted setting moments t) ≡ length setting.dispatch
  length-acted = length-map (points_of setting) (λ point. if is_due setting moments t point then Some t else moment_of moments point) ∙ length-points setting

  pub moment_acted : (point : PointId) → point.0 < length setting.dispatch
      → moment_of (acted setting moments t) point ≡ (if is_due setting moments t point then Some t else moment_of moments point)
  moment_acted point inside =
      let f : PointId → Option ℕ = λ p. if is_due setting moments t p then Some t else moment_of moments p in
      let none : PointId = record { 0 = 0 } in
      let long : point.0 < length (points_of setting) = omega (arith, inside, length-points setting) in
      get_or-map f (points_of setting) point.0 none None long ∙ ap f (point_stands setting point none inside)

  pub moment_due : (point : PointId) → point.0 < length setting.dispatch → is_due setting moments t point ≡ true → moment_of (acted setting moments t) point ≡ Some t
  moment_due point inside due = moment_acted point inside ∙ ap (λ (b : Bool). if b then Some t else moment_of moments point) due

  pub moment_not_due : (point : PointId) → point.0 < length setting.dispatch → is_due setting moments t point ≡ false → moment_of (acted setting moments t) point ≡ moment_of moments point
  moment_not_due point inside not_due = moment_acted point inside ∙ ap (λ (b : Bool). if b then Some t else moment_of moments point) not_due

  -- a point that has a moment is not due
  pub come_not_due : (point : PointId) (m : ℕ) → moment_of moments point ≡ Some m → is_due setting moments t point ≡ false
  come_not_due point m come = come_by (is_none (link_to setting point)) (is_none (moment_of moments point)) (meets setting moments t (conditions_at setting.dispatch point)) (ap is_none come)
    where
      come_by : (a b c : Bool) → b ≡ false → (a && b && c) ≡ false
      come_by true true c none = absurd (true≢false none)
      come_by true false c none = refl
      come_by false b c none = refl

  -- nor is a contingent point
  pub contingent_not_due : (point : PointId) (link : Link) → link_to setting point ≡ Some link → is_due setting moments t point ≡ false
  contingent_not_due point link ends =
      contingent_by (is_none (link_to setting point)) (is_none (moment_of moments point)) (meets setting moments t (conditions_at setting.dispatch point)) (ap is_none ends)
    where
      contingent_by : (a b c : Bool) → a ≡ false → (a && b && c) ≡ false
      contingent_by true b c none = absurd (true≢false none)
      contingent_by false b c none = refl

  -- a due point is executable, has not come, and its conditions are met
  pub due_parts : (point : PointId) → is_due setting moments t point ≡ true
      → (link_to setting point ≡ None) × (moment_of moments point ≡ None) × (meets setting moments t (conditions_at setting.dispatch point) ≡ true)
  due_parts point due = parts (link_to setting point) (moment_of moments point) (meets setting moments t (conditions_at setting.dispatch point)) due
    where
      parts : (a : Option Link) (b : Option ℕ) (c : Bool) → (is_none a && is_none b && c) ≡ true → (a ≡ None) × (b ≡ None) × (c ≡ true)
      parts None None true holds = (refl, refl, refl)
      parts None None false holds = absurd (true≢false (sym holds))
      parts None (Some m) c holds = absurd (true≢false (sym holds))
      parts (Some l) b c holds = absurd (true≢false (sym holds))

  pub due_from : (point : PointId) → link_to setting point ≡ None → moment_of moments point ≡ None → meets setting moments t (conditions_at setting.dispatch point) ≡ true
      → is_due setting moments t point ≡ true
  due_from point none new met = λ i. is_none (none i) && is_none (new i) && met i

  -- a moment once known stays
  pub acted_keeps : length moments ≡ length setting.dispatch → (point : PointId) (m : ℕ) → moment_of moments point ≡ Some m → moment_of (acted setting moments t) point ≡ Some m
  acted_keeps long point m come =
      let inside : point.0 < length moments = within_from_some moments point m come in
      moment_not_due point (omega arith) (come_not_due point m come) ∙ come

  -- a contingent point's moment stays as it was
  pub acted_contingent : length moments ≡ length setting.dispatch → (point : PointId) (link : Link) → link_to setting point ≡ Some link
      → moment_of (acted setting moments t) point ≡ moment_of moments point
  acted_contingent long point link ends = by (cases_lt point.0 (length setting.dispatch))
    where
      by : (point.0 < length setting.dispatch) ⊎ (length setting.dispatch ≤ point.0) → moment_of (acted setting moments t) point ≡ moment_of moments point
      by (inl inside) = moment_not_due point inside (contingent_not_due point link ends)
      by (inr past) = let here = length-acted in past_none (acted setting moments t) point (omega arith) ∙ sym (past_none moments point (omega arith))

  -- a point that has a moment after the acts had it before, or came at t
  pub acted_from : length moments ≡ length setting.dispatch → (point : PointId) (m : ℕ) → moment_of (acted setting moments t) point ≡ Some m
      → (moment_of moments point ≡ Some m) ⊎ ((m ≡ t) × (is_due setting moments t point ≡ true))
  acted_from long point m come =
      let here = length-acted in
      let low : point.0 < length (acted setting moments t) = within_from_some (acted setting moments t) point m come in
      let inside : point.0 < length setting.dispatch = omega arith in
      by inside (is_due setting moments t point) refl
    where
      by : point.0 < length setting.dispatch → (b : Bool) → is_due setting moments t point ≡ b
          → (moment_of moments point ≡ Some m) ⊎ ((m ≡ t) × (is_due setting moments t point ≡ true))
      by inside true due = let same : Some m ≡ Some t = sym come ∙ moment_due point inside due in inr (same_Some m t same, due)
      by inside false not_due = inl (sym (moment_not_due point inside not_due) ∙ come)

  -- if there are no acts, nothing is due, and the moments stay
  pub no_acts_none_due : acts_at setting moments t ≡ [] → (point : PointId) → point.0 < length setting.dispatch → is_due setting moments t point ≡ false
  no_acts_none_due none point inside = kept_none (is_due setting moments t) (λ p. record { moment = t; point = p }) (points_of setting) none point (Contains-point setting point inside)

  pub none_due_no_acts : ((point : PointId) → point.0 < length setting.dispatch → is_due setting moments t point ≡ false) → acts_at setting moments t ≡ []
  none_due_no_acts none =
      ap (map (λ p. let act : Act = record { moment = t; point = p } in act))
      (keeps_none (is_due setting moments t) 0 (length setting.dispatch) (λ k from below. none (record { 0 = k }) (omega arith)))

  pub no_acts_same : length moments ≡ length setting.dispatch → acts_at setting moments t ≡ [] → acted setting moments t ≡ moments
  no_acts_same long none = same_moments (acted setting moments t) moments (length-acted ∙ sym long) (λ point. by point (cases_lt point.0 (length setting.dispatch)))
    where
      by : (point : PointId) → (point.0 < length setting.dispatch) ⊎ (length setting.dispatch ≤ point.0) → moment_of (acted setting moments t) point ≡ moment_of moments point
      by point (inl inside) = moment_not_due point inside (no_acts_none_due none point inside)
      by point (inr past) = let here = length-acted in past_none (acted setting moments t) point (omega arith) ∙ sym (past_none moments point (omega arith))

-- ---- after time has run
module _ (setting : Setting) where
  pub length-time_runs : (moments : Moments) (t count : ℕ) → length moments ≡ length setting.dispatch → length (time_runs setting moments t count) ≡ length setting.dispatch
  length-time_runs moments t zero long = long
  length-time_runs moments t (suc count) long = length-time_runs (acted setting moments t) (suc t) count (length-acted setting moments t)

  pub time_runs_keeps : (moments : Moments) (t count : ℕ) → length moments ≡ length setting.dispatch → (point : PointId) (m : ℕ) → moment_of moments point ≡ Some m
      → moment_of (time_runs setting moments t count) point ≡ Some m
  time_runs_keeps moments t zero long point m come = come
  time_runs_keeps moments t (suc count) long point m come =
      time_runs_keeps (acted setting moments t) (suc t) count (length-acted setting moments t) point m (acted_keeps setting moments t long point m come)

  pub time_runs_contingent : (moments : Moments) (t count : ℕ) → length moments ≡ length setting.dispatch → (point : PointId) (link : Link) → link_to setting point ≡ Some link
      → moment_of (time_runs setting moments t count) point ≡ moment_of moments point
  time_runs_contingent moments t zero long point link ends = refl
  time_runs_contingent moments t (suc count) long point link ends =
      time_runs_contingent (acted setting moments t) (suc t) count (length-acted setting moments t) point link ends ∙ acted_contingent setting moments t long point link ends

  -- what time brings comes in that time
  pub time_runs_from : (moments : Moments) (t count : ℕ) → length moments ≡ length setting.dispatch → (point : PointId) (m : ℕ)
      → moment_of (time_runs setting moments t count) point ≡ Some m
      → (moment_of moments point ≡ Some m) ⊎ ((t ≤ m) × (m < t + count))
  time_runs_from moments t zero long point m come = inl come
  time_runs_from moments t (suc count) long point m come =
      elim (time_runs_from (acted setting moments t) (suc t) count (length-acted setting moments t) point m come) [
        | inl before ↦ elim (acted_from setting moments t long point m before) [ inl known ↦ inl known | inr now ↦ inr (omega (arith, now.0), omega (arith, now.0)) ]
        | inr later ↦ inr (omega (arith, later), omega (arith, later))
      ]

  -- time runs in two parts
  pub time_runs_on : (moments : Moments) (t first second : ℕ) → time_runs setting moments t (first + second) ≡ time_runs setting (time_runs setting moments t first) (t + first) second
  time_runs_on moments t zero second =
      let all : zero + second ≡ second = omega arith in
      let same : t ≡ t + zero = omega arith in
      ap (time_runs setting moments t) all ∙ ap (λ n. time_runs setting moments n second) same
  time_runs_on moments t (suc first) second =
      let all : suc first + second ≡ suc (first + second) = omega arith in
      let next : suc t + first ≡ t + suc first = omega arith in
      ap (time_runs setting moments t) all
      ∙ (time_runs_on (acted setting moments t) (suc t) first second ∙ ap (λ n. time_runs setting (time_runs setting (acted setting moments t) (suc t) first) n second) next)

-- ---- after a completion
module _ (moments : Moments) (moment : ℕ) (point : PointId) where
  pub length-completed_at : length (completed_at moments moment point) ≡ length moments
  length-completed_at = length-set moments point.0 (Some moment)

  pub moment_completed : point.0 < length moments → moment_of (completed_at moments moment point) point ≡ Some moment
  moment_completed inside = get_or-set_same moments point.0 (Some moment) None inside

  pub moment_of_other : (other : PointId) → other.0 ≢ point.0 → moment_of (completed_at moments moment point) other ≡ moment_of moments other
  moment_of_other other apart = get_or-set_other moments point.0 other.0 (Some moment) None apart

  -- the moment of another point stays, if the point had none
  pub completed_keeps : moment_of moments point ≡ None → (other : PointId) (m : ℕ) → moment_of moments other ≡ Some m → moment_of (completed_at moments moment point) other ≡ Some m
  completed_keeps new other m come = moment_of_other other apart ∙ come
    where
      apart : other.0 ≢ point.0
      apart same = let here : moment_of moments other ≡ None = ap (λ (k : ℕ). moment_of moments (record { 0 = k })) same ∙ new in absurd (none-some m (sym here ∙ come))

-- ---- after several completions
abbrev pub completed_all : Moments → (moment : ℕ) → List PointId → Moments
completed_all moments moment listed = fold (λ moments point. completed_at moments moment point) moments listed

module _ (moment : ℕ) where
  pub length-completed_all : (moments : Moments) (listed : List PointId) → length (completed_all moments moment listed) ≡ length moments
  length-completed_all moments [] = refl
  length-completed_all moments (point ∷ others) = length-completed_all (completed_at moments moment point) others ∙ length-completed_at moments moment point

  -- a point that is not listed keeps its moment
  pub moment_not_listed : (moments : Moments) (listed : List PointId) (point : PointId) → contains_point listed point ≡ false
      → moment_of (completed_all moments moment listed) point ≡ moment_of moments point
  moment_not_listed moments [] point not_listed = refl
  moment_not_listed moments (first ∷ others) point not_listed =
      by (first.0 == point.0) refl (contains_point others point) refl not_listed (moment_not_listed (completed_at moments moment first) others point)
    where
      by : (a : Bool) → first.0 == point.0 ≡ a → (b : Bool) → contains_point others point ≡ b → (a || b) ≡ false
          → (contains_point others point ≡ false → moment_of (completed_all (completed_at moments moment first) moment others) point ≡ moment_of (completed_at moments moment first) point)
          → moment_of (completed_all (completed_at moments moment first) moment others) point ≡ moment_of moments point
      by true same b is holds rest = absurd (true≢false holds)
      by false apart true is holds rest = absurd (true≢false holds)
      by false apart false is holds rest = let other : point.0 ≢ first.0 = grind (arith, nat_tests) in rest is ∙ moment_of_other moments moment first point other

  -- a listed point has the moment
  pub moment_listed : (moments : Moments) (listed : List PointId) (point : PointId) → point.0 < length moments → contains_point listed point ≡ true
      → moment_of (completed_all moments moment listed) point ≡ Some moment
  moment_listed moments [] point inside among = absurd (true≢false (sym among))
  moment_listed moments (first ∷ others) point inside among =
      let long = length-completed_at moments moment first in
      by (contains_point others point) refl (moment_listed (completed_at moments moment first) others point (omega arith))
    where
      same_number : (a : Bool) → (a || false) ≡ true → a ≡ true
      same_number true holds = refl
      same_number false holds = absurd (true≢false (sym holds))

      by : (b : Bool) → contains_point others point ≡ b → (contains_point others point ≡ true → moment_of (completed_all (completed_at moments moment first) moment others) point ≡ Some moment)
          → moment_of (completed_all (completed_at moments moment first) moment others) point ≡ Some moment
      by true later rest = rest later
      by false only rest =
          let test : first.0 == point.0 ≡ true = same_number (first.0 == point.0) (ap (λ (b : Bool). first.0 == point.0 || b) (sym only) ∙ among) in
          let same : first.0 ≡ point.0 = eqb-true first.0 point.0 test in
          moment_not_listed (completed_at moments moment first) others point only
          ∙ (ap (λ (k : ℕ). moment_of (completed_at moments moment first) (record { 0 = k })) (sym same) ∙ moment_completed moments moment first (omega arith))
