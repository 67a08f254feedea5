-- How late the moments of an execution are.
use Rattle.std.proofs.Common.{◌≡◌, ℕ, zero, suc, ◌+◌, ◌-◌, ◌<◌, ◌≤◌, Bool, true, false, cond, List, [], ◌∷◌, length, get_or, Option, Some, None, arith, inl, inr, subst, sym, refl, ap, add-one, ◌++◌, ◌∙◌, append-nil, Result, Ok, Err}
use Rattle.std.specs.Prelude.{IfSome, OnOk, is_none, nat_lt, if◌then◌else◌}
use Rattle.std.specs.Option.{option_map, option_map_or}
use Rattle.std.proofs.lemmas.Bool.{cases_lt, ltb-true, ltb-false}
use Rattle.std.proofs.lemmas.List.{get_or_past}
use Rattle.std.proofs.lemmas.List.Sums.{count_by-le-length}
use Rattle.std.proofs.lemmas.List.Elements.{All-map, All-set, All-weaker}
use Rattle.net_model.specs.declared.ids.PointId.{PointId}
use Rattle.net_model.specs.Moments.{Moments, moment_of}
use Rattle.execution_model.specs.Execution.{Setting, is_due, points_of, acted, time_runs, acts_at, acts_while}
use Rattle.net_model.specs.Limits.{most_moment}
use Rattle.execution_model.specs.Feeds.{Execution, next_moment, refusal_of_moment, completions_taken, completed_at, refusal_of, none_overdue, first_overdue}
use Rattle.execution_model.specs.declared.feed_answers.Act.{Act}
use Rattle.execution_model.specs.declared.feed_answers.Why.{Why}
use Rattle.execution_model.specs.declared.feed_answers.Why.TheVariants as why
use Rattle.live_executor.specs.ExecutionStates.{ExecutionSoFar, StandsAt, MakesActs, Runs, cleared}
use Rattle.live_executor.specs.Kept.{ExecutionGoesOn, moment_after}
use Rattle.live_executor.specs.Limits.{AreBefore}
use Rattle.live_executor.specs.Sound.{KeptNetwork, made_setting}
use Rattle.live_executor.specs.FeedParts.{completed, IsTriedFeed, Settles, Advances}
use Rattle.live_executor.proofs.UndoLemmas.{none_since}

pub moment_before : (b : ℕ) (moments : Moments) → AreBefore b moments → (point : PointId) → IfSome (moment_of moments point) (λ a. a < b)
moment_before b moments before point = elim (cases_lt point.0 (length moments)) [
  | inl inside ↦ before point.0 None inside
  | inr past ↦ rw (get_or_past moments point.0 None past) tt
]

later_before : (t : ℕ) (m : Option ℕ) → IfSome m (λ a. a < t) → IfSome m (λ a. a < suc t)
later_before t None below = tt
later_before t (Some a) below = (let less : a < t = below in omega (arith, less))

either_before : (b t : ℕ) (moment : Option ℕ) (chosen : Bool) → t < b → IfSome moment (λ a. a < b) → IfSome (cond chosen (Some t) moment) (λ a. a < b)
either_before b t moment true below before = below
either_before b t moment false below before = before

-- the acts of t are at t
pub acted_before : (setting : Setting) (b t : ℕ) (moments : Moments) → t < b → AreBefore b moments → AreBefore b (acted setting moments t)
acted_before setting b t moments below before =
    let after : PointId → Option ℕ = λ point. cond (is_due setting moments t point) (Some t) (moment_of moments point) in
    All-map (λ (moment : Option ℕ). IfSome moment (λ a. a < b)) after (points_of setting) (λ k d inside.
    either_before b t (moment_of moments (get_or (points_of setting) k d)) (is_due setting moments t (get_or (points_of setting) k d)) below
    (moment_before b moments before (get_or (points_of setting) k d)))

-- what is completed at a moment is before each later one
pub completions_before : (setting : Setting) (before : Moments) (moment b : ℕ) (listed : List PointId) (taken : Moments) → moment < b → AreBefore b before
    → completions_taken setting before moment listed ≡ Ok taken → AreBefore b taken
completions_before setting before moment b [] taken below early is = (let same : before ≡ taken = cc in subst (AreBefore b) same early)
completions_before setting before moment b (point ∷ listed) taken below early is =
    by (refusal_of setting before moment point) (completions_taken setting (completed_at before moment point) moment listed) is
    (completions_before setting (completed_at before moment point) moment b listed taken below (All-set (λ (m : Option ℕ). IfSome m (λ a. a < b)) before point.0 (Some moment) below early))
  where
    by : (r : Option Why) (next : Result Moments Why) → option_map_or Err r next ≡ Ok taken → (next ≡ Ok taken → AreBefore b taken) → AreBefore b taken
    by None next is on = on is
    by (Some why) next is on = cc

-- time that runs keeps the moments before it
pub time_before : (setting : Setting) (moments : Moments) (t count : ℕ) → AreBefore t moments → AreBefore (t + count) (time_runs setting moments t count)
time_before setting moments t zero before = (let same : t ≡ t + 0 = omega arith in subst (λ b. AreBefore b moments) same before)
time_before setting moments t (suc count) before =
    let later = All-weaker (λ (m : Option ℕ). IfSome m (λ a. a < t)) (λ (m : Option ℕ). IfSome m (λ a. a < suc t)) (later_before t) moments before in
    let same : suc t + count ≡ t + suc count = omega arith in
    subst (λ b. AreBefore b (time_runs setting (acted setting moments t) (suc t) count)) same
    (time_before setting (acted setting moments t) (suc t) count (acted_before setting (suc t) t moments (omega arith) later))

not_overdue : (m taken : Moments) (o : Option Why) → option_map_or Err o (Ok m) ≡ Ok taken → m ≡ taken
not_overdue m taken None is = cc
not_overdue m taken (Some why) is = cc

abbrev overdue_next : Setting → (moment : ℕ) → Result Moments Why → Result Moments Why
overdue_next setting moment r = elim r [ Ok moments ↦ none_overdue setting moment moments | Err why ↦ Err why ]

completed_taken : (setting : Setting) (moment : ℕ) (taken : Moments) (r : Result Moments Why) → overdue_next setting moment r ≡ Ok taken → r ≡ Ok taken
completed_taken setting moment taken (Ok m) is = (let same = not_overdue m taken (first_overdue setting m moment) is in ap Ok same)
completed_taken setting moment taken (Err why) is = cc

abbrev IsTriedWith : Setting → (first : Moments) → (from moment : ℕ) → Result (Unit {0}) Why → Moments → List Act → Result Moments Why → Type 0
IsTriedWith setting first from moment answer moments acts r =
    elim r [
      | Ok taken ↦ (answer ≡ Ok tt) × (moments ≡ acted setting taken moment) × (acts ≡ acts_while setting first from (moment - from) ++ acts_at setting taken moment)
      | Err why ↦ answer ≡ Err why
    ]

-- a feed that was tried is refused as the completions are, or taken, and then the acts are made
module _ (network : KeptNetwork) (from moment : ℕ) (listed : List PointId) (old ran now : ExecutionSoFar) (runs : Runs network from moment (cleared old) ran) where
  abbrev made : Setting
  made = made_setting network

  pub advances_not : (why : Why) (answer : Result (Unit {0}) Why) → answer ≡ Err why → Settles network moment listed (Err why) ran now → Advances network from moment listed answer old now
  advances_not why answer is settles = record {
    tried = subst (IsTriedWith made old.moments from moment answer now.moments now.acts) (sym (ap (λ (moments : Moments). completed made moments moment listed) (sym runs.moments_are) ∙ settles.taken)) is;
    stands = subst (λ (a : Result (Unit {0}) Why). OnOk a (StandsAt network (moment + 1) now)) (sym is) tt;
    since = settles.goes.trace old.moments (runs.trace old.moments (none_since old.moments [] refl));
  }

  pub advances : (new : ExecutionSoFar) → Settles network moment listed (Ok tt) ran now → MakesActs network moment now new → Advances network from moment listed (Ok tt) old new
  advances new settles acts = record {
    tried = subst (IsTriedWith made old.moments from moment (Ok tt) new.moments new.acts) (sym (ap (λ (moments : Moments). completed made moments moment listed) (sym runs.moments_are) ∙ settles.taken)) (
      refl,
      acts.moments_are,
      acts.acts_are ∙ ap (λ (before : List Act). before ++ acts_at made now.moments moment) (settles.goes.acts_are ∙ (append-nil ran.acts ∙ runs.acts_are)),
    );
    stands = acts.stands;
    since = acts.trace old.moments (settles.goes.trace old.moments (runs.trace old.moments (none_since old.moments [] refl)));
  }

-- a feed that was tried and taken keeps the moments up to its own
module _ (setting : Setting) (first : Moments) (from moment : ℕ) (listed : List PointId) (new : ExecutionSoFar) (range : from ≤ moment) (before : AreBefore from first) where
  run_before : AreBefore (moment + 1) (time_runs setting first from (moment - from))
  run_before =
      let same : from + (moment - from) ≡ moment = omega arith in
      let ran = subst (λ b. AreBefore b (time_runs setting first from (moment - from))) same (time_before setting first from (moment - from) before) in
      let later = All-weaker (λ (m : Option ℕ). IfSome m (λ a. a < moment)) (λ (m : Option ℕ). IfSome m (λ a. a < suc moment)) (later_before moment) (time_runs setting first from (moment - from)) ran in
      subst (λ b. AreBefore b (time_runs setting first from (moment - from))) (sym (add-one moment)) later

  taken_before : (taken : Moments) → completed setting (time_runs setting first from (moment - from)) moment listed ≡ Ok taken → AreBefore (moment + 1) taken
  taken_before taken is =
      completions_before setting (time_runs setting first from (moment - from)) moment (moment + 1) listed taken (omega arith) run_before
      (completed_taken setting moment taken (completions_taken setting (time_runs setting first from (moment - from)) moment listed) is)

  by_result : (r : Result Moments Why) → ((taken : Moments) → r ≡ Ok taken → AreBefore (moment + 1) taken) → IsTriedWith setting first from moment (Ok tt) new.moments new.acts r
      → AreBefore (moment + 1) new.moments
  by_result (Ok taken) early is = subst (AreBefore (moment + 1)) (sym is.1) (acted_before setting (moment + 1) moment taken (omega arith) (early taken refl))
  by_result (Err why) early is = cc

  tried_before : IsTriedFeed setting first from moment listed (Ok tt) new.moments new.acts → AreBefore (moment + 1) new.moments
  tried_before is = by_result (completed setting (time_runs setting first from (moment - from)) moment listed) taken_before is

  -- after it the execution continues
  pub goes_after : (network : KeptNetwork) → moment ≤ most_moment → IsTriedFeed setting first from moment listed (Ok tt) new.moments new.acts → StandsAt network (moment + 1) new → ExecutionGoesOn network (moment + 1) new
  goes_after network within is stands = record {
    stands = stands;
    before = tried_before is;
    time_left = (let left = count_by-le-length is_none new.moments in let few = stands.few in omega (arith, within, left, few));
  }

-- a moment that is not refused
pub may_be_fed : (execution : Execution) (moment : ℕ) → refusal_of_moment execution moment ≡ None → (next_moment execution ≤ moment) × (moment ≤ most_moment)
may_be_fed execution moment is = by execution.last (nat_lt moment (next_moment execution)) (nat_lt most_moment moment) refl refl is
  where
    by : (last : Option ℕ) (early late : Bool) → nat_lt moment (moment_after last) ≡ early → nat_lt most_moment moment ≡ late
        → (if early then option_map why.NotLater last else if late then Some why.MomentLimit else None) ≡ None → (moment_after last ≤ moment) × (moment ≤ most_moment)
    by None true late is_early is_late none = absurd (let less = ltb-true moment 0 is_early in omega (arith, less))
    by (Some last) true late is_early is_late none = cc
    by last false true is_early is_late none = cc
    by last false false is_early is_late none = (ltb-false moment (moment_after last) is_early, ltb-false most_moment moment is_late)
