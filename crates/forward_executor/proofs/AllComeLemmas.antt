-- Once every point has come, an execution goes on alike by any lower bounds and waits.
use Rattle.std.proofs.Common.{◌≡◌, ◌≢◌, ◌⊎◌, ℕ, ◌≤◌, ◌<◌, List, [], ◌∷◌, length, Option, Some, None, is_none, Result, Ok, Err, refl, ap, sym, subst, ◌∙◌, inl, inr, arith}
use Rattle.std.specs.Prelude.{◌&&◌, IsSome}
use Rattle.std.specs.List.{All}
use Rattle.std.specs.Option.{option_map_or}
use Rattle.std.proofs.lemmas.Bool.{cases_lt}
use Rattle.std.proofs.lemmas.List.{get_or_past}
use Rattle.net_model.specs.declared.ids.PointId.{PointId}
use Rattle.net_model.specs.Moments.{Moments, moment_of}
use Rattle.dispatch_net.specs.Dispatchable.{conditions_at, no_conditions}
use Rattle.dispatch_net.specs.declared.dispatch.Conditions.{Conditions}
use Rattle.execution_model.specs.Alike.{with_lists, GoesAlike}
use Rattle.execution_model.specs.Execution.{Setting, link_to, meets, is_due, acted, time_runs}
use Rattle.execution_model.specs.Feeds.{Execution, next_moment, moments_to, moments_before, completed_at, completions_taken, first_overdue, refusal_of, refusal_of_moment, completed_in, taken}
use Rattle.execution_model.specs.declared.feed_answers.Why.{Why}
use Rattle.execution_model.proofs.AlikeLemmas.{settled, AreDueAlike, goes_alike}
use Rattle.execution_model.proofs.FedLemmas.{err_ok, same_ok}
use Rattle.execution_model.proofs.MomentLemmas.{all_come, length-acted, come_not_due, acted_keeps, length-time_runs, time_runs_keeps, length-completed_at, moment_completed, moment_of_other}
use Rattle.forward_executor.specs.ForwardExecutions.{HasAllCome}

-- so many points have a moment
pub record AllHave (count : ℕ) (moments : Moments) : Type 0 where
  pub long : length moments ≡ count
  pub have : (point : PointId) → point.0 < count → IsSome (moment_of moments point)

some_is : (o : Option ℕ) (m : ℕ) → o ≡ Some m → IsSome o
some_is o m is = subst IsSome (sym is) refl

-- what a point had it still has
kept_some : (before after : Option ℕ) → ((m : ℕ) → before ≡ Some m → after ≡ Some m) → IsSome before → IsSome after
kept_some None after keeps some = absurd (cc some)
kept_some (Some m) after keeps some = some_is after m (keeps m refl)

-- ---- completions and time
completed_have : (count : ℕ) (moments : Moments) (moment : ℕ) (point : PointId) → AllHave count moments → AllHave count (completed_at moments moment point)
completed_have count moments moment point all = record {
  long = length-completed_at moments moment point ∙ all.long;
  have = λ other inside. by other inside (cases_lt other.0 point.0) (cases_lt point.0 other.0);
}
  where
    still : (other : PointId) → other.0 < count → other.0 ≢ point.0 → IsSome (moment_of (completed_at moments moment point) other)
    still other inside differs = subst IsSome (sym (moment_of_other moments moment point other differs)) (all.have other inside)

    by : (other : PointId) → other.0 < count → (other.0 < point.0) ⊎ (point.0 ≤ other.0) → (point.0 < other.0) ⊎ (other.0 ≤ point.0)
        → IsSome (moment_of (completed_at moments moment point) other)
    by other inside (inl less) later = still other inside (λ same. omega (arith, less, same))
    by other inside (inr most) (inl more) = still other inside (λ same. omega (arith, more, same))
    by other inside (inr most) (inr least) =
        let same : point.0 ≡ other.0 = omega arith in
        let here : moment_of (completed_at moments moment point) point ≡ Some moment = moment_completed moments moment point (omega (arith, all.long, inside, same)) in
        some_is (moment_of (completed_at moments moment point) other) moment
        (ap (λ (k : ℕ). moment_of (completed_at moments moment point) (record { 0 = k })) (sym same) ∙ here)

completions_have : (setting : Setting) (count : ℕ) (listed : List PointId) (moments after : Moments) (moment : ℕ) → AllHave count moments → completions_taken setting moments moment listed ≡ Ok after → AllHave count after
completions_have setting count [] moments after moment all is = subst (AllHave count) (same_ok moments after is) all
completions_have setting count (point ∷ others) moments after moment all is =
    by (refusal_of setting moments moment point) is (completions_have setting count others (completed_at moments moment point) after moment (completed_have count moments moment point all))
  where
    by : (o : Option Why) → option_map_or Err o (completions_taken setting (completed_at moments moment point) moment others) ≡ Ok after
        → (completions_taken setting (completed_at moments moment point) moment others ≡ Ok after → AllHave count after) → AllHave count after
    by (Some why) wrong later = absurd (err_ok after why wrong)
    by None rest later = later rest

time_have : (setting : Setting) (moments : Moments) (t count : ℕ) → AllHave (length setting.dispatch) moments → AllHave (length setting.dispatch) (time_runs setting moments t count)
time_have setting moments t count all = record {
  long = length-time_runs setting moments t count all.long;
  have = λ point inside. kept_some (moment_of moments point) (moment_of (time_runs setting moments t count) point) (time_runs_keeps setting moments t count all.long point) (all.have point inside);
}

pub acted_have : (setting : Setting) (moments : Moments) (t : ℕ) → AllHave (length setting.dispatch) moments → AllHave (length setting.dispatch) (acted setting moments t)
acted_have setting moments t all = record {
  long = length-acted setting moments t;
  have = λ point inside. kept_some (moment_of moments point) (moment_of (acted setting moments t) point) (acted_keeps setting moments t all.long point) (all.have point inside);
}

pub taken_have : (execution : Execution) (moment : ℕ) (listed : List PointId) (moments : Moments) → AllHave (length execution.setting.dispatch) execution.moments
    → taken execution moment listed ≡ Ok moments → AllHave (length execution.setting.dispatch) moments
taken_have execution moment listed moments all is = by_moment (refusal_of_moment execution moment) is
  where
    count : ℕ
    count = length execution.setting.dispatch

    by_overdue : (after : Moments) → AllHave count after → (o : Option Why) → option_map_or Err o (Ok after) ≡ Ok moments → AllHave count moments
    by_overdue after have (Some why) wrong = absurd (err_ok moments why wrong)
    by_overdue after have None same = subst (AllHave count) (same_ok after moments same) have

    by_completions : (r : Result Moments Why) → completions_taken execution.setting (moments_before execution moment) moment listed ≡ r → settled execution.setting moment r ≡ Ok moments → AllHave count moments
    by_completions (Err why) taken_so wrong = absurd (err_ok moments why wrong)
    by_completions (Ok after) taken_so goes =
        by_overdue after
        (completions_have execution.setting count listed (moments_before execution moment) after moment (time_have execution.setting execution.moments (next_moment execution) (moments_to execution moment) all) taken_so)
        (first_overdue execution.setting after moment) goes

    by_moment : (o : Option Why) → option_map_or Err o (completed_in execution moment listed) ≡ Ok moments → AllHave count moments
    by_moment (Some why) wrong = absurd (err_ok moments why wrong)
    by_moment None goes = by_completions (completions_taken execution.setting (moments_before execution moment) moment listed) refl goes

-- ---- what is due
module _ (setting : Setting) (lists : List Conditions) (count : length lists ≡ length setting.dispatch) where
  same_due : (moments : Moments) → AllHave (length setting.dispatch) moments → (t : ℕ) (point : PointId) → is_due (with_lists lists setting) moments t point ≡ is_due setting moments t point
  same_due moments all t point = by (cases_lt point.0 (length setting.dispatch))
    where
      come : (o : Option ℕ) → moment_of moments point ≡ o → IsSome o → is_due (with_lists lists setting) moments t point ≡ is_due setting moments t point
      come None is some = absurd (cc some)
      come (Some m) is some = come_not_due (with_lists lists setting) moments t point m is ∙ sym (come_not_due setting moments t point m is)

      by : (point.0 < length setting.dispatch) ⊎ (length setting.dispatch ≤ point.0) → is_due (with_lists lists setting) moments t point ≡ is_due setting moments t point
      by (inl inside) = come (moment_of moments point) refl (all.have point inside)
      by (inr past) =
          let none : conditions_at lists point ≡ no_conditions = get_or_past lists point.0 no_conditions (omega (arith, past, count)) in
          let nothing : conditions_at setting.dispatch point ≡ no_conditions = get_or_past setting.dispatch point.0 no_conditions past in
          ap (λ (c : Conditions). is_none (link_to setting point) && is_none (moment_of moments point) && meets setting moments t c) (none ∙ sym nothing)

  due_alike : AreDueAlike setting lists (AllHave (length setting.dispatch))
  due_alike = record { count = count; due = same_due; acted = λ moments all long t. acted_have setting moments t all }

-- an execution in which every point has come goes on alike by any lists of as many points
pub over_alike : (lists : List Conditions) (execution : Execution) → length lists ≡ length execution.setting.dispatch → AllHave (length execution.setting.dispatch) execution.moments → GoesAlike lists execution
over_alike lists execution count all = goes_alike lists (AllHave (length execution.setting.dispatch)) execution (record {
  due = due_alike execution.setting lists count;
  holds = all;
  long = all.long;
  takes = λ moment listed moments is. taken_have execution moment listed moments all is;
})

pub have_all : (execution : Execution) → HasAllCome execution → AllHave (length execution.setting.dispatch) execution.moments
have_all execution all = record { long = all.long; have = λ point inside. all.come point.0 None (omega (arith, inside, all.long)) }

pub all_have : (moments : Moments) (count : ℕ) → AllHave count moments → All IsSome moments
all_have moments count all = all_come moments (λ point inside. all.have point (omega (arith, inside, all.long)))
