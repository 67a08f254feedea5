-- By what is kept the same points are due in every state that feeds lead to.
use Rattle.std.proofs.Common.{◌≡◌, ℕ, List, length, Option, Some, None, Result, Ok, Err, refl, ap, sym, subst, ◌∙◌}
use Rattle.std.specs.Option.{option_map_or}
use Rattle.std.proofs.lemmas.List.{length-map}
use Rattle.net_model.specs.declared.ids.PointId.{PointId}
use Rattle.net_model.specs.Moments.{Moments}
use Rattle.dispatch_net.specs.declared.dispatch.Conditions.{Conditions}
use Rattle.dispatch_net.specs.Slim.{slim_conditions}
use Rattle.execution_model.specs.Execution.{Setting, points_of, acted, time_runs}
use Rattle.execution_model.specs.Feeds.{Execution, next_moment, moments_to, completions_taken, first_overdue, completed_in, refusal_of_moment, taken, after_feed}
use Rattle.execution_model.specs.Paced.{IsRankedNetwork, ArePaced, slim_setting}
use Rattle.execution_model.specs.declared.feed_answers.Why.{Why}
use Rattle.execution_model.proofs.AlikeLemmas.{settled, AreDueAlike, IsAlike, StayAlike}
use Rattle.execution_model.proofs.AlikeLemmas as alike
use Rattle.execution_model.proofs.MomentLemmas.{length-acted, length-time_runs}
use Rattle.execution_model.proofs.SlimLemmas.{law_slim_is_due_the_same}
use Rattle.execution_model.proofs.PacedLemmas.{acted_paced, time_paced, taken_paced, PacedWhole}

module _ (setting : Setting) (rank : PointId → ℕ) (ranked : IsRankedNetwork setting rank) where
  abbrev pub slim_lists : List Conditions
  slim_lists = (slim_setting setting).dispatch

  slim_count : length slim_lists ≡ length setting.dispatch
  slim_count = length-map setting.dispatch (slim_conditions setting.links setting.dispatch)

  pub same_points : points_of (slim_setting setting) ≡ points_of setting
  same_points = alike.same_points setting slim_lists slim_count

  slim_due : AreDueAlike setting slim_lists (ArePaced setting)
  slim_due = record {
    count = slim_count;
    due = λ moments paced t point. law_slim_is_due_the_same setting rank moments ranked paced t point;
    acted = λ moments paced long t. acted_paced setting rank ranked moments paced long t;
  }

  pub same_time : (count : ℕ) (moments : Moments) (t : ℕ) → ArePaced setting moments → length moments ≡ length setting.dispatch
      → time_runs (slim_setting setting) moments t count ≡ time_runs setting moments t count
  same_time = alike.same_time setting slim_lists (ArePaced setting) slim_due

  -- ---- the moments of a feed that is taken keep to what was made
  pub completions_paced : (moments after : Moments) (moment : ℕ) (listed : List PointId) → ArePaced setting moments → length moments ≡ length setting.dispatch
      → settled setting moment (completions_taken setting moments moment listed) ≡ Ok after → PacedWhole setting rank ranked after
  completions_paced moments after moment listed paced long took = by (completions_taken setting moments moment listed) refl took
    where
      by_overdue : (o : Option Why) (m : Moments) → PacedWhole setting rank ranked m → option_map_or Err o (Ok m) ≡ Ok after → PacedWhole setting rank ranked after
      by_overdue None m its took = let same : m ≡ after = cc in subst (PacedWhole setting rank ranked) same its
      by_overdue (Some why) m its took = absurd cc

      by : (r : Result Moments Why) → completions_taken setting moments moment listed ≡ r → settled setting moment r ≡ Ok after → PacedWhole setting rank ranked after
      by (Ok m) is took = by_overdue (first_overdue setting m moment) m (taken_paced setting rank ranked listed moments m moment paced long is) took
      by (Err why) is took = absurd cc

  taken_whole : (execution : Execution) → execution.setting ≡ setting → PacedWhole setting rank ranked execution.moments → (moment : ℕ) (listed : List PointId) (moments : Moments)
      → taken execution moment listed ≡ Ok moments
      → PacedWhole setting rank ranked moments
  taken_whole execution same (paced, long) moment listed moments took = by (refusal_of_moment execution moment) took
    where
      from : ℕ
      from = next_moment execution

      before : Moments
      before = time_runs setting execution.moments from (moments_to execution moment)

      as_made : completed_in execution moment listed ≡ settled setting moment (completions_taken setting before moment listed)
      as_made = ap (λ (s : Setting). settled s moment (completions_taken s (time_runs s execution.moments from (moments_to execution moment)) moment listed)) same

      by : (o : Option Why) → option_map_or Err o (completed_in execution moment listed) ≡ Ok moments → PacedWhole setting rank ranked moments
      by None took =
          completions_paced before moments moment listed (time_paced setting rank ranked (moments_to execution moment) execution.moments from paced long)
          (length-time_runs setting execution.moments from (moments_to execution moment) long) (sym as_made ∙ took)
      by (Some why) took = absurd cc

  -- an execution by what was made, of a state that keeps to it
  abbrev pub IsPacedExecution : Execution → Type 0
  IsPacedExecution execution = (execution.setting ≡ setting) × PacedWhole setting rank ranked execution.moments

  pub slim_stays : StayAlike slim_lists (ArePaced setting) IsPacedExecution
  slim_stays = record { alike = is_alike; fed = fed }
    where
      is_alike : (execution : Execution) → IsPacedExecution execution → IsAlike slim_lists (ArePaced setting) execution
      is_alike execution (same, (paced, long)) = record {
        due = subst (λ (s : Setting). AreDueAlike s slim_lists (ArePaced setting)) (sym same) slim_due;
        holds = paced;
        long = long ∙ ap (λ (s : Setting). length s.dispatch) (sym same);
        takes = λ moment listed moments took. (taken_whole execution same (paced, long) moment listed moments took).0;
      }

      fed : (execution : Execution) → IsPacedExecution execution → (moment : ℕ) (listed : List PointId) (moments : Moments) → taken execution moment listed ≡ Ok moments
          → IsPacedExecution (after_feed execution moment moments)
      fed execution (same, whole) moment listed moments took =
          let (now, long) = taken_whole execution same whole moment listed moments took in (
            same,
            subst (λ (s : Setting). PacedWhole setting rank ranked (acted s moments moment)) (sym same) (acted_paced setting rank ranked moments now long moment, length-acted setting moments moment),
          )
