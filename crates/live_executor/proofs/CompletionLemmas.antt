-- Completions of a moment, and the lowest point that should have completed.
use Rattle.std.proofs.Common.{◌≡◌, ℕ, ◌<◌, ◌≤◌, true, false, List, [], length, Option, Some, None, refl, arith, ap, ◌∙◌}
use Rattle.std.specs.Prelude.{nat_le, Result, Ok, Err}
use Rattle.std.specs.Option.{option_map, option_map_or, option_and_then}
use Rattle.std.proofs.lemmas.Bool.{le-leb}
use Rattle.net_model.specs.declared.ids.PointId.{PointId}
use Rattle.closure_model.proofs.OrderLemmas.{found_at, found_nowhere}
use Rattle.net_model.specs.Limits.{most_moment}
use Rattle.net_model.specs.Moments.{Moments}
use Rattle.execution_model.specs.Execution.{Setting}
use Rattle.execution_model.specs.Feeds.{completed_at, refusal_of, latest_of, is_overdue, overdue_why, first_overdue, none_overdue}
use Rattle.execution_model.specs.declared.feed_answers.Why.{Why}
use Rattle.execution_model.specs.declared.feed_answers.Why.TheVariants as why
use Rattle.execution_model.proofs.PacedLemmas.{completed_paced}
use Rattle.execution_model.proofs.TimelyLemmas.{in_time_from}
use Rattle.live_executor.specs.ExecutionStates.{ExecutionSoFar, StandsAt, Reaches, MayComeAt, Comes}
use Rattle.live_executor.specs.Sound.{KeptNetwork, made_setting, ExecutesTheSame}
use Rattle.live_executor.specs.FeedParts.{Completes, Settles, completed}
use Rattle.live_executor.proofs.FirstDueLemmas.{goes_further}

-- a listed point that is not refused may come
pub free_may_come : (network : KeptNetwork) → ExecutesTheSame network → (moment : ℕ) (state : ExecutionSoFar) (point : PointId) → StandsAt network moment state → point.0 < length network.made → moment ≤ most_moment
    → refusal_of (made_setting network) state.moments moment point ≡ None → MayComeAt network moment state point
free_may_come network same moment state point stands inside within free = record {
  is_new = (in_time_from (made_setting network) state.moments moment point free).is_open;
  inside = inside;
  paced = completed_paced (made_setting network) same.rank same.ranked state.moments stands.paced stands.count moment point free;
  soon = omega (arith, within);
}

-- and after those that came before
pub comes_after : (network : KeptNetwork) (moment : ℕ) (point : PointId) (old now new : ExecutionSoFar) → Reaches network moment now.moments [] old now → Comes network moment point now new
    → Reaches network moment new.moments [] old new
comes_after network moment point old now new before comes =
    let all = goes_further network moment moment old now new now.moments (completed_at now.moments moment point) [] [] before comes in
    record { moments_are = refl; acts_are = all.acts_are; stands = all.stands; trace = all.trace }

pub overdue_at : (setting : Setting) (moments : Moments) (moment k latest : ℕ) → k < length setting.dispatch → latest_of setting moments (record { 0 = k }) ≡ Some latest → latest ≤ moment
    → ((j : ℕ) → j < k → is_overdue setting moments moment (record { 0 = j }) ≡ false) → first_overdue setting moments moment ≡ Some (why.Overdue (record { 0 = k }) latest)
overdue_at setting moments moment k latest inside is reached before =
    let point : PointId = record { 0 = k } in
    let overdue : is_overdue setting moments moment point ≡ true = ap (λ (o : Option ℕ). option_map_or (λ l. nat_le l moment) o false) is ∙ le-leb latest moment reached in
    ap (option_and_then (overdue_why setting moments)) (found_at (is_overdue setting moments moment) (length setting.dispatch) k inside overdue before) ∙ ap (option_map (why.Overdue point)) is

pub overdue_nowhere : (setting : Setting) (moments : Moments) (moment : ℕ) → ((j : ℕ) → j < length setting.dispatch → is_overdue setting moments moment (record { 0 = j }) ≡ false)
    → first_overdue setting moments moment ≡ None
overdue_nowhere setting moments moment none =
    ap (option_and_then (overdue_why setting moments)) (found_nowhere (is_overdue setting moments moment) (length setting.dispatch) none)

-- after the completions of a moment: one was refused, or a point is overdue, or none is
module _ (network : KeptNetwork) (moment : ℕ) (listed : List PointId) (old now : ExecutionSoFar) where
  pub refused_one : (why : Why) → Completes network moment listed (Err why) old now → Settles network moment listed (Err why) old now
  refused_one why done = record {
    taken = ap (λ (r : Result Moments Why). elim r [ Ok moments ↦ none_overdue (made_setting network) moment moments | Err why ↦ Err why ]) done.taken;
    goes = done.goes;
  }

  checked : Completes network moment listed (Ok tt) old now → (o : Option Why) → first_overdue (made_setting network) now.moments moment ≡ o
      → completed (made_setting network) old.moments moment listed ≡ option_map_or Err o (Ok now.moments)
  checked done o is =
      ap (λ (r : Result Moments Why). elim r [ Ok moments ↦ none_overdue (made_setting network) moment moments | Err why ↦ Err why ]) done.taken
      ∙ ap (λ (o : Option Why). option_map_or Err o (Ok now.moments)) is

  pub overdue_one : (why : Why) → Completes network moment listed (Ok tt) old now → first_overdue (made_setting network) now.moments moment ≡ Some why → Settles network moment listed (Err why) old now
  overdue_one why done is = record { taken = checked done (Some why) is; goes = done.goes }

  pub none_late : Completes network moment listed (Ok tt) old now → first_overdue (made_setting network) now.moments moment ≡ None → Settles network moment listed (Ok tt) old now
  none_late done is = record { taken = checked done None is; goes = done.goes }
