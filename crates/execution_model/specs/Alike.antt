-- What it is that an execution goes on alike by other lower bounds and waits: every feed, every end and every next due moment is the same.
use Rattle.std.specs.Prelude.{◌≡◌, ◌↔◌, ℕ, List, Option, Result, Ok, Err}
use Rattle.net_model.specs.declared.ids.PointId.{PointId}
use Rattle.dispatch_net.specs.declared.dispatch.Conditions.{Conditions}
use Rattle.execution_model.specs.Execution.{Setting, acts_at}
use Rattle.execution_model.specs.Feeds.{Execution, taken, IsFed, IsFinished, IsNextDue}
use Rattle.execution_model.specs.Streams.{Listing}
use Rattle.execution_model.specs.Timely.{fed_all}
use Rattle.execution_model.specs.declared.feed_answers.Fed.{Fed}
use Rattle.execution_model.specs.declared.feed_answers.Finished.{Finished}
use Rattle.execution_model.specs.declared.feed_answers.Why.{Why}

-- a setting with other lower bounds and waits
abbrev pub with_lists : List Conditions → Setting → Setting
with_lists lists setting = record setting { dispatch = lists }

-- an execution of the same state, by other lower bounds and waits
abbrev pub by_lists : List Conditions → Execution → Execution
by_lists lists execution = record execution { setting = with_lists lists execution.setting }

-- from its state feeds, ends and next due moments are the same by other lower bounds and waits
pub record GoesAlike (lists : List Conditions) (execution : Execution) : Type 0 where
  pub acts : (t : ℕ) → acts_at (with_lists lists execution.setting) execution.moments t ≡ acts_at execution.setting execution.moments t
  pub taken : (moment : ℕ) (listed : List PointId) → taken (by_lists lists execution) moment listed ≡ taken execution moment listed
  pub fed : (moment : ℕ) (listed : List PointId) (answer : Fed) (after : Execution) → IsFed execution moment listed answer after
      → IsFed (by_lists lists execution) moment listed answer (by_lists lists after)
  pub next_due : (due : Option ℕ) → IsNextDue (by_lists lists execution) due ↔ IsNextDue execution due
  pub finished : (answer : Finished) (after : Execution) → IsFinished execution answer after
      → IsFinished (by_lists lists execution) answer (by_lists lists after)

-- a list of feeds, which comes to this answer, comes to the same from a start by other lower bounds and waits: all are taken, to the same state, from which
-- the execution goes on alike; or the first refusal has the same cause
abbrev pub AnsweredAlike : List Conditions → (start : Execution) → List Listing → Result Execution Why → Type 0
AnsweredAlike lists start listings (Ok execution) = (fed_all start listings ≡ Ok (by_lists lists execution)) × GoesAlike lists execution
AnsweredAlike lists start listings (Err why) = fed_all start listings ≡ Err why
