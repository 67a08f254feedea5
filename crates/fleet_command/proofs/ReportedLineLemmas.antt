-- What a plan says to what a line states, by what its fleet answers.
use Rattle.std.proofs.Common.{◌≡◌, inl, inr, ◌≤◌, ℕ, false, List, length, Option, Some, None, refl, sym, ap, ◌∙◌, subst, arith}
use Rattle.std.specs.Prelude.{slice_get, slice_set}
use Rattle.std.specs.List.{All}
use Rattle.net_model.specs.Network.{Plan, IsPoint}
use Rattle.net_model.specs.ShownForm.{shown_form}
use Rattle.net_model.specs.declared.ids.PointId.{PointId}
use Rattle.event_stream.specs.EventText.{completed, done}
use Rattle.execution_model.specs.Feeds.{Execution, IsDueAnswer}
use Rattle.execution_model.specs.declared.feed_answers.Act.{Act}
use Rattle.execution_model.specs.declared.feed_answers.Fed.{Fed}
use Rattle.execution_model.specs.declared.feed_answers.Fed.TheVariants as fed
use Rattle.execution_model.specs.declared.feed_answers.Finished.{Finished}
use Rattle.execution_model.specs.declared.feed_answers.Finished.TheVariants as finished
use Rattle.command_engine.specs.declared.endings.End.{End}
use Rattle.command_engine.specs.declared.machines.Flow.TheVariants.{Finish}
use Rattle.multiplexed_commands.specs.Alone.{MemberState, Runs, Idle, idle_said, stands_after}
use Rattle.event_phase.specs.EventRuns.{EventRun, event_run_of}
use Rattle.event_phase.specs.EventPhase.{AnswersEnd, EndsAmong, FeedsAmong, PutsFed, answer_capacity}
use Rattle.event_phase.proofs.FeedAnswerLemmas.{ends_among, fed_answers, feeds_among, flow_of}
use Rattle.multiplexed_commands.proofs.ProjectionLemmas.{set_here}
use Rattle.plan_fleet.specs.Fleets.{AtPlan, ChangesOne}
use Rattle.plan_fleet.specs.FleetPlans.{FeedsPlan, FinishesPlan, FleetPlan, IsFedPlan, IsFinishedPlan, IsFleetPlan, IsRunning}
use Rattle.plan_fleet.specs.declared.states.FleetFed.{FleetFed}
use Rattle.plan_fleet.specs.declared.states.FleetFed.TheVariants as fleet_fed
use Rattle.plan_fleet.specs.declared.states.FleetFinished.{FleetFinished}
use Rattle.plan_fleet.specs.declared.states.FleetFinished.TheVariants as fleet_finished
use Rattle.plan_fleet.specs.PlanExecutions.{execution_after_feed, execution_after_finish, execution_of, state_of}
use Rattle.plan_fleet.specs.declared.plan_execution.PlanExecution.{PlanExecution}
use Rattle.plan_fleet.specs.declared.plan_execution.PlanExecution.TheVariants.{NotControllable, Running, Complete, Ended}
use Rattle.plan_fleet.specs.declared.states.State.TheVariants as state
use Rattle.fleet_command.proofs.ShownLemmas.{ends_shown, puts_shown}
use Rattle.fleet_command.specs.FleetStands.{SaysIdle, SaysReported, SaysStated, said_capacity, slot_stands, stands_at, stands_by, stands_of}
use Rattle.fleet_command.specs.declared.entries.FleetSlot.TheVariants.{Opened}

-- a plan that runs, with its execution
pub runs_so : (plan : FleetPlan) (execution : Execution) → plan.execution ≡ Running execution → stands_of plan ≡ Runs (event_run_of (shown_form plan.net) execution)
runs_so plan execution is = ap (λ (e : PlanExecution). stands_by plan.net e) is

pub running_of : (of : PlanExecution) → state_of of ≡ state.Running → (execution : Execution) × (of ≡ Running execution)
running_of NotControllable runs = absurd (cc runs)
running_of (Running execution) runs = (execution, refl)
running_of (Complete execution) runs = absurd (cc runs)
running_of (Ended execution) runs = absurd (cc runs)

-- one that does not run
pub not_running : (net : Plan) (of : PlanExecution) → (state_of of ≡ state.Running → ⊥) → stands_by net of ≡ Idle
not_running net NotControllable never = refl
not_running net (Running execution) never = absurd (never refl)
not_running net (Complete execution) never = refl
not_running net (Ended execution) never = refl

-- a fed plan goes on exactly if its feed does not end it
after_feed : (net : Plan) (execution after : Execution) (answer : Fed) (number : ℕ) (due : Option ℕ) (put : List ℕ) (ended : Option End) → PutsFed net number answer after.acts due put ended
    → stands_by net (execution_after_feed answer (Running after)) ≡ stands_after (flow_of (event_run_of (shown_form net) execution) after ended)
after_feed net execution after fed.Acts number due put None puts = refl
after_feed net execution after fed.Acts number due put (Some end) puts = absurd (cc (puts.1))
after_feed net execution after (fed.Refused why) number due put None puts = absurd (cc (puts.1))
after_feed net execution after (fed.Refused why) number due put (Some end) puts = refl
after_feed net execution after (fed.Ended why) number due put None puts = absurd (cc (puts.1))
after_feed net execution after (fed.Ended why) number due put (Some end) puts = refl

pub feed_says : (old new : FleetPlan) (number moment : ℕ) (listed : List PointId) (answer : Fed) (fed_so : IsFedPlan old moment listed answer new) (due : Option ℕ) (put : List ℕ) (ended : Option End)
    → IsDueAnswer fed_so.then_execution due → PutsFed old.net number answer fed_so.then_execution.acts due put ended → SaysReported number (completed moment listed) put old new
feed_says old new number moment listed answer fed_so due put ended next puts =
    let event_run = event_run_of (shown_form old.net) fed_so.execution in
    record {
      net = ap (λ (p : FleetPlan). p.net) fed_so.is;
      execution = fed_so.execution;
      was = runs_so old fed_so.execution fed_so.was;
      flow = flow_of event_run fed_so.then_execution ended;
      answers =
          fed_answers event_run number moment listed answer fed_so.then_execution due put ended fed_so.feeds next (puts_shown old.net number answer fed_so.then_execution.acts due put ended puts);
      stands = ap stands_of fed_so.is ∙ after_feed old.net fed_so.execution fed_so.then_execution answer number due put ended puts;
    }

after_finish : (net : Plan) (after : Execution) (answer : Finished) (end : End) → stands_by net (execution_after_finish answer (Running after)) ≡ stands_after (Finish end)
after_finish net after finished.Complete end = refl
after_finish net after (finished.Unfinished point) end = refl
after_finish net after (finished.Ended why) end = refl

pub finish_says : (old new : FleetPlan) (number : ℕ) (answer : Finished) (finished_so : IsFinishedPlan old answer new) (put : List ℕ) (end : End)
    → AnswersEnd old.net number answer finished_so.then_execution.acts put (Finish end) → SaysReported number done put old new
finish_says old new number answer finished_so put end puts =
    record {
      net = ap (λ (p : FleetPlan). p.net) finished_so.is;
      execution = finished_so.execution;
      was = runs_so old finished_so.execution finished_so.was;
      flow = Finish end;
      answers = (answer, finished_so.then_execution, finished_so.finishes, ends_shown old.net number answer finished_so.then_execution.acts put (Finish end) puts);
      stands = ap stands_of finished_so.is ∙ after_finish old.net finished_so.then_execution answer end;
    }

-- ---- a plan by its place
pub at_here : (Is : FleetPlan → Type 0) (fleet : List FleetPlan) (place : ℕ) (plan : FleetPlan) → AtPlan fleet place Is → slice_get fleet place ≡ Some plan → Is plan
at_here Is fleet place plan (member, here, is) there = let same : member ≡ plan = cc (sym here ∙ there) in subst Is same is

-- the capacity of the answer of one that runs
pub runs_size : (fleet : List FleetPlan) (place size : ℕ) (plan : FleetPlan) (execution : Execution) → slice_get fleet place ≡ Some plan → plan.execution ≡ Running execution → size ≤ answer_capacity plan.net
    → size ≤ said_capacity (slot_stands fleet (Opened place))
runs_size fleet place size plan execution here is fits =
    subst (λ (s : MemberState EventRun). size ≤ said_capacity s) (sym (ap stands_at here ∙ runs_so plan execution is)) fits

-- the execution of one that was fed, or finished
fed_execution : (answer : Fed) (execution : Execution) → execution_of (execution_after_feed answer (Running execution)) ≡ Some execution
fed_execution fed.Acts execution = refl
fed_execution (fed.Refused why) execution = refl
fed_execution (fed.Ended why) execution = refl

finished_execution : (answer : Finished) (execution : Execution) → execution_of (execution_after_finish answer (Running execution)) ≡ Some execution
finished_execution finished.Complete execution = refl
finished_execution (finished.Unfinished point) execution = refl
finished_execution (finished.Ended why) execution = refl

-- what acts of a plan, and its next due moment, are
abbrev pub HasActs : List Act → FleetPlan → Type 0
HasActs acts member = (execution : Execution) → execution_of member.execution ≡ Some execution → acts ≡ execution.acts

abbrev pub HasDue : Option ℕ → FleetPlan → Type 0
HasDue due member = (execution : Execution) → execution_of member.execution ≡ Some execution → IsDueAnswer execution due

abbrev pub HasFew : List Act → FleetPlan → Type 0
HasFew acts member = length acts ≤ length member.net.points

-- a plan that was fed, and the one in its place after it
pub record FedAt (fleet : List FleetPlan) (place moment : ℕ) (listed : List PointId) (answer : Fed) (after : List FleetPlan) : Type 0 where
  pub old : FleetPlan
  pub new : FleetPlan
  pub was : slice_get fleet place ≡ Some old
  pub there : slice_get after place ≡ Some new
  pub is : after ≡ slice_set fleet place new
  pub fed_so : IsFedPlan old moment listed answer new

abbrev pub FedBy : List FleetPlan → ℕ → ℕ → List PointId → FleetFed → List FleetPlan → Type 0
FedBy fleet place moment listed answer after = ChangesOne fleet place (λ old new. FeedsPlan old moment listed answer new) after

pub fed_at : (fleet after : List FleetPlan) (place moment : ℕ) (listed : List PointId) (answer : Fed) (reported : FleetFed) → reported ≡ fleet_fed.Fed answer → FedBy fleet place moment listed reported after
    → FedAt fleet place moment listed answer after
fed_at fleet after place moment listed answer reported is changes =
    let one : FedBy fleet place moment listed (fleet_fed.Fed answer) after = subst (λ (t : FleetFed). FedBy fleet place moment listed t after) is changes in
    record {
      old = one.old;
      new = one.new;
      was = one.was;
      there = ap (λ (f : List FleetPlan). slice_get f place) one.is ∙ set_here fleet place one.old one.new one.was;
      is = one.is;
      fed_so = one.changes;
    }

-- one that does not run, and stays as it is
pub says_idle : (said : List ℕ) (old new : FleetPlan) → ¬ IsRunning old → new ≡ old → said ≡ idle_said false → SaysIdle said old new
says_idle said old new never same says = record { stands = not_running old.net old.execution never; says = says; same = same }

pub fed_idle : (fleet after : List FleetPlan) (place moment number : ℕ) (listed : List PointId) (reported : FleetFed) (said : List ℕ) → reported ≡ fleet_fed.Idle → FedBy fleet place moment listed reported after
    → said ≡ idle_said false → ChangesOne fleet place (SaysStated number (completed moment listed) said) after
fed_idle fleet after place moment number listed reported said is changes says =
    let one : FedBy fleet place moment listed fleet_fed.Idle after = subst (λ (t : FleetFed). FedBy fleet place moment listed t after) is changes in
    record { old = one.old; new = one.new; was = one.was; changes = inr (says_idle said one.old one.new one.changes.0 one.changes.1 says); is = one.is }

module _ (fleet after : List FleetPlan) (place moment : ℕ) (listed : List PointId) (answer : Fed) (at : FedAt fleet place moment listed answer after) (sound : AtPlan fleet place IsFleetPlan)
    (still : AtPlan after place IsFleetPlan) (acts : List Act)
    (value : AtPlan after place (HasActs acts)) where
  then_is : execution_of at.new.execution ≡ Some at.fed_so.then_execution
  then_is = ap (λ (p : FleetPlan). execution_of p.execution) at.fed_so.is ∙ fed_execution answer at.fed_so.then_execution

  pub fed_net : at.new.net ≡ at.old.net
  fed_net = ap (λ (p : FleetPlan). p.net) at.fed_so.is

  pub fed_acts_are : acts ≡ at.fed_so.then_execution.acts
  fed_acts_are = at_here (HasActs acts) after place at.new value at.there at.fed_so.then_execution then_is

  -- what is put of it speaks of points of its network
  pub fed_among : AtPlan after place (HasFew acts) → All (IsPoint at.old.net) listed → FeedsAmong at.old.net answer acts
  fed_among few all =
      let before = at_here IsFleetPlan fleet place at.old sound at.was in
      let later = at_here IsFleetPlan after place at.new still at.there in
      let going = before.runs at.fed_so.execution at.fed_so.was in
      let short : length acts ≤ length at.new.net.points = at_here (HasFew acts) after place at.new few at.there in
      let points : length at.fed_so.then_execution.setting.dispatch ≡ length at.new.net.points = later.points at.fed_so.then_execution then_is in
      let least : length at.fed_so.then_execution.acts ≤ length at.fed_so.then_execution.setting.dispatch =
      subst (λ (a : List Act). length a ≤ length at.fed_so.then_execution.setting.dispatch) fed_acts_are (omega (arith, short, points)) in
      subst (FeedsAmong at.old.net answer) (sym fed_acts_are)
      (feeds_among at.old.net at.fed_so.execution moment listed answer at.fed_so.then_execution going (before.points at.fed_so.execution (ap execution_of at.fed_so.was)) all at.fed_so.feeds least)

  -- and it is said to what the line states
  pub fed_changes : (number : ℕ) (due : Option ℕ) (put : List ℕ) (ended : Option End)
      → AtPlan after place (HasDue due) → PutsFed at.old.net number answer acts due put ended
      → ChangesOne fleet place (SaysStated number (completed moment listed) put) after
  fed_changes number due put ended next puts = record {
    old = at.old;
    new = at.new;
    was = at.was;
    changes =
        inl (feed_says at.old at.new number moment listed answer at.fed_so due put ended (at_here (HasDue due) after place at.new next at.there at.fed_so.then_execution then_is)
        (subst (λ (a : List Act). PutsFed at.old.net number answer a due put ended) fed_acts_are puts));
    is = at.is;
  }

  -- and takes no more than its capacity
  pub fed_size : (size : ℕ) → size ≤ answer_capacity at.old.net → size ≤ said_capacity (slot_stands fleet (Opened place))
  fed_size size fits = runs_size fleet place size at.old at.fed_so.execution at.was at.fed_so.was fits

-- a plan that was finished, and the one in its place after it
pub record FinishedAt (fleet : List FleetPlan) (place : ℕ) (answer : Finished) (after : List FleetPlan) : Type 0 where
  pub old : FleetPlan
  pub new : FleetPlan
  pub was : slice_get fleet place ≡ Some old
  pub there : slice_get after place ≡ Some new
  pub is : after ≡ slice_set fleet place new
  pub finished_so : IsFinishedPlan old answer new

abbrev pub FinishedBy : List FleetPlan → ℕ → FleetFinished → List FleetPlan → Type 0
FinishedBy fleet place answer after = ChangesOne fleet place (λ old new. FinishesPlan old answer new) after

pub finished_at : (fleet after : List FleetPlan) (place : ℕ) (answer : Finished) (reported : FleetFinished) → reported ≡ fleet_finished.Finished answer → FinishedBy fleet place reported after → FinishedAt fleet place answer after
finished_at fleet after place answer reported is changes =
    let one : FinishedBy fleet place (fleet_finished.Finished answer) after = subst (λ (t : FleetFinished). FinishedBy fleet place t after) is changes in
    record {
      old = one.old;
      new = one.new;
      was = one.was;
      there = ap (λ (f : List FleetPlan). slice_get f place) one.is ∙ set_here fleet place one.old one.new one.was;
      is = one.is;
      finished_so = one.changes;
    }

pub finished_idle : (fleet after : List FleetPlan) (place number : ℕ) (reported : FleetFinished) (said : List ℕ) → reported ≡ fleet_finished.Idle → FinishedBy fleet place reported after
    → said ≡ idle_said false → ChangesOne fleet place (SaysStated number done said) after
finished_idle fleet after place number reported said is changes says =
    let one : FinishedBy fleet place fleet_finished.Idle after = subst (λ (t : FleetFinished). FinishedBy fleet place t after) is changes in
    record { old = one.old; new = one.new; was = one.was; changes = inr (says_idle said one.old one.new one.changes.0 one.changes.1 says); is = one.is }

module _ (fleet after : List FleetPlan) (place : ℕ) (answer : Finished) (at : FinishedAt fleet place answer after) (sound : AtPlan fleet place IsFleetPlan) (still : AtPlan after place IsFleetPlan) (acts : List Act)
    (value : AtPlan after place (HasActs acts)) where
  finished_is : execution_of at.new.execution ≡ Some at.finished_so.then_execution
  finished_is = ap (λ (p : FleetPlan). execution_of p.execution) at.finished_so.is ∙ finished_execution answer at.finished_so.then_execution

  pub finished_net : at.new.net ≡ at.old.net
  finished_net = ap (λ (p : FleetPlan). p.net) at.finished_so.is

  pub finished_acts_are : acts ≡ at.finished_so.then_execution.acts
  finished_acts_are = at_here (HasActs acts) after place at.new value at.there at.finished_so.then_execution finished_is

  pub finished_among : AtPlan after place (HasFew acts) → EndsAmong at.old.net answer acts
  finished_among few =
      let before = at_here IsFleetPlan fleet place at.old sound at.was in
      let later = at_here IsFleetPlan after place at.new still at.there in
      let going = before.runs at.finished_so.execution at.finished_so.was in
      let short : length acts ≤ length at.new.net.points = at_here (HasFew acts) after place at.new few at.there in
      let points : length at.finished_so.then_execution.setting.dispatch ≡ length at.new.net.points = later.points at.finished_so.then_execution finished_is in
      let least : length at.finished_so.then_execution.acts ≤ length at.finished_so.then_execution.setting.dispatch =
      subst (λ (a : List Act). length a ≤ length at.finished_so.then_execution.setting.dispatch) finished_acts_are (omega (arith, short, points)) in
      subst (EndsAmong at.old.net answer) (sym finished_acts_are)
      (ends_among at.old.net at.finished_so.execution answer at.finished_so.then_execution going (before.points at.finished_so.execution (ap execution_of at.finished_so.was)) at.finished_so.finishes least)

  pub finished_changes : (number : ℕ) (put : List ℕ) (end : End) → AnswersEnd at.old.net number answer acts put (Finish end) → ChangesOne fleet place (SaysStated number done put) after
  finished_changes number put end puts = record {
    old = at.old;
    new = at.new;
    was = at.was;
    changes = inl (finish_says at.old at.new number answer at.finished_so put end (subst (λ (a : List Act). AnswersEnd at.old.net number answer a put (Finish end)) finished_acts_are puts));
    is = at.is;
  }

  pub finished_size : (size : ℕ) → size ≤ answer_capacity at.old.net → size ≤ said_capacity (slot_stands fleet (Opened place))
  finished_size size fits = runs_size fleet place size at.old at.finished_so.execution at.was at.finished_so.was fits
