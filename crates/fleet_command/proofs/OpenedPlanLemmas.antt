-- What a plan changes of its fleet by a line of its own.
use Rattle.std.proofs.Common.{◌≡◌, ℕ, zero, suc, false, List, [], ◌∷◌, Some, refl, sym, ap, ◌∙◌, subst}
use Rattle.std.specs.Prelude.{slice_get, slice_set}
use Rattle.net_model.specs.Network.{Plan}
use Rattle.net_model.specs.declared.format.FormatKind.{FormatKind}
use Rattle.event_stream.specs.EventText.{EventLine, blank, IsEventLine, IsEventFault}
use Rattle.event_phase.specs.EventAnswers.{event_fault_line}
use Rattle.multiplexed_commands.specs.Alone.{Idle, idle_said}
use Rattle.plan_fleet.specs.Fleets.{AtPlan, ChangesOne}
use Rattle.plan_fleet.specs.FleetPlans.{EndsPlan, FleetPlan}
use Rattle.plan_fleet.specs.PlanExecutions.{ended, state_of}
use Rattle.plan_fleet.specs.declared.plan_execution.PlanExecution.{PlanExecution}
use Rattle.plan_fleet.specs.declared.states.State.{State}
use Rattle.plan_fleet.specs.declared.states.State.TheVariants as state
use Rattle.fleet_command.specs.FleetStands.{SaysLine, SaysStated, stands_by, stands_of}
use Rattle.fleet_command.proofs.OwnLemmas.{blank_says, fault_says, fault_stays, idle_says, reported_says}
use Rattle.fleet_command.proofs.ReportedLineLemmas.{at_here, running_of, runs_so, says_idle}

-- what stands in a place, written there again, changes nothing
set_again : {A : Type 0} (xs : List A) (place : ℕ) (one : A) → slice_get xs place ≡ Some one → xs ≡ slice_set xs place one
set_again [] place one here = refl
set_again (x ∷ xs) zero one here =
    let same : x ≡ one = cc here in
    ap (λ y. y ∷ xs) same
set_again (x ∷ xs) (suc place) one here = ap (λ (ys : List _). x ∷ ys) (set_again xs place one here)

module _ (fleet : List FleetPlan) (place number : ℕ) (line said : List ℕ) (net : Plan) (value : AtPlan fleet place (λ plan. net ≡ plan.net)) where
  own_net : (plan : FleetPlan) → slice_get fleet place ≡ Some plan → net ≡ plan.net
  own_net plan here = at_here (λ (p : FleetPlan). net ≡ p.net) fleet place plan value here

  -- a line that states something
  pub reported_changes : (reported : EventLine) (after : List FleetPlan) → IsEventLine net reported line → (reported ≡ blank → ⊥) → ChangesOne fleet place (SaysStated number reported said) after
      → ChangesOne fleet place (SaysLine number line said) after
  reported_changes reported after is never one = record {
    old = one.old;
    new = one.new;
    was = one.was;
    changes = reported_says number line said reported one.old one.new (subst (λ (n : Plan). IsEventLine n reported line) (own_net one.old one.was) is) never one.changes;
    is = one.is;
  }

  -- a line that is passed over
  pub blank_changes : said ≡ [] → IsEventLine net blank line → ChangesOne fleet place (SaysLine number line said) fleet
  blank_changes nothing is =
      let (plan, here, same) = value in
      record {
        old = plan;
        new = plan;
        was = here;
        changes = blank_says number line said plan nothing (subst (λ (n : Plan). IsEventLine n blank line) same is);
        is = set_again fleet place plan here;
      }

-- a line with a fault ends a plan that runs, and each other says that it is idle
module _ (fleet : List FleetPlan) (place number : ℕ) (line said : List ℕ) (kind : FormatKind) (stands : State) (now : AtPlan fleet place (λ plan. stands ≡ state_of plan.execution))
    (is : AtPlan fleet place (λ plan. IsEventFault plan.net line kind)) where
  its_state : (plan : FleetPlan) → slice_get fleet place ≡ Some plan → stands ≡ state_of plan.execution
  its_state plan here = at_here (λ (p : FleetPlan). stands ≡ state_of p.execution) fleet place plan now here

  its_fault : (plan : FleetPlan) → slice_get fleet place ≡ Some plan → IsEventFault plan.net line kind
  its_fault plan here = at_here (λ (p : FleetPlan). IsEventFault p.net line kind) fleet place plan is here

  pub fault_changes : (after : List FleetPlan) → stands ≡ state.Running → said ≡ event_fault_line number kind → ChangesOne fleet place EndsPlan after → ChangesOne fleet place (SaysLine number line said) after
  fault_changes after runs puts one =
      let (execution, was) = running_of one.old.execution (sym (its_state one.old one.was) ∙ runs) in
      let stands_then : stands_of one.new ≡ Idle = ap stands_of one.changes ∙ ap (λ (e : PlanExecution). stands_by one.old.net (ended e)) was in
      record {
        old = one.old;
        new = one.new;
        was = one.was;
        changes = fault_says number line said kind one.old one.new execution (runs_so one.old execution was) stands_then (ap (λ (p : FleetPlan). p.net) one.changes) (its_fault one.old one.was) puts;
        is = one.is;
      }

  pub idle_changes : (stands ≡ state.Running → ⊥) → said ≡ idle_said false → ChangesOne fleet place (SaysLine number line said) fleet
  idle_changes never puts =
      let (plan, here, same) = now in
      record {
        old = plan;
        new = plan;
        was = here;
        changes = idle_says number line said plan plan (fault_stays plan.net kind line (its_fault plan here)) (says_idle said plan plan (λ runs. never (same ∙ runs)) refl puts);
        is = set_again fleet place plan here;
      }
