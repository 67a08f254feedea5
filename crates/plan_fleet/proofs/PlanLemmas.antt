-- One plan of a fleet: what a feed makes of it, and how it is opened.
use Rattle.std.proofs.Common.{◌≡◌, inl, inr, ℕ, List, length, Option, Some, None, Result, Ok, Err, refl, sym, ap, ◌∙◌, subst}
use Rattle.net_model.specs.Moments.{Moments}
use Rattle.net_model.specs.Network.{Plan, IsPlan}
use Rattle.net_model.specs.declared.ids.PointId.{PointId}
use Rattle.net_model.specs.ShownForm.{shown_form}
use Rattle.strategy_model.specs.Plays.{IsInstant}
use Rattle.strategy_model.specs.ShownLaws.{ControllableIsShown}
use Rattle.closure_model.specs.Orders.{placed_points}
use Rattle.closure_laws.specs.Forward.{IsDispatchedForward}
use Rattle.canonical_closure.specs.CanonicalClosure.{canonical_closure, ControllableHaveCanonicalClosures}
use Rattle.dispatch_net.specs.Dispatchable.{DispatchLists, IsDispatchBy}
use Rattle.dispatch_net.proofs.ExecutionLemmas.{dispatchable_length}
use Rattle.execution_model.specs.Execution.{Setting}
use Rattle.execution_model.specs.Feeds.{Execution, after_feed, IsFed, taken}
use Rattle.execution_model.specs.declared.feed_answers.Fed.{Fed}
use Rattle.execution_model.specs.declared.feed_answers.Fed.TheVariants as fed
use Rattle.execution_model.specs.declared.feed_answers.Why.{Why}
use Rattle.forward_closure.specs.declared.decision.ForwardClosed.{ForwardClosed}
use Rattle.forward_executor.specs.ForwardExecutions.{IsForwardDispatch}
use Rattle.plan_fleet.specs.FleetPlans.{FleetPlan, IsFleetPlan, OpensTo}
use Rattle.plan_fleet.specs.FleetStart.{StartsOrNot}
use Rattle.plan_fleet.specs.PlanExecutions.{execution_after_feed, execution_of}
use Rattle.plan_fleet.specs.declared.plan_execution.PlanExecution.{PlanExecution}
use Rattle.plan_fleet.specs.declared.plan_execution.PlanExecution.TheVariants.{NotControllable, Running, Complete, Ended}

-- ---- what is kept
module _ (net : Plan) (execution : Execution) (count : length execution.setting.dispatch ≡ length net.points) where
  abbrev at : PlanExecution → FleetPlan
  at execution = record { net = net; execution = execution }

  same_count : (other : Execution) → execution ≡ other → length other.setting.dispatch ≡ length net.points
  same_count other same = subst (λ (e : Execution). length e.setting.dispatch ≡ length net.points) same count

  runs_on : execution.refused ≡ None → IsFleetPlan (at (Running execution))
  runs_on going = record {
    runs = λ other is. let same : execution ≡ other = cc is in subst (λ (e : Execution). e.refused ≡ None) same going;
    points = λ other is. same_count other (cc is);
  }

  has_ended : IsFleetPlan (at (Ended execution))
  has_ended = record { runs = λ other is. absurd (cc is); points = λ other is. same_count other (cc is) }

  after_answer : (answer : Fed) → (answer ≡ fed.Acts → execution.refused ≡ None) → IsFleetPlan (at (execution_after_feed answer (Running execution)))
  after_answer fed.Acts going = runs_on (going refl)
  after_answer (fed.Refused why) going = has_ended
  after_answer (fed.Ended why) going = has_ended

-- a feed of an execution that continues, which is not refused, leaves one that continues; and the network's lists stay
record StillGoes (execution : Execution) (answer : Fed) (after : Execution) : Type 0 where
  pub setting : after.setting ≡ execution.setting
  pub goes : answer ≡ fed.Acts → after.refused ≡ None

module _ (execution : Execution) (moment : ℕ) (listed : List PointId) (answer : Fed) (after : Execution) (going : execution.refused ≡ None) where
  abbrev FedBy : Result Moments Why → Type 0
  FedBy (Err cause) = (answer ≡ fed.Refused cause) × (after ≡ record execution { refused = Some cause })
  FedBy (Ok moments) = (answer ≡ fed.Acts) × (after ≡ after_feed execution moment moments)

  abbrev FedWhere : Option Why → Type 0
  FedWhere (Some cause) = (answer ≡ fed.Ended cause) × (after ≡ execution)
  FedWhere None = FedBy (taken execution moment listed)

  fed_by : (r : Result Moments Why) → FedBy r → StillGoes execution answer after
  fed_by (Err cause) (refused, same) = record { setting = ap (λ (e : Execution). e.setting) same; goes = λ acts. absurd (cc (refused, acts)) }
  fed_by (Ok moments) (took, same) = record { setting = ap (λ (e : Execution). e.setting) same; goes = λ acts. ap (λ (e : Execution). e.refused) same ∙ going }

  fed_kept : IsFed execution moment listed answer after → StillGoes execution answer after
  fed_kept is = fed_by (taken execution moment listed) (subst FedWhere going is)

pub fed_is_plan : (inside : FleetPlan) (moment : ℕ) (listed : List PointId) (answer : Fed) (execution after : Execution) (stands : PlanExecution) → IsFleetPlan inside → inside.execution ≡ Running execution
    → IsFed execution moment listed answer after → stands ≡ execution_after_feed answer (Running after)
    → IsFleetPlan (record { net = inside.net; execution = stands })
fed_is_plan inside moment listed answer execution after stands is was feeds same =
    let kept = fed_kept execution moment listed answer after (is.runs execution was) feeds in
    let count : length after.setting.dispatch ≡ length inside.net.points = ap (λ (s : Setting). length s.dispatch) kept.setting ∙ is.points execution (ap execution_of was) in
    subst (λ (s : PlanExecution). IsFleetPlan (record { net = inside.net; execution = s })) (sym same) (after_answer inside.net after count answer kept.goes)

-- ---- how a plan is opened
-- the dispatchable network of a forward closed table is one, slim or whole
pub forward_dispatch : (net : Plan) (closed : ForwardClosed) (dispatch slim : DispatchLists) → IsDispatchedForward net closed.table closed.order → IsDispatchBy net closed.table dispatch → slim.links ≡ dispatch.links
    → slim.made ≡ dispatch.made
    → IsForwardDispatch net slim
forward_dispatch net closed dispatch slim is by links made = record {
  table = closed.table;
  order = closed.order;
  dispatched = is;
  links = links ∙ by.links;
  made = made ∙ by.made;
}

module _ (net shown : Plan) (same : shown ≡ shown_form net) (closures : ControllableHaveCanonicalClosures) where
  abbrev at_first : PlanExecution → FleetPlan
  at_first execution = record { net = net; execution = execution }

  opens_at_first : IsPlan net → IsInstant (shown_form net) → ControllableIsShown → (execution : PlanExecution) → StartsOrNot (shown_form net) execution → OpensTo net (at_first execution)
  opens_at_first plan instant shows (Running execution) (controls, is) = (
    refl,
    inl (record {
      controllable = (shows net plan).1 controls;
      table = canonical_closure (shown_form net);
      order = placed_points (canonical_closure (shown_form net));
      by_closure = closures (shown_form net) instant controls;
      runs = ap Running is;
    }),
  )
  opens_at_first plan instant shows NotControllable never = (refl, inr (record { never = λ controls. never ((shows net plan).0 controls); stands = refl }))
  opens_at_first plan instant shows (Complete execution) starts = absurd starts
  opens_at_first plan instant shows (Ended execution) starts = absurd starts

  pub opens : IsPlan net → IsInstant (shown_form net) → ControllableIsShown → (execution : PlanExecution) → StartsOrNot shown execution → OpensTo net (at_first execution)
  opens plan instant shows execution starts = opens_at_first plan instant shows execution (subst (λ (n : Plan). StartsOrNot n execution) same starts)

  -- an execution that is started is one of a plan that runs
  pub kept : IsInstant shown → (execution : PlanExecution) → StartsOrNot shown execution → IsFleetPlan (at_first execution)
  kept instant (Running execution) (controls, is) =
      let count : length execution.setting.dispatch ≡ length net.points =
      ap (λ (e : Execution). length e.setting.dispatch) is
      ∙ (dispatchable_length shown (canonical_closure shown) (closures shown instant controls).closure.for_network ∙ ap (λ (n : Plan). length n.points) same) in
      runs_on net execution count (ap (λ (e : Execution). e.refused) is)
  kept instant NotControllable never = record { runs = λ other is. absurd (cc is); points = λ other is. absurd (cc is) }
  kept instant (Complete execution) starts = absurd starts
  kept instant (Ended execution) starts = absurd starts
