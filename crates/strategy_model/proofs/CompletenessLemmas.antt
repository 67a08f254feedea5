-- A forward closed list of edges with an order gives a strategy that controls the network.
use Rattle.std.proofs.Common.{List}
use Rattle.std.proofs.lemmas.List.Elements.{recursion_from_All}
use Rattle.net_model.specs.Network.{Plan}
use Rattle.net_model.specs.declared.ids.PointId.{PointId}
use Rattle.net_model.specs.declared.part.Edge.{Edge}
use Rattle.strategy_model.specs.Plays.{IsInstant}
use Rattle.strategy_model.specs.Dispatch.{IsForwardClosedList, IsOrder, IsDynamic}
use Rattle.strategy_model.specs.DispatchLaws.{AreTrue, ForwardListsGiveStrategies, ClosedListsDecide}
use Rattle.strategy_model.specs.Control.{IsControllable}
use Rattle.strategy_model.specs.Edges.{HoldsOf, HasNoNegativeCycle}
use Rattle.strategy_model.proofs.ClosedLemmas.{law_closed_lists_are_forward_closed}
use Rattle.strategy_model.proofs.LoopLemmas.{walk_true, law_loops_exclude_strategies}
use Rattle.strategy_model.proofs.ExactLemmas.{cycle_is_loop}
use Rattle.strategy_model.proofs.InsertLemmas.{law_closed_lists_have_orders}
use Rattle.strategy_model.proofs.DispatchedLemmas.{law_dispatched_satisfy}
use Rattle.strategy_model.proofs.LowerLemmas.{lower_schedule, lower_is_dispatched}
use Rattle.strategy_model.proofs.SeenLemmas.{law_dispatched_see_alone}
use Rattle.strategy_model.proofs.UnfoldLemmas.{law_dynamic_strategies_are_trees}

-- the schedules of lower bounds and waits are a dynamic execution strategy
pub lower_is_dynamic : (net : Plan) (edges : List Edge) (order : List PointId) → IsInstant net → IsForwardClosedList net edges → IsOrder net edges order → IsDynamic net (lower_schedule net edges order)
lower_is_dynamic net edges order instant closed ordered =
    record {
      complete = λ situation is_situation. (lower_is_dispatched net edges order situation instant.sound closed ordered is_situation).complete;
      lasting = λ situation name link duration is_situation. (lower_is_dispatched net edges order situation instant.sound closed ordered is_situation).contingent name link duration;
      seen_alone = λ first second t is_first is_second. law_dispatched_see_alone net edges order first second (lower_schedule net edges order first)
          (lower_schedule net edges order second) t instant closed ordered is_first is_second (lower_is_dispatched net edges order first instant.sound closed ordered is_first)
          (lower_is_dispatched net edges order second instant.sound closed ordered is_second);
    }

pub law_forward_lists_give_strategies : ForwardListsGiveStrategies
law_forward_lists_give_strategies net edges order instant closed ordered =
    let (strategy, played) = law_dynamic_strategies_are_trees net (lower_schedule net edges order) instant (lower_is_dynamic net edges order instant closed ordered) in (
      strategy,
      λ situation is_situation. (
        lower_schedule net edges order situation,
        played situation is_situation,
        law_dispatched_satisfy net edges situation
            (lower_schedule net edges order situation) instant closed is_situation (lower_is_dispatched net edges order situation instant.sound closed ordered is_situation),
      ),
      λ situation is_situation.
          (lower_schedule net edges order situation, played situation is_situation, lower_is_dispatched net edges order situation instant.sound closed ordered is_situation),
    )

-- a list of edges that are true of every strategy that controls the network excludes them all by a negative cycle
excluded : (net : Plan) (edges : List Edge) → IsInstant net → AreTrue net edges → IsControllable net → HasNoNegativeCycle edges
excluded net edges instant all controllable cycle among negative =
    let (strategy, controls) = controllable in
    let holds = walk_true net strategy edges cycle (all strategy controls) among in
    law_loops_exclude_strategies net strategy cycle instant (recursion_from_All (HoldsOf net strategy) cycle holds) (cycle_is_loop cycle negative) controls

pub law_closed_lists_decide : ClosedListsDecide
law_closed_lists_decide net edges instant closed all = (
  excluded net edges instant all,
  λ acyclic.
      let (order, ordered) = law_closed_lists_have_orders net edges closed acyclic in
      let (strategy, controls, dispatches) = law_forward_lists_give_strategies net edges order instant (law_closed_lists_are_forward_closed net edges closed) ordered in
      (strategy, controls),
)
