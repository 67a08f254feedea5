-- What forward closed tables of a network say of its strategies.
use Rattle.std.proofs.Common.{◌≡◌, ◌≢◌, ℕ, suc, ℤ, pos, ◌<◌, true, false, inl, inr, List, [], ◌∷◌, length, get_or, Option, Some, None, ap, sym, subst, ◌∙◌, arith}
use Rattle.std.specs.Prelude.{int_lt, slice_get}
use Rattle.std.specs.List.{AllPairs, AllByRecursion, IsDistinct}
use Rattle.std.specs.Option.{option_map_or}
use Rattle.std.proofs.lemmas.Bool.{cases_lt, true≢false, ne_eqb}
use Rattle.std.proofs.lemmas.Option.{slice_get_within, get_or_from_slice_get}
use Rattle.net_model.specs.Network.{Plan}
use Rattle.net_model.specs.Edges.{IsEdge}
use Rattle.net_model.specs.declared.ids.LinkId.{LinkId}
use Rattle.net_model.specs.declared.ids.PointId.{PointId}
use Rattle.net_model.specs.declared.part.Edge.{Edge}
use Rattle.net_model.proofs.ForwardRuleLemmas.{forward_follows}
use Rattle.closure_model.specs.Keys.{Shape}
use Rattle.closure_model.specs.Closure.{IsForwardTable}
use Rattle.closure_model.specs.Orders as table_orders
use Rattle.closure_model.specs.Orders.{goes}
use Rattle.closure_model.specs.Tables.{Graph, HasEdge, edges_of, IsFor}
use Rattle.closure_model.proofs.LawProofs.{law_derivable_are_edges, law_closure_is_closed}
use Rattle.closure_model.proofs.TableLemmas.{listed_edge}
use Rattle.strategy_model.specs.Situations.{IsSituation}
use Rattle.strategy_model.specs.Plays.{IsInstant, same_point}
use Rattle.strategy_model.specs.Control.{IsEarliest}
use Rattle.strategy_model.specs.Edges.{HoldsOf, IsNegativeOrdinary}
use Rattle.strategy_model.specs.Dispatch.{IsOrder, IsDispatched}
use Rattle.strategy_model.specs.DispatchLaws.{AreTrue}
use Rattle.strategy_model.proofs.AheadLemmas.{law_dispatched_are_earliest}
use Rattle.strategy_model.proofs.CompletenessLemmas.{law_forward_lists_give_strategies}
use Rattle.strategy_model.proofs.EarliestLemmas.{law_at_most_one_earliest}
use Rattle.strategy_model.proofs.LowerLemmas.{law_dispatched_exist}
use Rattle.closure_laws.specs.Forward.{IsDispatchedForward}
use Rattle.closure_laws.specs.ForwardLaws.{ClosedTablesAreForwardClosed, ClosuresAreForwardTables, ForwardTablesAreForwardLists, OrderedForwardTablesAreControllable, ForwardTablesDispatchEarliest}
use Rattle.closure_laws.specs.ForwardLaws.{ForwardClosedTablesAreLists, ForwardTablesDispatchAlike}
use Rattle.closure_laws.proofs.ClosureLemmas.{law_derivable_are_true, stands_in, edge_of_table, listed_all, closure_derivable}

-- ---- tables
pub law_closed_tables_are_forward_closed : ClosedTablesAreForwardClosed
law_closed_tables_are_forward_closed net table closed edge forward = closed edge (forward_follows net (edges_of table) edge forward)

pub law_closures_are_forward_tables : ClosuresAreForwardTables
law_closures_are_forward_tables net table closure =
    record {
      for_network = closure.for_network;
      derivable = closure_derivable net table closure;
      closed = law_closed_tables_are_forward_closed net table (law_closure_is_closed net table closure).0;
    }

pub law_forward_closed_tables_are_lists : ForwardClosedTablesAreLists
law_forward_closed_tables_are_lists net table for sound closed =
    record {
      edges_sound = listed_all table (IsEdge net) (edge_of_table net table for sound);
      closed = λ edge forward. stands_in table edge (closed edge forward);
    }

pub law_forward_tables_are_forward_lists : ForwardTablesAreForwardLists
law_forward_tables_are_forward_lists net table plan is =
    record {
      edges_sound = listed_all table (IsEdge net) (λ edge has. law_derivable_are_edges net edge plan (is.derivable edge has));
      closed = λ edge forward. stands_in table edge (is.closed edge forward);
    }

forward_true : (net : Plan) (table : Graph) → IsInstant net → IsForwardTable net table → AreTrue net (edges_of table)
forward_true net table instant is strategy controls =
    listed_all table (HoldsOf net strategy) (λ edge has. law_derivable_are_true net strategy edge instant controls (is.derivable edge has))

-- ---- orders
distinct_from : (ps : List PointId) → AllPairs (λ p q. p.0 ≢ q.0) ps → IsDistinct same_point ps
unfolding IsDistinct
distinct_from [] apart = tt
distinct_from (p ∷ ps) apart = (later ps (λ k d inside. apart 0 (suc k) d (omega arith) (omega (arith, inside))), distinct_from ps (λ i j d less inside. apart (suc i) (suc j) d (omega (arith, less)) (omega (arith, inside))))
  where
    later : (qs : List PointId) → ((k : ℕ) (d : PointId) → k < length qs → p.0 ≢ (get_or qs k d).0) → AllByRecursion (λ q. same_point p q ≡ false) qs
    later [] each = tt
    later (q ∷ qs) each = (ne_eqb p.0 q.0 (each 0 q (omega arith)), later qs (λ k d inside. each (suc k) d (omega (arith, inside))))

-- the order of a table is one of the list of its edges
pub order_of_edges : (net : Plan) (table : Graph) (order : List PointId) → IsFor net table → table_orders.IsOrder table order → IsOrder net (edges_of table) order
order_of_edges net table order for ordered =
    let count : table.shape.points ≡ length net.points = ap (λ (shape : Shape). shape.points) for in
    record {
      complete = λ point is_point. ordered.whole point (omega (arith, count, is_point));
      once = distinct_from order ordered.once;
      descends = λ edge later earlier among negative at_later at_earlier.
          descends edge.from edge.to edge.label edge.weight later earlier (listed_edge table edge among) negative at_later at_earlier;
    }
  where
    descends : (from to : PointId) (label : Option LinkId) (w : ℤ) (later earlier : ℕ) → HasEdge table (record { from = from; to = to; label = label; weight = w })
        → IsNegativeOrdinary (record { from = from; to = to; label = label; weight = w }) → slice_get order later ≡ Some from → slice_get order earlier ≡ Some to → earlier < later
    descends from to (Some label) w later earlier has negative at_later at_earlier = absurd (true≢false (sym negative.0))
    descends from to None w later earlier has negative at_later at_earlier =
        elim (cases_lt earlier later) [
          | inl less ↦ less
          | inr not_less ↦
              (let inside : earlier < length order = slice_get_within order earlier to at_earlier in
              let stays : goes table (get_or order later from) (get_or order earlier from) ≡ false = ordered.descends later earlier from not_less inside in
              let gone : goes table from to ≡ false = sym (λ i. goes table (get_or_from_slice_get order later from from at_later i) (get_or_from_slice_get order earlier to from at_earlier i)) ∙ stays in
              let runs : goes table from to ≡ true = ap (λ (o : Option ℤ). option_map_or (λ (weight : ℤ). int_lt weight (pos 0)) o false) has ∙ negative.1 in
              absurd (true≢false (sym runs ∙ gone)))
        ]

-- ---- strategies
pub law_ordered_forward_tables_are_controllable : OrderedForwardTablesAreControllable
law_ordered_forward_tables_are_controllable net table order is =
    let list = law_forward_tables_are_forward_lists net table is.instant.sound is.forward in
    let (strategy, controls, dispatches) = law_forward_lists_give_strategies net (edges_of table) order is.instant list (order_of_edges net table order is.forward.for_network is.ordered) in
    (strategy, controls)

earliest_if : (net : Plan) (table : Graph) (order : List PointId) (situation schedule : List ℕ) → IsDispatchedForward net table order → IsSituation net situation → IsDispatched net (edges_of table) situation schedule
    → IsEarliest net situation schedule
earliest_if net table order situation schedule is is_situation dispatched =
    law_dispatched_are_earliest net (edges_of table) order situation schedule is.instant (law_forward_tables_are_forward_lists net table is.instant.sound is.forward)
    (order_of_edges net table order is.forward.for_network is.ordered) (forward_true net table is.instant is.forward) is_situation dispatched

pub law_forward_tables_dispatch_earliest : ForwardTablesDispatchEarliest
law_forward_tables_dispatch_earliest net table order situation schedule is is_situation = (
  λ earliest.
      let list = law_forward_tables_are_forward_lists net table is.instant.sound is.forward in
      let (made, dispatched) = law_dispatched_exist net (edges_of table) order situation is.instant list (order_of_edges net table order is.forward.for_network is.ordered) is_situation in
      let same : made ≡ schedule = law_at_most_one_earliest net situation made schedule (earliest_if net table order situation made is is_situation dispatched) earliest in
      subst (IsDispatched net (edges_of table) situation) same dispatched,
  earliest_if net table order situation schedule is is_situation,
)

pub law_forward_tables_dispatch_alike : ForwardTablesDispatchAlike
law_forward_tables_dispatch_alike net one two one_order two_order situation schedule is_one is_two is_situation dispatched =
    (law_forward_tables_dispatch_earliest net two two_order situation schedule is_two is_situation).0
    (earliest_if net one one_order situation schedule is_one is_situation dispatched)
