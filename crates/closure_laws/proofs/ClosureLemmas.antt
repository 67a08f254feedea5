-- Derivable edges are true, and the edges of closed tables and closures are closed lists.
use Rattle.std.proofs.Common.{◌≡◌, List, ℕ, ℤ, ◌≤ℤ◌, [], ◌∷◌, Option, Some, None, map, refl, ap, sym, ◌∙◌, subst, arith}
use Rattle.std.specs.Prelude.{slice_get, IsSomeAnd}
use Rattle.std.specs.List.{All, Contains}
use Rattle.std.specs.Option.{option_map}
use Rattle.std.proofs.lemmas.List.Elements.{All-from_recursion, recursion_from_All, All-weaker, All-contains_itself}
use Rattle.std.proofs.lemmas.Option.{none-some, same_Some, slice_get-map, MatchOption-at_some}
use Rattle.net_model.specs.Network.{Plan}
use Rattle.net_model.specs.Edges.{IsEdge, IsLabelled, IsLinkOf}
use Rattle.net_model.specs.Rules as exact
use Rattle.net_model.specs.Rules.{Follows}
use Rattle.net_model.specs.declared.ids.PointId.{PointId}
use Rattle.net_model.specs.declared.ids.LinkId.{LinkId}
use Rattle.net_model.specs.declared.part.Edge.{Edge}
use Rattle.net_model.specs.declared.part.Link.{Link}
use Rattle.closure_model.specs.Keys.{key_of, edge_of, Shape, shape_of, IsKey, IsLabelAt}
use Rattle.closure_model.specs.Tables.{Graph, HasEdge, HasAtMost, edges_of, weight_of, IsFor, IsGraph}
use Rattle.closure_model.specs.Derivable.{IsDerivable, IsDerivableFor, IsLeastDerivable, by_bound, by_link, by_no_case, by_upper_case, by_lower_case, by_cross_case, by_removal}
use Rattle.closure_model.specs.Closure.{IsClosure, HoldsDerivable}
use Rattle.closure_model.proofs.LawProofs.{law_derivable_are_edges, law_closure_is_closed}
use Rattle.closure_model.proofs.TableLemmas.{edge_listed, listed_edge}
use Rattle.strategy_model.specs.Plays.{IsInstant}
use Rattle.strategy_model.specs.Control.{Controls, IsEarliest}
use Rattle.strategy_model.specs.Edges.{HoldsOf}
use Rattle.strategy_model.specs.Dispatch.{Stands, IsOrder, IsDispatched}
use Rattle.strategy_model.specs.DispatchLaws.{AreTrue}
use Rattle.strategy_model.specs.declared.tree.Tree.{Tree}
use Rattle.strategy_model.proofs.ExactLemmas.{law_exact_rules_keep_truth, cycle_is_loop}
use Rattle.strategy_model.proofs.LoopLemmas.{law_loops_exclude_strategies}
use Rattle.strategy_model.proofs.ClosedLemmas.{law_closed_lists_are_forward_closed}
use Rattle.strategy_model.proofs.CompletenessLemmas.{law_closed_lists_decide}
use Rattle.strategy_model.specs.Situations.{IsSituation}
use Rattle.strategy_model.proofs.AheadLemmas.{law_dispatched_are_earliest}
use Rattle.strategy_model.proofs.EarliestLemmas.{law_at_most_one_earliest}
use Rattle.strategy_model.proofs.LowerLemmas.{law_dispatched_exist}
use Rattle.closure_laws.specs.Laws.{DerivableAreTrue, DerivableCyclesExclude, ClosedTablesAreClosedLists, ClosuresAreClosedLists, ClosuresDecide, ClosuresDispatchEarliest}

-- what follows from derivable edges that are true is true
module _ (net : Plan) (strategy : Tree) (instant : IsInstant net) (controls : Controls strategy net) where
  from_one : (premise edge : Edge) → IsDerivable net premise → HoldsOf net strategy premise → Follows net (premise ∷ []) edge → HoldsOf net strategy edge
  from_one premise edge derived holds follows =
      law_exact_rules_keep_truth net strategy (premise ∷ []) edge instant controls (All-from_recursion (IsEdge net) (premise ∷ []) (law_derivable_are_edges net premise instant.sound derived, tt))
      (All-from_recursion (HoldsOf net strategy) (premise ∷ []) (holds, tt)) follows

  from_two : (first second edge : Edge) → IsDerivable net first → IsDerivable net second → HoldsOf net strategy first → HoldsOf net strategy second → Follows net (first ∷ second ∷ []) edge → HoldsOf net strategy edge
  from_two first second edge one two holds_first holds_second follows =
      law_exact_rules_keep_truth net strategy (first ∷ second ∷ []) edge instant controls (All-from_recursion (IsEdge net) (first ∷ second ∷ [])
      (law_derivable_are_edges net first instant.sound one, (law_derivable_are_edges net second instant.sound two, tt))) (All-from_recursion (HoldsOf net strategy) (first ∷ second ∷ []) (holds_first, (holds_second, tt))) follows

  from_none : (edge : Edge) → Follows net [] edge → HoldsOf net strategy edge
  from_none edge follows =
      law_exact_rules_keep_truth net strategy [] edge instant controls (All-from_recursion (IsEdge net) [] tt) (All-from_recursion (HoldsOf net strategy) [] tt) follows

  derived_is_true : (edge : Edge) → IsDerivable net edge → HoldsOf net strategy edge
  derived_is_true edge (by_bound place bound e declared is) = from_none edge (exact.by_bound place bound declared is)
  derived_is_true edge (by_link name link e declared is) = from_none edge (exact.by_link name link declared is)
  derived_is_true edge (by_no_case first second e one two gave) =
      from_two first second edge one two (derived_is_true first one) (derived_is_true second two) (exact.by_no_case first second (0, omega arith, refl) (1, omega arith, refl) gave)
  derived_is_true edge (by_upper_case first second e one two gave) =
      from_two first second edge one two (derived_is_true first one) (derived_is_true second two) (exact.by_upper_case first second (0, omega arith, refl) (1, omega arith, refl) gave)
  derived_is_true edge (by_lower_case name second e one gave) =
      from_one second edge one (derived_is_true second one) (exact.by_lower_case name second (0, omega arith, refl) gave)
  derived_is_true edge (by_cross_case name second e one gave) =
      from_one second edge one (derived_is_true second one) (exact.by_cross_case name second (0, omega arith, refl) gave)
  derived_is_true edge (by_removal premise e one gave) =
      from_one premise edge one (derived_is_true premise one) (exact.by_removal premise (0, omega arith, refl) gave)

pub law_derivable_are_true : DerivableAreTrue
law_derivable_are_true net strategy edge instant controls derived = derived_is_true net strategy instant controls edge derived

pub law_derivable_cycles_exclude : DerivableCyclesExclude
law_derivable_cycles_exclude net cycle instant derived negative controllable =
    let (strategy, controls) = controllable in
    law_loops_exclude_strategies net strategy cycle instant (recursion_from_All (HoldsOf net strategy) cycle
    (All-weaker (IsDerivable net) (HoldsOf net strategy) (λ edge its. derived_is_true net strategy instant controls edge its) cycle derived)) (cycle_is_loop cycle negative) controls

-- ---- tables as lists
-- what a table has at most stands in the list of its edges
pub stands_in : (table : Graph) (edge : Edge) → HasAtMost table edge → Stands (edges_of table) edge
stands_in table edge has = by (weight_of table (key_of edge)) refl has
  where
    by : (o : Option ℤ) → weight_of table (key_of edge) ≡ o → IsSomeAnd o (λ weight. weight ≤ℤ edge.weight) → Stands (edges_of table) edge
    by None none at_most = absurd at_most
    by (Some weight) some at_most =
        record {
          entry = edge_of (key_of edge) weight;
          among = edge_listed table (edge_of (key_of edge) weight) some;
          from = refl;
          to = refl;
          label = refl;
          at_most = at_most;
        }

label_at : (net : Plan) (edge : Edge) (label : Option LinkId) → IsLabelAt (shape_of net) edge.to label → IsLabelled net edge label
label_at net edge None labelled = tt
label_at net edge (Some label) labelled = by (slice_get net.links label.0) refl
  where
    begins : slice_get (map (λ (link : Link). link.from) net.links) label.0 ≡ option_map (λ (link : Link). link.from) (slice_get net.links label.0)
    begins = slice_get-map (λ (link : Link). link.from) net.links label.0

    by : (o : Option Link) → slice_get net.links label.0 ≡ o → (link : Link) × IsLinkOf net label link × (edge.to ≡ link.from)
    by None none =
        absurd (none-some edge.to (sym (begins ∙ ap (option_map (λ (link : Link). link.from)) none) ∙ labelled))
    by (Some link) declared =
        (link, declared, same_Some edge.to link.from (sym labelled ∙ begins ∙ ap (option_map (λ (link : Link). link.from)) declared))

-- an edge of a sound table of a network is an edge of the network
pub edge_of_table : (net : Plan) (table : Graph) → IsFor net table → IsGraph table → (edge : Edge) → HasEdge table edge → IsEdge net edge
edge_of_table net table for sound edge has =
    let key : IsKey (shape_of net) (key_of edge) = subst (λ (shape : Shape). IsKey shape (key_of edge)) for (sound.keys edge has) in
    record { from_point = key.from_point; to_point = key.to_point; labelled = label_at net edge edge.label key.labelled }

pub listed_all : (table : Graph) (P : Edge → Type 0) → ((edge : Edge) → HasEdge table edge → P edge) → All P (edges_of table)
listed_all table P each =
    All-weaker (Contains (edges_of table)) P (λ edge among. each edge (listed_edge table edge among)) (edges_of table) (All-contains_itself (edges_of table))

pub law_closed_tables_are_closed_lists : ClosedTablesAreClosedLists
law_closed_tables_are_closed_lists net table for sound closed =
    record {
      edges_sound = listed_all table (IsEdge net) (edge_of_table net table for sound);
      closed = λ edge follows. stands_in table edge (closed edge follows);
    }

-- every edge of a closure is derivable
pub closure_derivable : (net : Plan) (table : Graph) → IsClosure net table → HoldsDerivable net table
closure_derivable net table closure edge has =
    let key = key_of edge in
    let least : IsLeastDerivable net key edge.weight = MatchOption-at_some ((weight : ℤ) → ¬ IsDerivableFor net key weight) (IsLeastDerivable net key) edge.weight has (closure.weights key) in
    least.derivable

pub law_closures_are_closed_lists : ClosuresAreClosedLists
law_closures_are_closed_lists net table plan closure =
    record {
      edges_sound = listed_all table (IsEdge net) (λ edge has. law_derivable_are_edges net edge plan (closure_derivable net table closure edge has));
      closed = λ edge follows. stands_in table edge ((law_closure_is_closed net table closure).0 edge follows);
    }

closure_true : (net : Plan) (table : Graph) → IsInstant net → IsClosure net table → AreTrue net (edges_of table)
closure_true net table instant closure strategy controls =
    listed_all table (HoldsOf net strategy) (λ edge has. law_derivable_are_true net strategy edge instant controls (closure_derivable net table closure edge has))

pub law_closures_decide : ClosuresDecide
law_closures_decide net table instant closure =
    law_closed_lists_decide net (edges_of table) instant (law_closures_are_closed_lists net table instant.sound closure) (closure_true net table instant closure)

-- the schedule of the lower bounds and waits of the closure is the earliest
earliest_if : (net : Plan) (table : Graph) (order : List PointId) (situation schedule : List ℕ) → IsInstant net → IsClosure net table → IsOrder net (edges_of table) order → IsSituation net situation
    → IsDispatched net (edges_of table) situation schedule → IsEarliest net situation schedule
earliest_if net table order situation schedule instant closure ordered is_situation dispatched =
    law_dispatched_are_earliest net (edges_of table) order situation schedule instant
    (law_closed_lists_are_forward_closed net (edges_of table) (law_closures_are_closed_lists net table instant.sound closure)) ordered (closure_true net table instant closure) is_situation dispatched

pub law_closures_dispatch_earliest : ClosuresDispatchEarliest
law_closures_dispatch_earliest net table order situation schedule instant closure ordered is_situation = (
  λ earliest.
      let (made, dispatched) = law_dispatched_exist net (edges_of table) order situation instant
      (law_closed_lists_are_forward_closed net (edges_of table) (law_closures_are_closed_lists net table instant.sound closure)) ordered is_situation in
      let same : made ≡ schedule = law_at_most_one_earliest net situation made schedule (earliest_if net table order situation made instant closure ordered is_situation dispatched) earliest in
      subst (IsDispatched net (edges_of table) situation) same dispatched,
  earliest_if net table order situation schedule instant closure ordered is_situation,
)
