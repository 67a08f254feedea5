-- What decides whether a network without a delay is controllable.
use Rattle.std.proofs.Common.{◌≡◌, ℕ, ◌+◌, ◌*◌, ◌≤◌, length, List, Option, Some, None, sym, ap, ◌∙◌, subst}
use Rattle.std.proofs.lemmas.List.{length-map}
use Rattle.net_model.specs.Network.{Plan}
use Rattle.net_model.specs.ShownForm.{shown_form, shown_link}
use Rattle.net_model.specs.declared.ids.PointId.{PointId}
use Rattle.cell_table.specs.Limits.{key_count, most_keys}
use Rattle.closure_model.specs.Tables.{Graph}
use Rattle.closure_laws.specs.Forward.{IsDispatchedForward}
use Rattle.closure_laws.specs.Laws.{CyclesOfTablesExclude, OrderedClosuresAreControllable}
use Rattle.strategy_model.specs.Plays.{IsInstant}
use Rattle.strategy_model.specs.Control.{IsControllable}
use Rattle.dispatch_net.specs.Dispatchable.{MayDispatch}
use Rattle.dispatch_net.proofs.EarliestLemmas.{law_forward_tables_may_dispatch}
use Rattle.network_closure.specs.Saturation.{ClosesTo, HasDerivableCycle}
use Rattle.network_closure.specs.declared.closure.Closed.{Closed}
use Rattle.forward_closure.specs.Decision.{IsDecidedForward}
use Rattle.forward_closure.specs.declared.decision.ForwardClosed.{ForwardClosed}
use Rattle.verdicts.specs.Decisions.{IsDecidedBy, IsOrderedClosure, IsOrderedForwardTable}

-- a derivable cycle excludes every strategy
pub cycle_excludes : CyclesOfTablesExclude → (net : Plan) → IsInstant net → HasDerivableCycle net → ¬ IsControllable net
cycle_excludes exclude net instant found = λ controls. exclude net found.table found.cycle instant found.derivable found.is controls

-- a closure with an order decides it, and so does a derivable cycle
pub closes_decides : OrderedClosuresAreControllable → CyclesOfTablesExclude → (net : Plan) → IsInstant net → (found : Option Closed) → ClosesTo net found → IsDecidedBy IsOrderedClosure net found
closes_decides decide exclude net instant (Some closed) is = (
  decide net closed.table closed.order instant is.closure is.order,
  record { instant = instant; closure = is.closure; ordered = is.order; placed = is.placed },
)
closes_decides decide exclude net instant None found = cycle_excludes exclude net instant found

-- and so does a forward closed table with an order
pub forward_decides : (net : Plan) (found : Option ForwardClosed) → IsDecidedForward net found → IsDecidedBy IsOrderedForwardTable net found
forward_decides net (Some closed) decided = decided
forward_decides net None never = never

-- a network may be dispatched by a forward closed table with an order
pub may_dispatch : (net : Plan) (table : Graph) (order : List PointId) → IsDispatchedForward net table order → MayDispatch net table order
may_dispatch net table order is = law_forward_tables_may_dispatch net table order is.instant.sound is.forward is.ordered

-- cells into which the keys of a network fit also take those of its shown form
pub shown_fits : (net shown : Plan) → shown ≡ shown_form net → key_count net ≤ most_keys → key_count shown ≤ most_keys
shown_fits net shown is few =
    let many : key_count (shown_form net) ≡ key_count net = ap (λ (links : ℕ). (length net.points + links) * length net.points) (length-map net.links (shown_link net)) in
    subst (λ (keys : ℕ). keys ≤ most_keys) (sym (ap key_count is ∙ many)) few
