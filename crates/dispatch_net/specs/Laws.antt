-- What the dispatchable network of a table has, and what its executions are.
use Rattle.std.specs.Prelude.{◌≡◌, ℕ, ℤ, pos, ◌<ℤ◌, ◌-ℤ◌, ◌↔◌, ◌<◌, List, Some, None}
use Rattle.std.specs.List.{AllPairs, Contains}
use Rattle.net_model.specs.Network.{Plan, IsPlan, IsPoint, IsContingent, IsExecutable}
use Rattle.net_model.specs.declared.ids.PointId.{PointId}
use Rattle.net_model.specs.declared.ids.LinkId.{LinkId}
use Rattle.net_model.specs.declared.part.Link.{Link}
use Rattle.closure_model.specs.Tables.{Graph, HasEdge, edges_of, IsFor, IsGraph, IsForwardClosed}
use Rattle.closure_model.specs.Orders as table_orders
use Rattle.closure_model.specs.Closure.{IsClosure, IsForwardTable}
use Rattle.strategy_model.specs.Situations.{IsSituation}
use Rattle.strategy_model.specs.Plays.{play, IsInstant}
use Rattle.strategy_model.specs.Control.{Controls, IsEarliest}
use Rattle.strategy_model.specs.Dispatch.{IsDispatched}
use Rattle.strategy_model.specs.declared.tree.Tree.{Tree}
use Rattle.closure_laws.specs.Forward.{IsDispatchedForward}
use Rattle.dispatch_net.specs.declared.dispatch.Conditions.{Conditions}
use Rattle.dispatch_net.specs.Dispatchable.{MayDispatch, no_conditions, dispatchable, conditions_at}
use Rattle.dispatch_net.specs.Execution.{IsExecutedBy, ExecutionSatisfies}
use Rattle.dispatch_net.specs.Ranked.{IsDispatchTable}
use Rattle.dispatch_net.specs.Slim.{slimmed}

-- the executions of the dispatchable network are the schedules of lower bounds and waits of the table's edges
abbrev pub ExecutionsAreDispatched : Type 0
ExecutionsAreDispatched =
    (net : Plan) (table : Graph) (situation schedule : List ℕ) → IsFor net table → IsGraph table
    → (IsExecutedBy net (dispatchable net table) situation schedule ↔ IsDispatched net (edges_of table) situation schedule)

-- that of a forward closed table with an order is executed in every situation, and each execution satisfies the network
abbrev pub ExecutionsSatisfy : Type 0
ExecutionsSatisfy =
    (net : Plan) (table : Graph) (order : List PointId) → IsInstant net → IsFor net table → IsGraph table → IsForwardClosed net table
    → table_orders.IsOrder table order → ExecutionSatisfies net (dispatchable net table)

-- and a strategy that controls the network plays the execution in every situation
abbrev pub ExecutionsArePlayed : Type 0
ExecutionsArePlayed =
    (net : Plan) (table : Graph) (order : List PointId) → IsInstant net → IsFor net table → IsGraph table → IsForwardClosed net table
    → table_orders.IsOrder table order → (strategy : Tree) × Controls strategy net
    × ((situation : List ℕ) → IsSituation net situation
    → (schedule : List ℕ) × (play strategy net situation ≡ Some schedule) × IsExecutedBy net (dispatchable net table) situation schedule)

-- the lower bounds and waits of an executable point are exactly the negative edges that the table has from it, each once and in
-- order of number
pub record AreExact (table : Graph) (point : PointId) (conditions : Conditions) : Type 0 where
  pub bounds : (other : PointId) (n : ℤ) → Contains conditions.lower_bounds (other, n) ↔ (pos 0 <ℤ n)
      × HasEdge table (record { from = point; to = other; label = None; weight = pos 0 -ℤ n })
  pub waits : (link : LinkId) (n : ℤ) → Contains conditions.waits (link, n)
      ↔ (pos 0 <ℤ n) × ((activation : PointId) × HasEdge table (record { from = point; to = activation; label = Some link; weight = pos 0 -ℤ n }))
  pub bounds_rise : AllPairs (λ b c. b.0.0 < c.0.0) conditions.lower_bounds
  pub waits_rise : AllPairs (λ v w. v.0.0 < w.0.0) conditions.waits

-- the dispatchable network of a table has exactly its negative edges from executable points, and nothing for contingent points
abbrev pub ListsAreExact : Type 0
ListsAreExact =
    (net : Plan) (table : Graph) (point : PointId) → IsFor net table → IsGraph table → IsPoint net point
    → (IsExecutable net point → AreExact table point (conditions_at (dispatchable net table) point))
    × (IsContingent net point → conditions_at (dispatchable net table) point ≡ no_conditions)

-- a network may be dispatched by a forward closed table of its derivable edges in an order of it
abbrev pub ForwardTablesMayDispatch : Type 0
ForwardTablesMayDispatch =
    (net : Plan) (table : Graph) (order : List PointId) → IsPlan net → IsForwardTable net table → table_orders.IsOrder table order
    → MayDispatch net table order

-- and so by its closure
abbrev pub ClosuresMayDispatch : Type 0
ClosuresMayDispatch =
    (net : Plan) (table : Graph) (order : List PointId) → IsPlan net → IsClosure net table → table_orders.IsOrder table order → MayDispatch net table order

-- by such a table a schedule is the earliest of a situation exactly if it is the execution
abbrev pub ForwardTablesExecuteEarliest : Type 0
ForwardTablesExecuteEarliest =
    (net : Plan) (table : Graph) (order : List PointId) (situation schedule : List ℕ) → IsDispatchedForward net table order → IsGraph table
    → IsSituation net situation
    → (IsEarliest net situation schedule ↔ IsExecutedBy net (dispatchable net table) situation schedule)

-- by a forward closed table's lists without those that others imply, the same schedules are executed
abbrev pub SlimExecutionsAreTheSame : Type 0
SlimExecutionsAreTheSame =
    (net : Plan) (table : Graph) (order : List PointId) (situation schedule : List ℕ) → IsDispatchTable net table order → IsSituation net situation
    → (IsExecutedBy net (slimmed net.links (dispatchable net table)) situation schedule ↔ IsExecutedBy net (dispatchable net table) situation schedule)

-- what was kept once is kept again
abbrev pub SlimStaysSlim : Type 0
SlimStaysSlim = (links : List Link) (made : List Conditions) → slimmed links (slimmed links made) ≡ slimmed links made
