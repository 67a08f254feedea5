-- What a network settles to, beside its closure and beside what it closes to without shared cells.
use Rattle.std.specs.Prelude.{Option, Some, None, List}
use Rattle.net_model.specs.Network.{Plan}
use Rattle.net_model.specs.declared.ids.PointId.{PointId}
use Rattle.closure_model.specs.Closure.{IsClosure}
use Rattle.closure_model.specs.Orders.{IsCycle}
use Rattle.closure_model.specs.Tables.{Graph}
use Rattle.network_closure.specs.Saturation.{ClosesTo}
use Rattle.network_closure.specs.declared.closure.Closed.{Closed as ClosedTable}
use Rattle.cell_table.specs.Settlement.{IsSettledOutcome}
use Rattle.cell_table.specs.declared.settlement.Settled.{Settled}
use Rattle.cell_table.specs.declared.settlement.Settled.TheVariants.{Closed, Looped}

-- a closure has no cycle of negative ordinary edges if a network settled to it, else the cycle to which it settled
abbrev pub SettledHolds : Graph → Settled → Type 0
SettledHolds closure (Closed closed) = (cycle : List PointId) → ¬ IsCycle closure cycle
SettledHolds closure (Looped cycle) = IsCycle closure cycle

-- A network settles to its closure exactly if this has no cycle of negative ordinary edges, and else to a cycle of it.
abbrev pub SettlesExactly : Type 0
SettlesExactly = (net : Plan) (closure : Graph) (settled : Settled) → IsClosure net closure → IsSettledOutcome net settled → SettledHolds closure settled

-- the closed table to which a network settled, if it did
abbrev pub closed_of : Settled → Option ClosedTable
closed_of (Closed closed) = Some closed
closed_of (Looped cycle) = None

-- A network settles to what it closes to.
abbrev pub SettlesAsItCloses : Type 0
SettlesAsItCloses = (net : Plan) (settled : Settled) → IsSettledOutcome net settled → ClosesTo net (closed_of settled)
