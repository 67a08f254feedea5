-- What a closed table of a network, or a cycle of derivable edges, says of the strategies of the network.
use Rattle.std.specs.Prelude.{◌↔◌, Option, IsSome}
use Rattle.net_model.specs.Network.{Plan}
use Rattle.strategy_model.specs.Control.{IsControllable}
use Rattle.strategy_model.specs.Plays.{IsInstant}
use Rattle.network_closure.specs.Saturation.{ClosesTo}
use Rattle.network_closure.specs.declared.closure.Closed.{Closed}

-- A network is controllable exactly if it closes to a table with an order.
abbrev pub ClosingDecides : Type 0
ClosingDecides = (net : Plan) (closed : Option Closed) → IsInstant net → ClosesTo net closed → (IsControllable net ↔ IsSome closed)
