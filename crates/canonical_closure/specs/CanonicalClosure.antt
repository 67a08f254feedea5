-- The closure of a network as a function of it: the table to which the reference rounds come (Morris and Muscettola 2005, in this project's form).
use Rattle.std.specs.Prelude.{ℕ, zero, suc, List, length}
use Rattle.net_model.specs.Network.{Plan}
use Rattle.net_model.specs.declared.ids.PointId.{PointId}
use Rattle.closure_model.specs.Closure.{IsClosure}
use Rattle.closure_model.specs.Derivations.{Support, base_support}
use Rattle.closure_model.specs.Orders.{placed_points}
use Rattle.closure_model.specs.ReferenceRound.{after_round}
use Rattle.closure_model.specs.Tables.{Graph}
use Rattle.strategy_model.specs.Control.{IsControllable}
use Rattle.strategy_model.specs.Plays.{IsInstant}
use Rattle.closure_laws.specs.Forward.{IsDispatchedForward}

-- a network in which reaction is instantaneous, its closure and an order of it: the network is dispatched by them
pub record IsDispatchedByClosure (net : Plan) (table : Graph) (order : List PointId) : Type 0 where
  pub closure : IsClosure net table
  pub dispatched : IsDispatchedForward net table order

-- what supports a table after so many rounds more
unfoldable pub support_after : (rounds : ℕ) → Plan → Support → Support
support_after zero net support = support
support_after (suc rounds) net support = support_after rounds net (after_round net support)

-- the table after one round more than there are points, from the base of a network: more change nothing
unfoldable pub canonical_closure : Plan → Graph
canonical_closure net = (support_after (suc (length net.points)) net (base_support net)).table

-- If reaction is instantaneous, and some strategy controls the network, this is its closure, and the points that are placed are an order of it.
abbrev pub ControllableHaveCanonicalClosures : Type 0
ControllableHaveCanonicalClosures =
    (net : Plan) → IsInstant net → IsControllable net
    → IsDispatchedByClosure net (canonical_closure net) (placed_points (canonical_closure net))
