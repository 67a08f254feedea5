-- A law about the rules.
use Rattle.std.specs.Prelude.{List}
use Rattle.net_model.specs.Network.{Plan}
use Rattle.net_model.specs.Edges.{IsEdge}
use Rattle.net_model.specs.Rules as exact
use Rattle.net_model.specs.LooseRules.{FollowsLoosely}
use Rattle.net_model.specs.declared.part.Edge.{Edge}
use Rattle.std.specs.List.{AllByRecursion}

-- a certificate may state every edge that an exact rule derives from edges of the network
abbrev pub ExactMayBeStated : Type 0
ExactMayBeStated =
    (net : Plan) (earlier : List Edge) (edge : Edge) → AllByRecursion (IsEdge net) earlier → exact.Follows net earlier edge → FollowsLoosely net earlier edge
