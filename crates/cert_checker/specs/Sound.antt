-- The edges that entries state.
use Rattle.std.specs.Prelude.{◌≡◌, ◌≤◌, ℕ, true, List, unsigned_abs}
use Rattle.std.specs.List.{All}
use Rattle.net_model.specs.Limits.{most_size}
use Rattle.net_model.specs.Network.{Plan}
use Rattle.net_model.specs.Edges.{IsEdge}
use Rattle.net_model.specs.declared.part.Edge.{Edge}
use Rattle.net_model.specs.declared.part.Link.{Link}
use Rattle.cert_checker.specs.Lines.{in_range}

-- an edge of the network whose weight is within the limit
pub record IsSoundEdge (net : Plan) (edge : Edge) : Type 0 where
  pub is_edge : IsEdge net edge
  pub within : in_range edge.weight ≡ true

abbrev pub AreSound : Plan → List Edge → Type 0
AreSound net edges = All (IsSoundEdge net) edges

-- a link whose shortest duration is that of a sound network
abbrev pub IsShort : Link → Type 0
IsShort link = unsigned_abs link.low ≤ most_size

-- what the entries of a table proof state: edges of a network, of which the first has this line
pub record Stated : Type 0 where
  pub net : Plan
  pub first : ℕ
  pub edges : List Edge
