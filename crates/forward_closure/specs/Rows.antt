-- Rows of derivable edges: the row of a point has the edges that end in it.
use Rattle.std.specs.Prelude.{◌<◌, ◌≤ℤ◌, ℕ, pos, List, length, None, Vec, slice_index_or}
use Rattle.std.specs.declared.alloc.Global.{Global}
use Rattle.std.specs.List.{All}
use Rattle.net_model.specs.Network.{Plan}
use Rattle.net_model.specs.declared.ids.PointId.{PointId}
use Rattle.net_model.specs.declared.part.Edge.{Edge}
use Rattle.closure_model.specs.Derivable.{IsDerivable}
use Rattle.forward_closure.specs.Sources.{edge_from}
use Rattle.forward_closure.specs.declared.open_row.RowEdge.{RowEdge}
use Rattle.forward_closure.specs.declared.source.Source.{Source}

-- an edge of the row of a point: it ends there
abbrev pub row_edge_into : PointId → RowEdge → Edge
row_edge_into to edge = record { from = edge.from; to = to; label = edge.label; weight = edge.weight }

-- the edges of the row of a point are all derivable
abbrev pub AreDerivedInto : Plan → PointId → List RowEdge → Type 0
AreDerivedInto net to edges = All (λ edge. IsDerivable net (row_edge_into to edge)) edges

-- a first edge of the row of a point: an ordinary edge that is derivable, and not negative
pub record IsFirstInto (net : Plan) (to : PointId) (first : Source) : Type 0 where
  pub derivable : IsDerivable net (edge_from first to None)
  pub not_negative : pos 0 ≤ℤ first.weight

-- lists of first edges, that of each point by its number
abbrev pub AreFirstEdges : Plan → List (Vec Source Global) → Type 0
AreFirstEdges net lists = (k : ℕ) (d : Vec Source Global) → k < length lists → All (IsFirstInto net (record { 0 = k })) (slice_index_or lists k d).items

-- a row in progress as contracts see it: its network, and the point in which its edges end
pub record RowOf : Type 0 where
  pub net : Plan
  pub target : PointId
