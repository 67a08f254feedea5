-- Closed walks of negative total over given edges (Ford 1956, Bellman 1958).
use Rattle.std.specs.Prelude.{List}
use Rattle.std.specs.List.{All, Contains}
use Rattle.net_model.specs.declared.part.Edge.{Edge}
use Rattle.strategy_model.specs.Edges.{IsNegativeLoop}

-- some of the edges are a closed walk of negative total
abbrev pub HasNegativeLoop : List Edge → Type 0
HasNegativeLoop edges = (walk : List Edge) × All (Contains edges) walk × IsNegativeLoop walk
