-- The situation in which every link takes its longest duration, and what holds in each schedule of it (the distance graph of one
-- situation: Dechter, Meiri and Pearl 1991; that it is this one is this project's own choice).
use Rattle.std.specs.Prelude.{◌≡◌, ℕ, pos, ◌+ℤ◌, List}
use Rattle.std.specs.List.{All}
use Rattle.net_model.specs.Network.{Plan}
use Rattle.net_model.specs.declared.part.Edge.{Edge}
use Rattle.net_model.specs.declared.part.Link.{Link}
use Rattle.strategy_model.specs.Situations.{Keeps, moment_in}
use Rattle.strategy_model.specs.Edges.{HoldsIn}

-- in a schedule a link takes its longest duration
abbrev pub LastsLongest : List ℕ → Link → Type 0
LastsLongest schedule link = pos (moment_in schedule link.to) ≡ pos (moment_in schedule link.from) +ℤ link.high

-- a schedule keeps the bounds of a network, and in it each link takes its longest duration
pub record IsKeptAtLongest (net : Plan) (schedule : List ℕ) : Type 0 where
  pub keeps : All (Keeps schedule) net.bounds
  pub lasting : All (LastsLongest schedule) net.links

-- an edge holds in each such schedule
abbrev pub HoldsAtLongest : Plan → Edge → Type 0
HoldsAtLongest net edge = (schedule : List ℕ) → IsKeptAtLongest net schedule → HoldsIn schedule edge
