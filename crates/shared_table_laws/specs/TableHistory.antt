-- The histories of a table that several workers share: steps of any workers, in any order.
use Rattle.std.specs.Prelude.{◌≡◌, ◌==◌, ◌⊎◌, ℕ, ◌<ℤ◌, List, [], ◌∷◌, ◌++◌, map, filter}
use Rattle.std.specs.List.{All}
use Rattle.net_model.specs.Network.{Plan, IsPlan}
use Rattle.net_model.specs.Rules.{Follows}
use Rattle.net_model.specs.declared.ids.PointId.{PointId}
use Rattle.net_model.specs.declared.part.Edge.{Edge}
use Rattle.closure_model.specs.Closure.{IsClosure, HoldsDerivable}
use Rattle.closure_model.specs.Derivable.{IsDerivable}
use Rattle.closure_model.specs.Derivations.{Support, StandsOn, edges_of_nodes}
use Rattle.closure_model.specs.Keys.{key_of}
use Rattle.closure_model.specs.ReferenceRow.{IsBelow}
use Rattle.closure_model.specs.ReferenceRounds.{Ending, closed, RoundsEnd}
use Rattle.closure_model.specs.Tables.{Graph, HasEdge, lowered, IsFor, IsClosed}
use Rattle.closure_model.specs.declared.derivation.Node.{Node}

-- a worker read the weight that a key had at that step
pub record Read : Type 0 where
  pub worker : ℕ
  pub edge : Edge

-- what happened to a table: how it stands, what the workers read, and which edges were relaxed in it, in their order
pub record Past : Type 0 where
  pub table : Graph
  pub read : List Read
  pub relaxed : List Edge

-- the edges that a worker read, at whatever earlier step
abbrev pub edges_read_by : ℕ → List Read → List Edge
edges_read_by worker read = map (λ (one : Read). one.edge) (filter (λ (one : Read). one.worker == worker) read)

-- an edge is that of a bound or of a link, or a rule gives it from edges that the worker read
abbrev pub FollowsFromRead : Plan → ℕ → List Read → Edge → Type 0
FollowsFromRead net worker read edge = Follows net (edges_read_by worker read) edge

-- what a worker may relax: an edge that follows from what it read, or another edge whose weight is derivable for its key
abbrev pub MayRelax : Plan → ℕ → List Read → Edge → Type 0
MayRelax net worker read edge = FollowsFromRead net worker read edge ⊎ IsDerivable net edge

-- A history from a first table, in which workers relax only certain edges. A read step gives a worker the weight that a key has at that
-- step, and the worker may use it at any later time. A lower step relaxes an edge, whose key takes the edge's weight if it has none or a
-- greater one.
pub data TableHistory (Relaxes : ℕ → List Read → Edge → Type 0) (first : Graph) : Past → Type 0 where
  begins : (past : Past) → past ≡ record { table = first; read = []; relaxed = [] } → TableHistory Relaxes first past
  reads : (before past : Past) (worker : ℕ) (edge : Edge) → TableHistory Relaxes first before → HasEdge before.table edge
      → past ≡ record before { read = before.read ++ record { worker = worker; edge = edge } ∷ [] } → TableHistory Relaxes first past
  lowers : (before past : Past) (worker : ℕ) (edge : Edge) → TableHistory Relaxes first before → Relaxes worker before.read edge
      → past ≡ record before { table = lowered before.table edge; relaxed = before.relaxed ++ edge ∷ [] } → TableHistory Relaxes first past

-- a history is settled: no rule, those of bounds and links among them, gives from the final weights one for a key that is absent at the
-- end, or one below its final weight
abbrev pub IsSettled : Plan → Past → Type 0
IsSettled net past = IsClosed net past.table

-- If the first table holds derivable edges only, so does the table of every history, and what was read is derivable.
abbrev pub HistoriesAreDerivable : Type 0
HistoriesAreDerivable =
    (net : Plan) (first : Graph) (past : Past) → HoldsDerivable net first → TableHistory (MayRelax net) first past
    → HoldsDerivable net past.table × All (λ (one : Read). IsDerivable net one.edge) past.read

-- If the first table is for the network too, the final table of every settled history is the closure, whatever was read early or late.
abbrev pub SettledHistoriesGiveTheClosure : Type 0
SettledHistoriesGiveTheClosure =
    (net : Plan) (first : Graph) (past : Past) → IsFor net first → HoldsDerivable net first → TableHistory (MayRelax net) first past → IsSettled net past
    → IsClosure net past.table

-- a row's worker, which has the number of the row's target, relaxes edges of its row that follow from what it read
abbrev pub RelaxesInRow : Plan → ℕ → List Read → Edge → Type 0
RelaxesInRow net worker read edge = (worker ≡ edge.to.0) × FollowsFromRead net worker read edge

-- each edge lowers its key in the table into which those before it have come
abbrev pub LowerInTurn : Graph → List Edge → Type 0
LowerInTurn table [] = Unit {0}
LowerInTurn table (edge ∷ edges) = IsBelow table edge × LowerInTurn (lowered table edge) edges

-- Rounds are a history of the table from which they start, in which a worker for each row reads and relaxes: the edges of the new nodes are
-- relaxed in the order of the list, each follows from what the worker of its row read, and each lowers its key.
pub record AreHistory (net : Plan) (before after : Support) : Type 0 where
  pub nodes : List Node
  pub read : List Read
  pub more : after.nodes ≡ before.nodes ++ nodes
  pub history : TableHistory (RelaxesInRow net) before.table (record { table = after.table; read = read; relaxed = edges_of_nodes nodes })
  pub lower : LowerInTurn before.table (edges_of_nodes nodes)

-- however the rounds from what stands on a network end, they are a history
abbrev pub RoundsAreHistories : Type 0
RoundsAreHistories =
    (net : Plan) (before after : Support) (rounds : ℕ) (ending : Ending) → IsPlan net → StandsOn net before → RoundsEnd net before rounds after ending
    → AreHistory net before after

-- a settled history from a first table ends in a table
pub record SettlesIn (net : Plan) (first table : Graph) : Type 0 where
  pub past : Past
  pub history : TableHistory (MayRelax net) first past
  pub settled : IsSettled net past
  pub is : past.table ≡ table

-- Rounds that close are a settled history of the table from which they start.
abbrev pub RoundsThatCloseSettle : Type 0
RoundsThatCloseSettle =
    (net : Plan) (before after : Support) (rounds : ℕ) (order : List PointId) → IsPlan net → StandsOn net before
    → RoundsEnd net before rounds after (closed order) → SettlesIn net before.table after.table

-- a stale read is used: a worker read an edge, and nothing else was read; then the key of the edge was lowered; and what follows from the
-- edge that was read is relaxed
pub record UsesStaleRead (net : Plan) (first : Graph) (worker : ℕ) (old new edge : Edge) : Type 0 where
  pub past : Past
  pub before : TableHistory (FollowsFromRead net) first past
  pub read : past.read ≡ record { worker = worker; edge = old } ∷ []
  pub now : HasEdge past.table new
  pub after : TableHistory (FollowsFromRead net) first (record past { table = lowered past.table edge; relaxed = past.relaxed ++ edge ∷ [] })

-- A worker may use a weight that its key no longer has: if a bound or a link gives a lesser weight for the key of an edge of the first
-- table, in some history what follows from the greater weight is relaxed when the key has the lesser one.
abbrev pub StaleReadsMayBeUsed : Type 0
StaleReadsMayBeUsed =
    (net : Plan) (first : Graph) (worker : ℕ) (old new edge : Edge) → HasEdge first old → Follows net [] new → key_of new ≡ key_of old
    → new.weight <ℤ old.weight
    → Follows net (old ∷ []) edge → UsesStaleRead net first worker old new edge
