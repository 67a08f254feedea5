-- The reference rounds (Morris and Muscettola 2005, in this project's form): before each the order of the table is sought; if it is a cycle
-- they end with it, and if nothing improves in a round the table is closed. They may start from whatever stands on the network. No worker,
-- store or edit occurs here.
use Rattle.std.specs.Prelude.{◌≡◌, ◌≢◌, ◌==◌, ◌+◌, ℕ, suc, List, [], ◌∷◌, map, Some, None}
use Rattle.std.specs.List.{AllZip, position_or_len}
use Rattle.net_model.specs.Network.{Plan, IsPlan}
use Rattle.net_model.specs.declared.ids.PointId.{PointId}
use Rattle.closure_model.specs.Closure.{IsClosure}
use Rattle.closure_model.specs.Derivations.{Support, StandsOn, base_support, IsNodeOf, AreAncestors}
use Rattle.closure_model.specs.Keys.{Key, ordinary_key}
use Rattle.closure_model.specs.Orders.{lowest_unplaced, placed_points, cycle_from}
use Rattle.closure_model.specs.ReferenceRound.{round_made, after_round}
use Rattle.closure_model.specs.Tables.{IsAtMost}
use Rattle.closure_model.specs.declared.derivation.Node.{Node}
use Rattle.closure_model.specs.declared.derivation.NodeId.{NodeId}

-- how rounds end: with a closed table and its order, or with a cycle
pub data Ending : Type 0 where
  closed : List PointId → Ending
  looped : List PointId → Ending

-- the rounds from what supports a table: how many are made, the last one without a change included, what supports the table then,
-- and how they end
pub data RoundsEnd (net : Plan) : Support → ℕ → Support → Ending → Type 0 where
  in_cycle : (support : Support) (first : PointId) → lowest_unplaced support.table ≡ Some first
      → RoundsEnd net support 0 support (looped (cycle_from support.table first))
  in_order : (support : Support) → lowest_unplaced support.table ≡ None → round_made net support.table ≡ []
      → RoundsEnd net support 1 support (closed (placed_points support.table))
  after_one : (support after : Support) (rounds : ℕ) (ending : Ending) → lowest_unplaced support.table ≡ None → round_made net support.table ≢ []
      → RoundsEnd net (after_round net support) rounds after ending → RoundsEnd net support (suc rounds) after ending

-- the keys of the edges of a cycle: from each point to the next, and from the last to the first
abbrev pub keys_from : PointId → PointId → List PointId → List Key
keys_from first last [] = ordinary_key last first ∷ []
keys_from first last (next ∷ points) = ordinary_key last next ∷ keys_from first next points

-- the keys of the edges of a cycle of points
abbrev pub cycle_keys : List PointId → List Key
cycle_keys [] = []
cycle_keys (first ∷ points) = keys_from first first points

-- the number of a line: lines are counted from 1
abbrev pub line_of : List NodeId → NodeId → ℕ
line_of lines id = position_or_len (λ (line : NodeId). line.0 == id.0) lines + 1

-- the refutation by a cycle: its lines are the nodes of the cycle's edges and all nodes on which they rest, in order of making, and
-- its walk are the numbers of the lines of the cycle's edges, in order
pub record IsRefutationBy (nodes : List Node) (cycle : List PointId) (lines : List NodeId) (walk : List ℕ) : Type 0 where
  pub steps : List NodeId
  pub of_cycle : AllZip (IsNodeOf nodes) (cycle_keys cycle) steps
  pub under : AreAncestors nodes steps lines
  pub numbered : walk ≡ map (line_of lines) steps

-- the refutation of a network: the rounds from its base nodes and its base table end in a cycle, which refutes it
pub record IsRefutationOf (net : Plan) (nodes : List Node) (lines : List NodeId) (walk : List ℕ) : Type 0 where
  pub rounds : ℕ
  pub after : Support
  pub cycle : List PointId
  pub ends : RoundsEnd net (base_support net) rounds after (looped cycle)
  pub list : nodes ≡ after.nodes
  pub by_cycle : IsRefutationBy nodes cycle lines walk

-- Rounds end in one way.
abbrev pub RoundsEndInOneWay : Type 0
RoundsEndInOneWay =
    (net : Plan) (start one two : Support) (n m : ℕ) (ending other : Ending) → RoundsEnd net start n one ending → RoundsEnd net start m two other
    → (n ≡ m) × (one ≡ two) × (ending ≡ other)

-- A round keeps what stands on a network standing on it, and no weight of its table rises.
abbrev pub RoundsKeepStanding : Type 0
RoundsKeepStanding = (net : Plan) (support : Support) → IsPlan net → StandsOn net support
    → StandsOn net (after_round net support) × IsAtMost (after_round net support).table support.table

-- Rounds that close give the closure.
abbrev pub RoundsThatCloseGiveTheClosure : Type 0
RoundsThatCloseGiveTheClosure =
    (net : Plan) (start after : Support) (rounds : ℕ) (order : List PointId) → IsPlan net → StandsOn net start
    → RoundsEnd net start rounds after (closed order) → IsClosure net after.table

-- Whatever rounds make stands on the network, and no weight rises.
abbrev pub RoundsStand : Type 0
RoundsStand = (net : Plan) (start after : Support) (rounds : ℕ) (ending : Ending) → IsPlan net → StandsOn net start → RoundsEnd net start rounds after ending
    → StandsOn net after × IsAtMost after.table start.table
