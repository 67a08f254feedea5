-- How much is left to do for a table that is relaxed depth first: each turn leaves less.
use Rattle.std.specs.Prelude.{◌≡◌, ℕ, ◌+◌, ◌^◌, ◌<◌, ◌≤◌, List, length, sum_by}
use Rattle.std.specs.BinaryHeap.{heap_len}
use Rattle.net_model.specs.Network.{Plan}
use Rattle.net_model.specs.declared.ids.PointId.{PointId}
use Rattle.net_model.specs.declared.part.Edge.{Edge}
use Rattle.closure_model.specs.Derivable.{IsDerivable}
use Rattle.closure_model.specs.Tables.{Graph}
use Rattle.closure_model.proofs.WeightMeasure.{measure}
use Rattle.network_closure.specs.declared.depth_first.Mark.{Mark}
use Rattle.network_closure.specs.declared.depth_first.Mark.TheVariants.{New, Open, Done}
use Rattle.network_closure.specs.declared.open_row.OpenRow.{OpenRow}

-- a table that is relaxed, as contracts see it: its network, what else never changes of it, and how much is left to do
pub record Progress (Place : Type 0) : Type 0 where
  pub net : Plan
  pub place : Place
  pub left : ℕ

-- what is left of a table: how far the weights of all its keys can be lowered
abbrev pub relaxing_of : Plan → Graph → Progress (Unit {0})
relaxing_of net table = record { net = net; place = tt; left = measure net table }

-- an edge of the row of a point: it is derivable, begins in a point of the network, and its key is one of that row
pub record IsDerivedInto (net : Plan) (target : PointId) (edge : Edge) : Type 0 where
  pub derivable : IsDerivable net edge
  pub from_point : edge.from.0 < length net.points
  pub key_is : edge.to ≡ target

-- more than the queued keys of any row, with the row itself
abbrev pub most_queued : ℕ
most_queued = 2 ^ 63

-- what is left of a row that is not begun: itself, and all keys that may be queued with it
abbrev pub left_of_mark : Mark → ℕ
left_of_mark New = most_queued + 1
left_of_mark Open = 0
left_of_mark Done = 0

-- what is left of a row in progress: its queued keys, and itself
abbrev pub left_of_row : OpenRow → ℕ
left_of_row row = heap_len row.queue + 1

module _ {Place : Type 0} where
  -- what is left of a relaxation, with the rows that are not begun and those in progress
  abbrev pub depth_first_of : Progress Place → List Mark → List OpenRow → Progress Place
  depth_first_of table marks stack = record { net = table.net; place = table.place; left = table.left + sum_by left_of_mark marks + sum_by left_of_row stack }

  -- the table stays the same but for what is left to do
  pub record StaysAt (old new : Progress Place) : Type 0 where
    pub net : new.net ≡ old.net
    pub place : new.place ≡ old.place

  -- a step at the same table that leaves no more
  pub record ProgressGoesOn (old new : Progress Place) : Type 0 where
    pub net : new.net ≡ old.net
    pub place : new.place ≡ old.place
    pub left : new.left ≤ old.left

  -- a step after which more keys of a row may be queued, but for each of them a weight was lowered
  pub record ImprovesForEach (old new : Progress Place) (before after : OpenRow) : Type 0 where
    pub net : new.net ≡ old.net
    pub place : new.place ≡ old.place
    pub left : new.left ≤ old.left
    pub target : after.target ≡ before.target
    pub for_each : new.left + heap_len after.queue ≤ old.left + heap_len before.queue
