-- What the parts of the workers of a round are, and how they are put together.
use Rattle.std.specs.Prelude.{◌≡◌, ◌<◌, ℕ, List, [], ◌∷◌, ◌++◌, length, Result, IfOk}
use Rattle.std.specs.List.{All, AllZip}
use Rattle.net_model.specs.Network.{Plan, IsPoint}
use Rattle.net_model.specs.declared.ids.PointId.{PointId}
use Rattle.closure_model.specs.ReferenceRow.{HasWeightsWithin}
use Rattle.closure_model.specs.Tables.{Graph, IsFor}
use Rattle.work_board.specs.Boards.{BoardSeen, BoardSeatSeen, IsSeatOfBoard}
use Rattle.parallel_rounds.specs.WorkerRows.{IsRowOfDraw}
use Rattle.parallel_rounds.specs.declared.parts.WorkerPart.{WorkerPart}

-- the rows of these targets can be made by the workers at a board: the table is one of the network, with weights from -M to M; the targets
-- are its points; and the board has as many
pub record CanMakeRows (net : Plan) (table : Graph) (targets : List PointId) (board : BoardSeen) : Type 0 where
  pub fits : IsFor net table
  pub within : HasWeightsWithin net table
  pub points : All (IsPoint net) targets
  pub sized : board.size.targets ≡ length targets

-- a seat of a board that has drawn nothing yet
pub record IsUnused (board : BoardSeen) (seat : BoardSeatSeen) : Type 0 where
  pub seated : IsSeatOfBoard board seat
  pub held : seat.view.held ≡ []
  pub untold : seat.view.nones ≡ 0

-- a seat is the first of a board, and so many others were split from it that are not joined yet
pub record IsFirstSeat (out : ℕ) (seat : BoardSeatSeen) : Type 0 where
  pub number : seat.view.drawer ≡ 0
  pub out_is : seat.view.out ≡ out

-- the seats of a board, of which none has drawn: the others, and at the end the first, from which all others were split
pub record AreSeats (board : BoardSeen) (seats : List BoardSeatSeen) : Type 0 where
  pub others : List BoardSeatSeen
  pub first : BoardSeatSeen
  pub seats_are : seats ≡ others ++ first ∷ []
  pub unused : All (IsUnused board) seats
  pub is_first : IsFirstSeat (length others) first

-- the rows of a part are those of what its seat drew, in this order
abbrev pub HasRows : Plan → Graph → List PointId → WorkerPart → Type 0
HasRows net table targets part = AllZip (IsRowOfDraw net table targets) part.seat.view.held part.rows.items

-- a part is that of the worker with this seat, who drew until there was nothing left
pub record IsPartOf (net : Plan) (table : Graph) (targets : List PointId) (board : BoardSeen) (seat : BoardSeatSeen) (part : WorkerPart) : Type 0 where
  pub seated : IsSeatOfBoard board part.seat
  pub rows : HasRows net table targets part
  pub number : part.seat.view.drawer ≡ seat.view.drawer
  pub out : part.seat.view.out ≡ seat.view.out
  pub informed : 0 < part.seat.view.nones

-- a part of a round: its seat is one of the board, and drew until there was nothing left
pub record IsPart (board : BoardSeen) (part : WorkerPart) : Type 0 where
  pub seated : IsSeatOfBoard board part.seat
  pub informed : 0 < part.seat.view.nones

-- the parts of all workers, if they had the memory: those of the others, and at the end that of the first
pub record AreParts {E : Type 0} (board : BoardSeen) (parts : List (Result WorkerPart E)) : Type 0 where
  pub others : List (Result WorkerPart E)
  pub first : Result WorkerPart E
  pub parts_are : parts ≡ others ++ first ∷ []
  pub each : All (λ (part : Result WorkerPart E). IfOk part (IsPart board)) parts
  pub is_first : IfOk first (λ (part : WorkerPart). IsFirstSeat (length others) part.seat)

-- each part has its rows, if its worker had the memory
abbrev pub AllHaveRows : {E : Type 0} → Plan → Graph → List PointId → List (Result WorkerPart E) → Type 0
AllHaveRows {E} net table targets parts = All (λ (part : Result WorkerPart E). IfOk part (HasRows net table targets)) parts
