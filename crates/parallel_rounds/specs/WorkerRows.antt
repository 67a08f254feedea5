-- What one worker makes of its part of a round.
use Rattle.std.specs.Prelude.{◌≡◌, ℕ, List, ◌++◌, Some, slice_get}
use Rattle.std.specs.List.{All, AllZip}
use Rattle.net_model.specs.Network.{Plan}
use Rattle.net_model.specs.declared.ids.PointId.{PointId}
use Rattle.closure_model.specs.Tables.{Graph}
use Rattle.back_propagation.specs.declared.full_rows.NewRow.{NewRow}
use Rattle.parallel_rounds.specs.Rows.{new_row}
use Rattle.work_board.specs.Boards.{BoardSeatSeen}
use Rattle.work_board.specs.declared.view.Draw.{Draw}

-- a row is that of the target whose number was drawn
pub record IsRowOfDraw (net : Plan) (table : Graph) (targets : List PointId) (draw : Draw) (row : NewRow) : Type 0 where
  pub target : PointId
  pub stands : slice_get targets draw.number ≡ Some target
  pub row_is : row ≡ new_row net table target

-- a seat drew these, one after another, and found so often that there was nothing left; all else stays
pub record HasDrawn (before after : BoardSeatSeen) (draws : List Draw) (nones : ℕ) : Type 0 where
  pub after_is : after ≡ record { table = before.table; view = record before.view { held = before.view.held ++ draws; nones = nones } }
  pub own : All (λ (draw : Draw). draw.drawer ≡ before.view.drawer) draws

-- a worker did its part: its seat drew until there was nothing left, and the rows are those of the targets drawn, in the order of drawing
pub record IsWorked (net : Plan) (table : Graph) (targets : List PointId) (before after : BoardSeatSeen) (rows : List NewRow) : Type 0 where
  pub draws : List Draw
  pub drew : HasDrawn before after draws 1
  pub each : AllZip (IsRowOfDraw net table targets) draws rows

-- a worker left off: its seat never found that there was nothing left, and keeps what it drew
abbrev pub LeftOff : BoardSeatSeen → BoardSeatSeen → Type 0
LeftOff before after = (draws : List Draw) × HasDrawn before after draws 0
