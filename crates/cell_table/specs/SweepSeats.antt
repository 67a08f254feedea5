-- A seat with which a worker sweeps.
use Rattle.std.specs.Prelude.{◌≡◌}
use Rattle.std.specs.List.{All}
use Rattle.net_model.specs.Network.{Plan, IsPlan}
use Rattle.closure_model.specs.Derivable.{IsDerivable}
use Rattle.cell_table.specs.Shared.{CellsSeen, CellSeatSeen, IsSeatOfCells}
use Rattle.cell_table.specs.declared.depth_first_sweep.Worker.{Worker}

-- a seat is one of cells of a network, and has noted derivable edges alone
pub record IsAt (net : Plan) (cells : CellsSeen) (seat : CellSeatSeen) : Type 0 where
  pub plan : IsPlan net
  pub net_is : cells.about.net.value ≡ net
  pub seat_of : IsSeatOfCells cells seat
  pub notes : All (IsDerivable net) seat.view.notes

-- the seat of a worker is one of cells of a network
abbrev pub IsWorkerAt : Plan → CellsSeen → Worker → Type 0
IsWorkerAt net cells worker = IsAt net cells worker.seat
