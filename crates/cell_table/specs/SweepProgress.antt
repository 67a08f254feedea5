-- How much is left to do for a worker that relaxes cells by a seat. What other workers lower meanwhile only takes from it.
use Rattle.net_model.specs.Network.{Plan}
use Rattle.closure_model.specs.Keys.{shape_of}
use Rattle.closure_model.specs.Tables.{table_of}
use Rattle.closure_model.proofs.WeightMeasure.{measure}
use Rattle.network_closure.specs.Progress.{Progress}
use Rattle.cell_table.specs.Shared.{CellsSeen, CellSeatSeen}

-- what is left for a seat: how far the least weights that it has noted of all keys can be lowered
abbrev pub relaxing_of : Plan → CellsSeen → CellSeatSeen → Progress CellsSeen
relaxing_of net cells seat = record { net = net; place = cells; left = measure net (table_of (shape_of net) seat.view.notes) }
