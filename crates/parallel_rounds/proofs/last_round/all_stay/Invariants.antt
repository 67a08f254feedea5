use Rattle.std.proofs.Common.{take}
use Rattle.closure_model.specs.Orders.{IsOrder}
use Rattle.closure_model.specs.ReferenceRow.{with_made}
use Rattle.closure_model.specs.Tables.{Graph}
use Rattle.parallel_rounds.specs.StoreUpdate.{made_in}
use Rattle.parallel_rounds.proofs.last_round.all_stay.Given as goal

abbrev pub invariant-loop-row : goal.invariant-loop-row
invariant-loop-row l = (table : Graph) → IsOrder table l.order → IsOrder (with_made table (made_in (take l.row-index l.rows))) l.order
