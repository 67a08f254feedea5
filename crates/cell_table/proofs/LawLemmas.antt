-- What a network settles to shows whether its closure has a cycle, and is what it closes to.
use Rattle.std.proofs.Common.{subst}
use Rattle.closure_model.specs.Orders.{IsOrder}
use Rattle.closure_model.specs.Tables.{Graph}
use Rattle.closure_model.proofs.LawProofs.{law_closure_is_one}
use Rattle.closure_model.proofs.OrderLemmas.{law_orders_exclude_cycles}
use Rattle.closure_model.proofs.RoundsEndings.{law_cycles_are_in_closures}
use Rattle.cell_table.specs.Laws.{SettlesExactly, SettlesAsItCloses}
use Rattle.cell_table.specs.declared.settlement.Settled.TheVariants.{Closed, Looped}

pub law_settles_exactly : SettlesExactly
law_settles_exactly net closure (Closed closed) is settled = λ cycle met.
    law_orders_exclude_cycles closure closed.order cycle (subst (λ (t : Graph). IsOrder t closed.order) (law_closure_is_one net closed.table closure settled.closure is) settled.order) met
law_settles_exactly net closure (Looped cycle) is settled = law_cycles_are_in_closures net settled.table closure cycle settled.fits settled.derivable is settled.is

pub law_settles_as_it_closes : SettlesAsItCloses
law_settles_as_it_closes net (Closed closed) settled = settled
law_settles_as_it_closes net (Looped cycle) settled = record { table = settled.table; cycle = cycle; derivable = settled.derivable; fits = settled.fits; is = settled.is }
