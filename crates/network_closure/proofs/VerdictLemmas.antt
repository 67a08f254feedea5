-- What a closed table, or a cycle of derivable edges, says of the strategies of a network.
use Rattle.std.proofs.Common.{Some, None, refl}
use Rattle.closure_laws.proofs.OrderLemmas.{law_ordered_closures_are_controllable, law_cycles_of_tables_exclude}
use Rattle.network_closure.specs.Laws.{ClosingDecides}

pub law_closing_decides : ClosingDecides
law_closing_decides net None instant looped = (λ controllable. absurd (law_cycles_of_tables_exclude net looped.table looped.cycle instant looped.derivable looped.is controllable), λ some. absurd cc)
law_closing_decides net (Some closed) instant is = (λ controllable. refl, λ some. law_ordered_closures_are_controllable net closed.table closed.order instant is.closure is.order)
