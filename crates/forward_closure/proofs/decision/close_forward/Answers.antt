use Rattle.std.proofs.Common.{subst}
use Rattle.loop_finder.specs.OrderOrCycle.{IsWhatItSays}
use Rattle.forward_closure.proofs.DecisionLemmas.{cycle_excludes}
use Rattle.forward_closure.proofs.decision.close_forward.Goals as goal

pub returns-in-Cycle : goal.returns-in-Cycle
returns-in-Cycle g c =
    let net = c.args.net.now in
    let table = c.in_ok-table.table in
    cycle_excludes c.law_cycles_of_tables_exclude.ensures net (record { sound = c.sound.ensures; no_delay = c.requires.no_delay }) (record {
      table = table;
      cycle = c.in-Cycle.field-0;
      derivable = c.in_ok-table.ensures.derivable;
      fits = c.in_ok-table.ensures.fits;
      is = subst (IsWhatItSays table) c.in-Cycle.is c.in_ok-order.ensures.says;
    })

pub tested-requires-clause-found : goal.tested-requires-clause-found
tested-requires-clause-found g c = λ lifetimes lives. record {
  partial_closure = c.in_ok-table.ensures;
  ordered = subst (IsWhatItSays c.in_ok-table.table) c.in-Order.is c.in_ok-order.ensures.says;
}
