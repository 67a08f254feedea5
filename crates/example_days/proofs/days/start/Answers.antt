-- What a session gives is a dispatchable network of the closure, and so is what no others imply of it.
use Rattle.std.proofs.Common.{List, ◌∙◌, ap}
use Rattle.dispatch_net.specs.declared.dispatch.Conditions.{Conditions}
use Rattle.dispatch_net.proofs.EarliestLemmas.{law_closures_may_dispatch}
use Rattle.execution_model.specs.Feeds.{started}
use Rattle.closure_laws.proofs.ForwardLemmas.{law_closures_are_forward_tables}
use Rattle.execution_model.proofs.GraphLemmas.{law_forward_tables_are_graphs}
use Rattle.example_days.proofs.days.start.Goals as goal

pub start-requires : goal.start-requires
start-requires c =
    let is = c.requires.of in
    record {
      instant = record { sound = c.sound.ensures; no_delay = c.requires.no_delay };
      table = is.table;
      order = is.order;
      graph = law_forward_tables_are_graphs c.args.net.now is.table c.sound.ensures (law_closures_are_forward_tables c.args.net.now is.table is.closure);
      may = law_closures_may_dispatch c.args.net.now is.table is.order c.sound.ensures is.closure is.ordered;
      links = c.slim.ensures.links ∙ is.by.links;
      made = c.slim.ensures.made ∙ is.by.made;
    }

pub returns : goal.returns
returns c =
    let is = c.requires.of in
    record {
      table = is.table;
      order = is.order;
      dispatched =
          record {
            instant = record { sound = c.sound.ensures; no_delay = c.requires.no_delay };
            forward = law_closures_are_forward_tables c.args.net.now is.table is.closure;
            ordered = is.ordered;
          };
      unused =
          c.in_ok-start.ensures
          ∙ ap (λ (made : List Conditions). started (record { links = c.args.net.now.links; dispatch = made })) (c.slim.ensures.made ∙ is.by.made);
    }
