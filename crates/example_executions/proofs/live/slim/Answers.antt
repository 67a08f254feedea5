use Rattle.std.proofs.Common.{◌∙◌}
use Rattle.example_executions.proofs.live.slim.Goals as goal

pub returns-clause-dispatched : goal.returns-clause-dispatched
returns-clause-dispatched c =
    let of = c.requires.of in
    record {
      instant = of.instant;
      table = of.table;
      order = of.order;
      graph = of.graph;
      may = of.may;
      links = c.slim.ensures.links ∙ of.links;
      made = c.slim.ensures.made ∙ of.made;
    }
