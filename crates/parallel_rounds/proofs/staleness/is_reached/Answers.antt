-- The entries are those of the edges of the row.
use Rattle.std.proofs.Common.{ap, sym, ◌∙◌}
use Rattle.std.specs.List.{list_any}
use Rattle.labelled_graph.specs.Entries.{edge_into}
use Rattle.parallel_rounds.specs.Targets.{reaches}
use Rattle.parallel_rounds.proofs.StaleSteps.{any_mapped}
use Rattle.parallel_rounds.proofs.staleness.is_reached.Goals as goal

pub returns : goal.returns
returns c = c.has_reaching.ensures ∙ (sym (any_mapped (reaches c.args.marks.now) (edge_into c.args.target) c.entries.result.now) ∙ ap (list_any (reaches c.args.marks.now)) c.entries.ensures.row)
