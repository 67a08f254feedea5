use Rattle.std.proofs.Common.{sym, ◌∙◌}
use Rattle.fleet_command.proofs.FewLemmas.{few_on}
use Rattle.fleet_command.proofs.plans_text.PlansTextText.read_line.Goals as goal

pub invariant_of-result : goal.invariant_of-result
invariant_of-result c = few_on c.self.inside.series c.in-Continue.series c.args.number c.args.line.now c.self.invariant (sym c.in_ok-series.ensures ∙ c.in-Continue.is)
