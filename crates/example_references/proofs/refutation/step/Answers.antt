use Rattle.std.proofs.Common.{None, pos}
use Rattle.example_references.proofs.StepFacts.{found_is_node}
use Rattle.example_references.proofs.refutation.step.Goals as goal

pub returns-in-Some : goal.returns-in-Some
returns-in-Some c = found_is_node c.args.nodes.now (record { from = c.args.from; to = c.args.to; label = None; weight = pos 0 }) c.in-Some.id c.in-Some.ensures.node
