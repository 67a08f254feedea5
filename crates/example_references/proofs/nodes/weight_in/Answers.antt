-- The weight of a key is that of its node.
use Rattle.std.proofs.Common.{ap, ◌∙◌}
use Rattle.closure_model.specs.Derivations.{weight_at}
use Rattle.example_references.proofs.NodeFacts.{weight_agrees}
use Rattle.example_references.proofs.nodes.weight_in.Goals as goal

pub returns : goal.returns
returns c net = c.weight_at.ensures ∙ (ap (weight_at c.args.nodes.now) c.node_for.ensures.node ∙ weight_agrees net c.args.nodes.now c.args.edge.now)
