use Rattle.std.proofs.Common.{ap, length, ◌∙◌}
use Rattle.example_references.proofs.NodeFacts.{points_agree}
use Rattle.example_references.proofs.nodes.points.Goals as goal

pub returns : goal.returns
returns c nodes = ap length c.points.ensures.points ∙ points_agree c.args.net.now nodes
