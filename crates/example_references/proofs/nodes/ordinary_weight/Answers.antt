use Rattle.example_references.proofs.nodes.ordinary_weight.Goals as goal

pub returns : goal.returns
returns c net = c.weight_in.ensures net
