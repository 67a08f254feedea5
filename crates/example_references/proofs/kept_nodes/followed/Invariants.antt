use Rattle.example_references.specs.Marks.{numbers}
use Rattle.example_references.proofs.MarkLemmas.{Holds}
use Rattle.example_references.proofs.kept_nodes.followed.Given as goal

abbrev pub invariant-loop-node : goal.invariant-loop-node
invariant-loop-node l = Holds (numbers l.edited) l.nodes l.node-index l.marks.items l.kept.items
