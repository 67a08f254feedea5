use Rattle.example_references.specs.NodeTables.{support_in}
use Rattle.example_references.proofs.RoundFacts.{GoesOn}
use Rattle.example_references.proofs.rounds.rounds.Given as goal

abbrev pub invariant-loop-count : goal.invariant-loop-count
invariant-loop-count l = GoesOn l.net (support_in l.net l.fn.nodes.items) (support_in l.net l.nodes.items) l.count
