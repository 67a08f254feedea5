use Rattle.std.proofs.Common.{List}
use Rattle.closure_model.specs.declared.derivation.Node.{Node}
use Rattle.derivation_dag.specs.Pruned.{AreNumbered}
use Rattle.derivation_dag.proofs.pruned_dag.marked.Given as goal

abbrev pub invariant-loop-numbered : goal.invariant-loop-numbered
invariant-loop-numbered l = (whole : List Node) → AreNumbered whole l.held → AreNumbered whole l.found.items
