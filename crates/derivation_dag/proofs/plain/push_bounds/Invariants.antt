use Rattle.std.proofs.Common.{◌≡◌, ◌++◌, map, take}
use Rattle.std.specs.List.{enumerate_from}
use Rattle.closure_model.specs.Derivations.{bound_node}
use Rattle.derivation_dag.proofs.plain.push_bounds.Given as goal

abbrev pub invariant-loop-place : goal.invariant-loop-place
invariant-loop-place g l = g.L.NodeList.nodes l.list ≡ g.L.NodeList.nodes l.initial.list ++ map bound_node (take l.place (enumerate_from 0 l.net.bounds))
