use Rattle.std.proofs.Common.{◌≡◌, ◌++◌, map, take}
use Rattle.std.specs.List.{enumerate_from}
use Rattle.closure_model.specs.Derivations.{link_node}
use Rattle.example_references.proofs.rounds.push_links.Given as goal

abbrev pub invariant-loop-place : goal.invariant-loop-place
invariant-loop-place l = l.nodes.items ≡ l.initial.nodes.items ++ map link_node (take l.place (enumerate_from 0 l.net.links))
