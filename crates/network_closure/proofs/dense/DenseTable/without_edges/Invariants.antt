use Rattle.std.proofs.Common.{◌≡◌, map, take}
use Rattle.net_model.specs.declared.part.Link.{Link}
use Rattle.network_closure.proofs.dense.DenseTable.without_edges.Given as goal

abbrev pub invariant-loop-link : goal.invariant-loop-link
invariant-loop-link l = l.activations.items ≡ map (λ (link : Link). link.from) (take l.link-index l.links)
