use Rattle.std.proofs.Common.{◌≡◌, length, take, fold}
use Rattle.cert_checker.specs.Least.{IsSizedFor, no_weights, with_entry}
use Rattle.cert_checker.proofs.least.LeastWeights.of.Given as goal

abbrev pub invariant-loop-edge : goal.invariant-loop-edge
invariant-loop-edge l = record {
  least : l.least ≡ fold with_entry (no_weights (length l.net.points) (length l.net.links)) (take l.edge-index l.edges);
  shape : IsSizedFor (length l.net.points) (length l.net.links) l.least;
}
