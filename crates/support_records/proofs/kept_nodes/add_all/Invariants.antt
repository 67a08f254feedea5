use Rattle.std.proofs.Common.{◌≡◌, ◌++◌, take}
use Rattle.support_records.specs.FollowedStores.{IsDerivedOn}
use Rattle.support_records.proofs.kept_nodes.add_all.Given as goal

abbrev pub invariant-loop-node : goal.invariant-loop-node
invariant-loop-node l = record {
  added : l.after.nodes ≡ l.initial.after.nodes ++ take l.node-index l.nodes;
  derived : IsDerivedOn l.new l.after;
}
