use Rattle.std.proofs.Common.{◌≡◌, ◌++◌, List, length, map, take}
use Rattle.net_model.specs.declared.part.Edge.{Edge}
use Rattle.labelled_graph.specs.Entries.{edge_into}
use Rattle.dispatch_net.specs.Outgoing.{AreOutgoing}
use Rattle.dispatch_net.proofs.outgoing.push_row.Given as goal

abbrev pub invariant-loop-entry : goal.invariant-loop-entry
invariant-loop-entry l = record {
  count : length l.lists ≡ length l.fn.lists;
  pushed : (edges : List Edge) → AreOutgoing (length l.fn.lists) edges l.fn.lists → AreOutgoing (length l.fn.lists) (edges ++ map (edge_into l.to) (take l.entry-index l.entries)) l.lists;
}
