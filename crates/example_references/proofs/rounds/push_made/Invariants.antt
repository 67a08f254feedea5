use Rattle.std.proofs.Common.{◌≡◌, fold, take}
use Rattle.net_model.specs.Network.{Plan}
use Rattle.closure_model.specs.ReferenceRound.{with_one}
use Rattle.example_references.specs.NodeTables.{support_in}
use Rattle.example_references.proofs.rounds.push_made.Given as goal

abbrev pub invariant-loop-one : goal.invariant-loop-one
invariant-loop-one l = (net : Plan) → support_in net l.nodes.items ≡ fold (with_one l.before.items) (support_in net l.fn.nodes.items) (take l.one-index l.made)
