use Rattle.std.proofs.Common.{sym, subst}
use Rattle.support_records.specs.FollowedStores.{IsDerivedOn}
use Rattle.support_records.proofs.FollowLemmas.{table_for, edge_given, derived_more}
use Rattle.support_records.proofs.kept_nodes.add.Goals as goal

pub add-requires-clause-for_network : goal.add-requires-clause-for_network
add-requires-clause-for_network c = table_for c.args.new.now c.args.after.now c.requires.derived

pub add-requires-clause-edge : goal.add-requires-clause-edge
add-requires-clause-edge c = edge_given c.args.new.now c.args.after.now c.requires.derived c.sound.ensures c.args.node c.requires.follows

pub returns-clause-derived : goal.returns-clause-derived
returns-clause-derived c = subst (IsDerivedOn c.args.new.now) (sym c.in_ok-add.ensures.1) (derived_more c.args.new.now c.args.after.now c.requires.derived c.args.node c.requires.follows)
