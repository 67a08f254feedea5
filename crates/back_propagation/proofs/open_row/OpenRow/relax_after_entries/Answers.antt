-- Each entry adds what follows after its edge.
use Rattle.std.proofs.Common.{take, None, pos}
use Rattle.std.specs.List.{flat_map}
use Rattle.std.proofs.lemmas.List.Elements.{All-get_or}
use Rattle.labelled_graph.specs.declared.entry.Entry.{Entry}
use Rattle.back_propagation.specs.Blocks.{IsHeld}
use Rattle.back_propagation.specs.SlotPlaces.{after_entry}
use Rattle.back_propagation.proofs.OpenRowSteps.{relaxes_nothing, relaxes_more, relaxes_all, still_relaxing}
use Rattle.back_propagation.proofs.open_row.OpenRow.relax_after_entries.Goals as goal

abbrev no_entry : Entry
no_entry = record { from = record { 0 = 0 }; label = None; weight = pos 0 }

pub loop-entry-init : goal.loop-entry-init
loop-entry-init c = relaxes_nothing c.args.self.now

pub relax_after_entry-requires-clause-row : goal.relax_after_entry-requires-clause-row
relax_after_entry-requires-clause-row c =
    still_relaxing c.args.basis c.args.self.now c.loop-entry.self c.args.edge.now c.args.column (flat_map (after_entry c.args.edge.now) (take c.loop-entry.entry-index c.args.entries.now)) c.loop-entry.invariant c.requires.row

pub relax_after_entry-requires-clause-entry : goal.relax_after_entry-requires-clause-entry
relax_after_entry-requires-clause-entry c = All-get_or (IsHeld c.args.basis.table.now c.args.edge.now) c.args.entries.now c.loop-entry.entry-index no_entry c.loop-entry-test.true c.requires.entries

pub loop-entry-preserved : goal.loop-entry-preserved
loop-entry-preserved c =
    relaxes_more (after_entry c.args.edge.now) c.args.entries.now c.loop-entry.entry-index no_entry c.args.self.now c.loop-entry.self c.relax_after_entry.new.self c.loop-entry-test.true c.loop-entry.invariant
    c.in_ok-relax_after_entry.ensures

pub returns : goal.returns
returns c = relaxes_all (after_entry c.args.edge.now) c.args.entries.now c.loop-entry.entry-index c.args.self.now c.loop-entry.self c.loop-entry-test.false c.loop-entry.invariant
