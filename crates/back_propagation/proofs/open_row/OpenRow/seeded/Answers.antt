-- Each entry was gone through.
use Rattle.std.proofs.Common.{◌∙◌, ap, get_or, length, None, pos, sym}
use Rattle.std.proofs.lemmas.Option.{slice_get-get_or}
use Rattle.labelled_graph.specs.declared.entry.Entry.{Entry}
use Rattle.back_propagation.proofs.SeedSteps.{to_none, to_more, to_all}
use Rattle.back_propagation.proofs.RelaxSteps.{entry_held}
use Rattle.back_propagation.proofs.open_row.OpenRow.seeded.Goals as goal

abbrev no_entry : Entry
no_entry = record { from = record { 0 = 0 }; label = None; weight = pos 0 }

pub loop-entry-init : goal.loop-entry-init
loop-entry-init c = to_none c.len.result c.in_ok-new.field-0 c.in_ok-new.ensures c.args.basis.table.now c.args.target c.args.delta.now c.entries-entry-items.result.now c.new-2.result.items c.new-2.ensures.items (c.len.ensures
    ∙ ap length c.requires.slots.first)

pub relax_over_entry-requires-clause-entry : goal.relax_over_entry-requires-clause-entry
relax_over_entry-requires-clause-entry c = entry_held c.args.basis.table.now c.args.target c.entries-entry-items.result.now c.loop-entry.entry-index no_entry c.entries-entry-items.ensures.row c.loop-entry-test.true

pub relax_over_entry-requires-clause-apart : goal.relax_over_entry-requires-clause-apart
relax_over_entry-requires-clause-apart c = c.loop-entry.invariant.apart

pub relax_over_entry-requires-clause-keys : goal.relax_over_entry-requires-clause-keys
relax_over_entry-requires-clause-keys c = c.loop-entry.invariant.keys ∙ sym (ap length c.requires.slots.first)

pub loop-entry-preserved : goal.loop-entry-preserved
loop-entry-preserved c =
    to_more c.args.basis.table.now c.args.target c.args.delta.now c.entries-entry-items.result.now c.loop-entry.entry-index
    (get_or c.entries-entry-items.result.now c.loop-entry.entry-index no_entry) c.loop-entry.begin c.relax_over_entry.new.begin
    (slice_get-get_or c.entries-entry-items.result.now c.loop-entry.entry-index no_entry c.loop-entry-test.true)
    (entry_held c.args.basis.table.now c.args.target c.entries-entry-items.result.now c.loop-entry.entry-index no_entry c.entries-entry-items.ensures.row c.loop-entry-test.true)
    c.loop-entry.invariant c.in_ok-relax_over_entry.ensures

pub returns : goal.returns
returns c =
    to_all c.args.basis.table.now c.args.target c.args.delta.now c.entries-entry-items.result.now c.requires.slots.sound c.requires.recorded.delta.edges c.entries-entry-items.ensures.row c.loop-entry.entry-index
    c.loop-entry.begin.candidates c.loop-entry.begin.whole.items
    c.loop-entry-test.false c.loop-entry.invariant c.in_ok-places.places.items c.in_ok-places.ensures
