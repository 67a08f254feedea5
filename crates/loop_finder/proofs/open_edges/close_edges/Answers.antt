use Rattle.std.proofs.Common.{arith}
use Rattle.std.proofs.lemmas.List.{take_all}
use Rattle.loop_finder.proofs.OpenLemmas.{no_entry, can_close, differ_none, closed_more, differ_all, freed_none, freed_more, freed_all}
use Rattle.loop_finder.proofs.SuccessorLemmas.{entry_begins}
use Rattle.loop_finder.proofs.open_edges.close_edges.Goals as goal

pub loop-entry-init : goal.loop-entry-init
loop-entry-init c = (differ_none c.entries-entries.result.now c.args.left.now.items, freed_none c.entries-entries.result.now c.args.left.now.items c.args.free.now)

pub close_entry-requires : goal.close_entry-requires
close_entry-requires c =
    can_close c.args.table.now c.args.to c.entries-entries.result.now c.loop-entry.entry-index c.args.left.now.items c.loop-entry.left.items c.args.free.now c.loop-entry.free c.loop-entry-test.true
    (entry_begins c.args.table.now c.args.to c.entries-entries.result.now c.entries-entries.ensures.sound c.entries-entries.ensures.row c.loop-entry.entry-index no_entry c.loop-entry-test.true)
    c.entries-entries.ensures.ordinary c.requires.open_count c.requires.free_count c.requires.left c.loop-entry.invariant.0 c.loop-entry.invariant.1

pub loop-entry-preserved : goal.loop-entry-preserved
loop-entry-preserved c =
    let may = can_close c.args.table.now c.args.to c.entries-entries.result.now c.loop-entry.entry-index c.args.left.now.items c.loop-entry.left.items c.args.free.now c.loop-entry.free c.loop-entry-test.true
    (entry_begins c.args.table.now c.args.to c.entries-entries.result.now c.entries-entries.ensures.sound c.entries-entries.ensures.row c.loop-entry.entry-index no_entry c.loop-entry-test.true)
    c.entries-entries.ensures.ordinary c.requires.open_count c.requires.free_count c.requires.left c.loop-entry.invariant.0 c.loop-entry.invariant.1 in (
      closed_more c.entries-entries.result.now c.loop-entry.entry-index no_entry c.loop-entry-test.true c.args.left.now.items c.loop-entry.left.items c.close_entry.new.left.items may.open_point may.some c.loop-entry.invariant.0
          c.close_entry.ensures.left,
      freed_more c.entries-entries.result.now c.loop-entry.entry-index no_entry c.loop-entry-test.true c.loop-entry.left.items c.close_entry.new.left.items c.args.free.now c.loop-entry.free c.close_entry.new.free may.open_point may.due_point
          may.some c.loop-entry.invariant.1 c.close_entry.ensures.left c.close_entry.ensures.free,
    )

pub returns-clause-left : goal.returns-clause-left
returns-clause-left c =
    differ_all c.args.table.now c.args.to c.entries-entries.result.now c.loop-entry.entry-index c.loop-entry.left.items c.args.left.now.items c.entries-entries.ensures.ordinary c.requires.open_count
    (take_all c.loop-entry.entry-index c.entries-entries.result.now (omega (arith, c.loop-entry-test.false))) c.loop-entry.invariant.0

pub returns-clause-free : goal.returns-clause-free
returns-clause-free c =
    freed_all c.args.table.now c.args.to c.entries-entries.result.now c.loop-entry.entry-index c.loop-entry.left.items c.args.free.now c.loop-entry.free c.entries-entries.ensures.ordinary c.requires.free_count
    (take_all c.loop-entry.entry-index c.entries-entries.result.now (omega (arith, c.loop-entry-test.false))) c.loop-entry.invariant.1
