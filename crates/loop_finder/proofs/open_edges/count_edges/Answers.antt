use Rattle.std.proofs.Common.{get_or, arith}
use Rattle.std.proofs.lemmas.List.{take_all}
use Rattle.loop_finder.proofs.OpenLemmas.{no_entry, one_at_most, differ_none, counted_more, differ_all}
use Rattle.loop_finder.proofs.SuccessorLemmas.{entry_begins}
use Rattle.loop_finder.proofs.open_edges.count_edges.Goals as goal

pub loop-entry-init : goal.loop-entry-init
loop-entry-init c = differ_none c.entries-entries.result.now c.args.counts.now.items

pub count_entry-requires-clause-from : goal.count_entry-requires-clause-from
count_entry-requires-clause-from c =
    let begins = entry_begins c.args.table.now c.args.to c.entries-entries.result.now c.entries-entries.ensures.sound c.entries-entries.ensures.row c.loop-entry.entry-index no_entry c.loop-entry-test.true in
    let same = c.loop-entry.invariant.count in
    omega (arith, begins, same, c.requires.count)

pub count_entry-requires-clause-low : goal.count_entry-requires-clause-low
count_entry-requires-clause-low c =
    let begins = entry_begins c.args.table.now c.args.to c.entries-entries.result.now c.entries-entries.ensures.sound c.entries-entries.ensures.row c.loop-entry.entry-index no_entry c.loop-entry-test.true in
    let from = (get_or c.entries-entries.result.now c.loop-entry.entry-index no_entry).from.0 in
    let same = c.loop-entry.invariant.count in
    let one = one_at_most c.args.table.now c.args.to from c.loop-entry.entry-index c.entries-entries.result.now c.entries-entries.ensures.ordinary begins in
    let sum = c.loop-entry.invariant.each from (omega (arith, begins, same, c.requires.count)) in
    let low = c.requires.low from in
    omega (arith, sum, one, low)

pub loop-entry-preserved : goal.loop-entry-preserved
loop-entry-preserved c =
    let begins = entry_begins c.args.table.now c.args.to c.entries-entries.result.now c.entries-entries.ensures.sound c.entries-entries.ensures.row c.loop-entry.entry-index no_entry c.loop-entry-test.true in
    let same = c.loop-entry.invariant.count in
    counted_more c.entries-entries.result.now c.loop-entry.entry-index no_entry c.loop-entry-test.true c.args.counts.now.items c.loop-entry.counts.items c.count_entry.new.counts.items (omega (arith, begins, same, c.requires.count))
    c.loop-entry.invariant c.count_entry.ensures

pub returns : goal.returns
returns c =
    differ_all c.args.table.now c.args.to c.entries-entries.result.now c.loop-entry.entry-index c.args.counts.now.items c.loop-entry.counts.items c.entries-entries.ensures.ordinary (let same = c.loop-entry.invariant.count in omega (arith, same, c.requires.count))
    (take_all c.loop-entry.entry-index c.entries-entries.result.now (omega (arith, c.loop-entry-test.false))) c.loop-entry.invariant
