use Rattle.std.proofs.Common.{None, pos, arith}
use Rattle.loop_finder.proofs.SuccessorLemmas.{entry_begins, pushed_entry, pushed_all}
use Rattle.loop_finder.proofs.successors.push_target.Goals as goal

pub push_entry-requires : goal.push_entry-requires
push_entry-requires c =
    let begins = entry_begins c.args.table.now c.args.to c.entries-entries.result.now c.entries-entries.ensures.sound c.entries-entries.ensures.row c.loop-entry.entry-index
    (record { from = record { 0 = 0 }; label = None; weight = pos 0 }) c.loop-entry-test.true in
    omega (arith, begins, c.requires.count, c.loop-entry.invariant.count)

pub loop-entry-preserved : goal.loop-entry-preserved
loop-entry-preserved c =
    let begins = entry_begins c.args.table.now c.args.to c.entries-entries.result.now c.entries-entries.ensures.sound c.entries-entries.ensures.row c.loop-entry.entry-index
    (record { from = record { 0 = 0 }; label = None; weight = pos 0 }) c.loop-entry-test.true in
    pushed_entry c.args.to c.args.lists.now c.loop-entry.lists c.push_entry.new.lists c.entries-entries.result.now c.loop-entry.entry-index (record { from = record { 0 = 0 }; label = None; weight = pos 0 }) c.loop-entry-test.true
    (omega (arith, begins, c.requires.count)) c.loop-entry.invariant c.in_ok-push_entry.ensures

pub returns-clause-pushed : goal.returns-clause-pushed
returns-clause-pushed c = λ from inside.
    pushed_all c.args.table.now c.args.to c.args.lists.now c.loop-entry.lists c.entries-entries.result.now c.loop-entry.entry-index c.requires.count c.entries-entries.ensures.ordinary c.loop-entry-test.false c.loop-entry.invariant from
    inside
