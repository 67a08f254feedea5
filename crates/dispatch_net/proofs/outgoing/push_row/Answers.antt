use Rattle.std.proofs.Common.{◌++◌, ◌∙◌, List, None, length, map, pos, ap, sym, subst, arith}
use Rattle.std.proofs.lemmas.List.{length-set, take_all}
use Rattle.net_model.specs.Limits.{IsWeight}
use Rattle.net_model.specs.declared.part.Edge.{Edge}
use Rattle.labelled_graph.specs.Entries.{edge_into}
use Rattle.labelled_graph.specs.declared.entry.Entry.{Entry}
use Rattle.dispatch_net.specs.Outgoing.{AreOutgoing}
use Rattle.dispatch_net.proofs.OutgoingLemmas.{entry_held, entry_pushed}
use Rattle.dispatch_net.proofs.outgoing.push_row.Goals as goal

abbrev none : Entry
none = record { from = record { 0 = 0 }; label = None; weight = pos 0 }

pub bounds-lists-entry : goal.bounds-lists-entry
bounds-lists-entry c =
    let row = c.entries-entries in
    let has = entry_held c.args.table.now c.args.to row.result.now c.loop-entry.entry-index none row.ensures.row c.loop-entry-test.true in
    let begins = (row.ensures.sound.keys _ has).from_point in
    omega (arith, begins, c.requires.count, c.loop-entry.invariant.count)

pub push-requires : goal.push-requires
push-requires c =
    let row = c.entries-entries in
    let has = entry_held c.args.table.now c.args.to row.result.now c.loop-entry.entry-index none row.ensures.row c.loop-entry-test.true in
    subst (λ (edge : Edge). IsWeight edge.weight) (sym c.edge_into.ensures) (row.ensures.sound.weights _ has)

pub loop-entry-preserved : goal.loop-entry-preserved
loop-entry-preserved c =
    let row = c.entries-entries in
    let has = entry_held c.args.table.now c.args.to row.result.now c.loop-entry.entry-index none row.ensures.row c.loop-entry-test.true in
    let begins = (row.ensures.sound.keys _ has).from_point in
    record {
      count = length-set c.loop-entry.lists _ c.push.new.self ∙ c.loop-entry.invariant.count;
      pushed = λ edges are.
          entry_pushed (length c.args.lists.now) c.args.to row.result.now c.loop-entry.entry-index none c.loop-entry.lists c.edge_into.result c.index-lists-entry.result c.push.new.self c.loop-entry-test.true c.edge_into.ensures
          (omega (arith, begins, c.requires.count)) c.in_ok-push.ensures edges (c.loop-entry.invariant.pushed edges are);
    }

pub returns : goal.returns
returns c =
    λ edges are.
    let entries = c.entries-entries.result.now in
    subst (λ (es : List Edge). AreOutgoing (length c.args.lists.now) (edges ++ es) c.loop-entry.lists)
    (ap (map (edge_into c.args.to)) (take_all c.loop-entry.entry-index entries c.loop-entry-test.false) ∙ c.entries-entries.ensures.row) (c.loop-entry.invariant.pushed edges are)
