use Rattle.std.proofs.Common.{subst}
use Rattle.std.proofs.lemmas.Result.{IfOk-weaker}
use Rattle.net_model.specs.declared.ids.LinkId.{LinkId}
use Rattle.std.specs.declared.option.Option.{Option}
use Rattle.labelled_graph.specs.Entries.{key_with}
use Rattle.labelled_graph.specs.MergedRows.{IsNextOf}
use Rattle.labelled_graph.specs.Rows.{IsEntryAt, IsGapFor}
use Rattle.labelled_graph.proofs.MergeLemmas.{next_found, next_missed, rises_right}
use Rattle.labelled_graph.proofs.row.put_next.Goals as goal

pub returns-in-Ok : goal.returns-in-Ok
returns-in-Ok c to can =
    IfOk-weaker c.put_part.result _ (λ rest. IsNextOf to c.args.all.now.items c.args.left.now c.args.entry.now c.put_part.new.all.items rest.now)
    (λ rest is. next_found to c.args.all.now.items c.args.left.now c.put_part.new.all.items rest.now c.args.entry.now c.in-Ok.place can
    (subst (λ (label : Option LinkId). IsEntryAt to c.args.left.now (key_with to c.args.entry.now.from label) c.in-Ok.place) c.wide_label.ensures (c.in-Ok.ensures.place to (rises_right to c.args.all.now.items c.args.left.now can.rises)))
    is.0 is.1)
    c.put_part.ensures

pub returns-in-Err : goal.returns-in-Err
returns-in-Err c to can =
    IfOk-weaker c.put_part-in-Err.result _ (λ rest. IsNextOf to c.args.all.now.items c.args.left.now c.args.entry.now c.put_part-in-Err.new.all.items rest.now)
    (λ rest is. next_missed to c.args.all.now.items c.args.left.now c.put_part-in-Err.new.all.items rest.now c.args.entry.now c.in-Err.place can
    (subst (λ (label : Option LinkId). IsGapFor to c.args.left.now (key_with to c.args.entry.now.from label) c.in-Err.place) c.wide_label.ensures (c.in-Err.ensures.place to (rises_right to c.args.all.now.items c.args.left.now can.rises)))
    is.0 is.1)
    c.put_part-in-Err.ensures
