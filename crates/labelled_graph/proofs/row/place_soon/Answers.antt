use Rattle.std.proofs.Common.{◌≤◌, arith, length, sym, subst}
use Rattle.labelled_graph.specs.Entries.{key_with}
use Rattle.labelled_graph.specs.Rows.{AreRising}
use Rattle.labelled_graph.proofs.SoonLemmas.{soon_found, soon_missed, far_found, far_missed, rises_drop}
use Rattle.labelled_graph.proofs.row.place_soon.Goals as goal

pub returns-in-Equal-clause-place : goal.returns-in-Equal-clause-place
returns-in-Equal-clause-place c to rises = soon_found to c.args.entries.now (key_with to c.args.from c.args.label) c.loop-place.place _ (let inside = c.loop-place-test.true in
    omega (arith, inside, c.min-near.ensures)) (sym (c.in-Equal.ensures to))

pub returns-in-Greater-clause-place : goal.returns-in-Greater-clause-place
returns-in-Greater-clause-place c to rises = soon_missed to c.args.entries.now (key_with to c.args.from c.args.label) c.loop-place.place _ rises (let inside = c.loop-place-test.true in
    omega (arith, inside, c.min-near.ensures)) (c.loop-place.invariant to) (sym (c.in-Greater.ensures to))

pub returns-in-Ok-clause-place : goal.returns-in-Ok-clause-place
returns-in-Ok-clause-place c to rises =
    let short : c.min-near.result ≤ length c.args.entries.now = (let long = c.split_at.ensures.back_len in omega (arith, long)) in
    far_found to c.args.entries.now (key_with to c.args.from c.args.label) c.min-near.result c.in-Ok.place c.split_at.result.1.now short c.split_at.ensures.back
    (c.in-Ok.ensures.place to (subst (AreRising to) (sym c.split_at.ensures.back) (rises_drop to c.args.entries.now c.min-near.result rises)))

pub returns-in-Err-clause-place : goal.returns-in-Err-clause-place
returns-in-Err-clause-place c to rises =
    let short : c.min-near.result ≤ length c.args.entries.now = (let long = c.split_at.ensures.back_len in omega (arith, long)) in
    far_missed to c.args.entries.now (key_with to c.args.from c.args.label) c.min-near.result c.in-Err.place c.split_at.result.1.now short c.split_at.ensures.back
    (λ j d soon. c.loop-place.invariant to j d (let end = c.loop-place-test.false in omega (arith, soon, end)))
    (c.in-Err.ensures.place to (subst (AreRising to) (sym c.split_at.ensures.back) (rises_drop to c.args.entries.now c.min-near.result rises)))
