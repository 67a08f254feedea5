use Rattle.network_closure.proofs.DenseLemmas.{absent_made}
use Rattle.network_closure.proofs.dense.DenseTable.without_edges.Goals as goal

pub invariant_of-result : goal.invariant_of-result
invariant_of-result c =
    (absent_made c.args.net.now c.points-points.ensures.sound (record { ordinary = c.in_ok-absent_rows.field-0; labelled = c.in_ok-absent_rows-2.field-0; activations = c.loop-link.activations }) c.points-points.result.now
    c.links-links.result.now
    c.loop-link.link-index c.points-points.ensures.points c.links-links.ensures.links c.loop-link-test.false
    (record { activations = c.loop-link.invariant; ordinary = c.in_ok-absent_rows.ensures; labelled = c.in_ok-absent_rows-2.ensures })).0

pub returns : goal.returns
returns c =
    (absent_made c.args.net.now c.points-points.ensures.sound (record { ordinary = c.in_ok-absent_rows.field-0; labelled = c.in_ok-absent_rows-2.field-0; activations = c.loop-link.activations }) c.points-points.result.now
    c.links-links.result.now
    c.loop-link.link-index c.points-points.ensures.points c.links-links.ensures.links c.loop-link-test.false
    (record { activations = c.loop-link.invariant; ordinary = c.in_ok-absent_rows.ensures; labelled = c.in_ok-absent_rows-2.ensures })).1
