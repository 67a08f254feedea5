use Rattle.std.proofs.Common.{◌+◌, get_or, None, Some}
use Rattle.net_model.specs.declared.ids.LinkId.{LinkId}
use Rattle.network_closure.specs.Saturation.{IsEdgeBetween, IsEdgeFromTo}
use Rattle.network_closure.proofs.CopyLemmas.{IsEdgeLabelled, label_begins, label_listed, label_more, lowered_among, lowered_then, ordinary_first}
use Rattle.network_closure.proofs.dense_copies.lower_between.Goals as goal

pub loop-link-init : goal.loop-link-init
loop-link-init c =
    lowered_among c.args.net.now c.args.table.now c.lower_at.new.table (IsEdgeBetween c.args.dense.now c.args.from c.args.to None) (IsEdgeLabelled c.args.dense.now c.args.from c.args.to c.args.links.now 0) c.in_ok-lower_at.ensures
    (ordinary_first c.args.dense.now c.args.from c.args.to c.args.links.now)

pub lower_at-requires-in-loop-link-clause-label : goal.lower_at-requires-in-loop-link-clause-label
lower_at-requires-in-loop-link-clause-label c =
    label_begins c.args.net.now c.args.dense.now c.args.to c.args.links.now c.loop-link.link-index (record { 0 = 0 }) c.requires.dense.fits c.requires.links c.loop-link-test.true

pub loop-link-preserved : goal.loop-link-preserved
loop-link-preserved c =
    let here : LinkId = get_or c.args.links.now c.loop-link.link-index (record { 0 = 0 }) in
    lowered_then c.args.net.now c.args.table.now c.loop-link.table c.lower_at-in-loop-link.new.table (IsEdgeLabelled c.args.dense.now c.args.from c.args.to c.args.links.now c.loop-link.link-index)
    (IsEdgeBetween c.args.dense.now c.args.from c.args.to (Some here)) (IsEdgeLabelled c.args.dense.now c.args.from c.args.to c.args.links.now (c.loop-link.link-index + 1)) c.loop-link.invariant
    c.in_ok-lower_at-2.ensures (label_more c.args.dense.now c.args.from c.args.to c.args.links.now c.loop-link.link-index (record { 0 = 0 }) c.loop-link-test.true)

pub returns : goal.returns
returns c =
    lowered_among c.args.net.now c.args.table.now c.loop-link.table (IsEdgeLabelled c.args.dense.now c.args.from c.args.to c.args.links.now c.loop-link.link-index) (IsEdgeFromTo c.args.dense.now c.args.from c.args.to)
    c.loop-link.invariant (label_listed c.args.net.now c.args.dense.now c.args.from c.args.to c.args.links.now c.loop-link.link-index c.requires.dense c.requires.links c.loop-link-test.false)
