use Rattle.std.proofs.Common.{◌≡◌, ◌+◌, ◌∙◌, ℕ, length, List, ap, arith}
use Rattle.closure_model.specs.Tables.{HasEdge}
use Rattle.network_closure.specs.Saturation.{IsEdgeTo}
use Rattle.network_closure.proofs.CopyLemmas.{IsBelow, into_more, lowered_among, lowered_then, within_targets}
use Rattle.network_closure.proofs.dense_copies.lower_to_dense.Goals as goal

pub lower_into-requires-clause-links : goal.lower_into-requires-clause-links
lower_into-requires-clause-links c = c.as_slice.ensures.value ∙ c.in_ok-links.ensures

pub loop-to-preserved : goal.loop-to-preserved
loop-to-preserved c =
    lowered_then c.args.net.now c.args.table.now c.loop-to.table c.lower_into.new.table (IsBelow c.args.dense.now c.loop-to.to) (IsEdgeTo c.args.dense.now (record { 0 = c.loop-to.to }))
    (IsBelow c.args.dense.now (c.loop-to.to + 1)) c.loop-to.invariant c.in_ok-lower_into.ensures (into_more c.args.dense.now c.loop-to.to)

pub returns : goal.returns
returns c =
    let same : length c.points.result.now ≡ length c.args.net.now.points = ap (λ (points : List (List ℕ)). length points) c.points.ensures.points in
    lowered_among c.args.net.now c.args.table.now c.loop-to.table (IsBelow c.args.dense.now c.loop-to.to) (HasEdge c.args.dense.now) c.loop-to.invariant
    (within_targets c.args.net.now c.args.dense.now c.requires.dense c.loop-to.to (omega (arith, same, c.loop-to-test.false)))
