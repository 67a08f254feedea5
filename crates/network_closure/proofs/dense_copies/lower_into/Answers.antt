use Rattle.std.proofs.Common.{◌≡◌, ◌<◌, ◌+◌, ℕ, length, List, ap, sym, subst, arith}
use Rattle.closure_model.specs.Keys.{Shape}
use Rattle.network_closure.specs.Saturation.{IsEdgeTo, IsEdgeFromTo}
use Rattle.network_closure.proofs.CopyLemmas.{IsEdgeToBelow, lowered_among, lowered_then, source_more, within_points}
use Rattle.network_closure.proofs.dense_copies.lower_into.Goals as goal

pub lower_between-requires-clause-from_point : goal.lower_between-requires-clause-from_point
lower_between-requires-clause-from_point c =
    let same : length c.points.result.now ≡ length c.args.net.now.points = ap (λ (points : List (List ℕ)). length points) c.points.ensures.points in
    subst (λ (s : Shape). c.loop-from.from < s.points) (sym c.requires.dense.fits) (omega (arith, same, c.loop-from-test.true))

pub lower_between-requires-clause-to_point : goal.lower_between-requires-clause-to_point
lower_between-requires-clause-to_point c = subst (λ (s : Shape). c.args.to.0 < s.points) (sym c.requires.dense.fits) c.requires.to_point

pub loop-from-preserved : goal.loop-from-preserved
loop-from-preserved c =
    lowered_then c.args.net.now c.args.table.now c.loop-from.table c.lower_between.new.table (IsEdgeToBelow c.args.dense.now c.args.to c.loop-from.from) (IsEdgeFromTo c.args.dense.now (record { 0 = c.loop-from.from }) c.args.to)
    (IsEdgeToBelow c.args.dense.now c.args.to (c.loop-from.from + 1)) c.loop-from.invariant c.in_ok-lower_between.ensures (source_more c.args.dense.now c.args.to c.loop-from.from)

pub returns : goal.returns
returns c =
    let same : length c.points.result.now ≡ length c.args.net.now.points = ap (λ (points : List (List ℕ)). length points) c.points.ensures.points in
    lowered_among c.args.net.now c.args.table.now c.loop-from.table (IsEdgeToBelow c.args.dense.now c.args.to c.loop-from.from) (IsEdgeTo c.args.dense.now c.args.to) c.loop-from.invariant
    (λ edge into. (into, within_points c.args.net.now c.args.dense.now c.requires.dense c.loop-from.from (omega (arith, same, c.loop-from-test.false)) edge into.has))
