use Rattle.std.proofs.Common.{◌≡◌, ◌+◌, ◌∙◌, ℕ, length, List, ap, sym, subst, arith, refl}
use Rattle.std.specs.List.{Contains}
use Rattle.closure_model.specs.Keys.{shape_of}
use Rattle.closure_model.specs.Tables.{Graph, no_edges, row_of}
use Rattle.network_closure.specs.Saturation.{IsLoweredTo}
use Rattle.network_closure.proofs.CopyLemmas.{IsBelow, lowered_none, lowered_then, no_edges_of_derivable, row_derivable, row_storable, row_lowered, target_more, bounded_none, bounded_on, row_bounded, dense_below}
use Rattle.network_closure.proofs.dense_copies.dense_of.Goals as goal

pub loop-to-init : goal.loop-to-init
loop-to-init c = (
  subst (λ (table : Graph). IsLoweredTo c.args.net.now (IsBelow c.args.table.now 0) (no_edges (shape_of c.args.net.now)) table) (sym c.in_ok-dense.ensures)
      (lowered_none c.args.net.now (no_edges (shape_of c.args.net.now)) (IsBelow c.args.table.now 0) (no_edges_of_derivable c.args.net.now (no_edges (shape_of c.args.net.now)) c.requires.plan refl) (λ edge below. omega (arith, below.1))),
  bounded_none c.args.net.now c.args.table.now _ c.in_ok-dense.ensures,
)

pub lower_to_row-requires : goal.lower_to_row-requires
lower_to_row-requires c =
    row_storable c.args.net.now c.loop-to.dense c.as_slice.result.now c.loop-to.invariant.0.of_derivable
    (row_derivable c.args.net.now c.args.table.now (record { 0 = c.loop-to.to }) c.as_slice.result.now (c.as_slice.ensures.value ∙ c.in_ok-row.ensures) c.requires.derivable)

pub loop-to-preserved : goal.loop-to-preserved
loop-to-preserved c =
    let row : c.as_slice.result.now ≡ row_of c.args.table.now (record { 0 = c.loop-to.to }) = c.as_slice.ensures.value ∙ c.in_ok-row.ensures in (
      lowered_then c.args.net.now (no_edges (shape_of c.args.net.now)) c.loop-to.dense c.lower_to_row.new.dense (IsBelow c.args.table.now c.loop-to.to) (Contains c.as_slice.result.now)
          (IsBelow c.args.table.now (c.loop-to.to + 1)) c.loop-to.invariant.0
          (row_lowered c.args.net.now c.loop-to.dense c.lower_to_row.new.dense c.as_slice.result.now c.loop-to.invariant.0.of_derivable
          (row_derivable c.args.net.now c.args.table.now (record { 0 = c.loop-to.to }) c.as_slice.result.now row c.requires.derivable) c.lower_to_row.ensures)
          (λ edge. target_more c.args.table.now (record { 0 = c.loop-to.to }) c.as_slice.result.now edge row),
      bounded_on c.args.table.now c.loop-to.dense c.lower_to_row.new.dense c.as_slice.result.now c.lower_to_row.ensures c.loop-to.invariant.1 (row_bounded c.args.table.now (record { 0 = c.loop-to.to }) c.as_slice.result.now row),
    )

pub returns : goal.returns
returns c =
    let same : length c.points.result.now ≡ length c.args.net.now.points = ap (λ (points : List (List ℕ)). length points) c.points.ensures.points in
    dense_below c.args.net.now c.args.table.now c.loop-to.dense c.loop-to.to c.requires (omega (arith, same, c.loop-to-test.false)) c.loop-to.invariant.0 c.loop-to.invariant.1
