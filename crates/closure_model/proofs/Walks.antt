-- Walks along negative ordinary edges: if a table has no cycle, each has at most as many points as the table.
use Rattle.std.proofs.Common.{◌≡◌, ℕ, zero, suc, ◌+◌, ◌<◌, ◌≤◌, true, List, length, Option, Some, None, refl, sym, subst, arith}
use Rattle.std.specs.Option.{option_to_list}
use Rattle.std.specs.List.{find}
use Rattle.std.proofs.lemmas.List.{length-append}
use Rattle.net_model.specs.declared.ids.PointId.{PointId}
use Rattle.closure_model.specs.Keys.{Shape, all_points}
use Rattle.closure_model.specs.Orders.{goes, is_free, lowest_unplaced, placed_after, placed_points, IsOrder}
use Rattle.closure_model.specs.Tables.{Graph, IsAtMost}
use Rattle.closure_model.proofs.OrderLemmas.{among_from, place, place_of, descends_in_order, placed_are_an_order}
use Rattle.closure_model.proofs.TableLemmas.{at_most_gives}
use Rattle.closure_model.proofs.Weights.{le_then_lt}
use Rattle.closure_model.proofs.RowsNeedRows.{gone_edge, goes_from}

-- a walk along negative ordinary edges ends in a point, and has so many points
pub data EndsWalk (table : Graph) : ℕ → PointId → Type 0 where
  alone : (point : PointId) → point.0 < table.shape.points → EndsWalk table 1 point
  longer : (count : ℕ) (from to : PointId) → to.0 < table.shape.points → goes table from to ≡ true → EndsWalk table count from → EndsWalk table (suc count) to

pub walk_ends : (table : Graph) (count : ℕ) (point : PointId) → EndsWalk table count point → point.0 < table.shape.points
walk_ends table _ _ (alone point inside) = inside
walk_ends table _ _ (longer count from to inside went walk) = inside

-- if weights are lowered, a walk stays one
pub goes_lower : (low high : Graph) (from to : PointId) → IsAtMost low high → goes high from to ≡ true → goes low from to ≡ true
goes_lower low high from to less went =
    let (weight, is, below) = gone_edge high from to went in
    let (lower, held, under) = at_most_gives low (record { from = from; to = to; label = None; weight = weight }) (less (record { from = from; to = to; label = None; weight = weight }) is) in
    goes_from low (record { from = from; to = to; label = None; weight = lower }) held refl (le_then_lt lower weight _ under below)

pub walk_lower : (low high : Graph) (count : ℕ) (point : PointId) → low.shape ≡ high.shape → IsAtMost low high → EndsWalk high count point → EndsWalk low count point
walk_lower low high _ _ shape less (alone point inside) = alone point (subst (λ (s : Shape). point.0 < s.points) (sym shape) inside)
walk_lower low high _ _ shape less (longer count from to inside went walk) =
    longer count from to (subst (λ (s : Shape). to.0 < s.points) (sym shape) inside) (goes_lower low high from to less went) (walk_lower low high count from shape less walk)

-- a walk goes down an order, so it has at most as many points as stand from its end on
walk_in_order : (table : Graph) (order : List PointId) (count : ℕ) (point : PointId) → IsOrder table order → EndsWalk table count point → count + place order point ≤ length order
walk_in_order table order _ _ is (alone point inside) = let at = place_of order point (among_from order point (is.whole point inside)) in omega (arith, at.inside)
walk_in_order table order _ _ is (longer count from to inside went walk) =
    let rest = walk_in_order table order count from is walk in
    let down = descends_in_order table order is from to (walk_ends table count from walk) inside went in
    omega arith

-- no more points are placed than there were steps
placed_few : (table : Graph) (steps : ℕ) → length (placed_after table steps) ≤ steps
placed_few table zero = omega arith
placed_few table (suc steps) =
    let placed = placed_after table steps in
    let next = find (is_free table placed) (all_points table.shape) in
    let rest = placed_few table steps in
    let both = length-append placed (option_to_list next) in
    let one = few next in
    omega arith
  where
    few : (o : Option PointId) → length (option_to_list o) ≤ 1
    few None = omega arith
    few (Some point) = omega arith

pub walks_are_short : (table : Graph) (count : ℕ) (point : PointId) → lowest_unplaced table ≡ None → EndsWalk table count point → count ≤ table.shape.points
walks_are_short table count point none walk =
    let short = walk_in_order table (placed_points table) count point (placed_are_an_order table none) walk in
    let few = placed_few table table.shape.points in
    omega arith
