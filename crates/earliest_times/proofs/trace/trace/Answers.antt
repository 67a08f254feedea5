use Rattle.std.proofs.Common.{◌≡◌, ◌-◌, ◌<◌, [], ℕ, List, Option, Some, None, length, get_or, drop, sym, ap, subst, ◌∙◌, arith, rules}
use Rattle.std.specs.List.{All, position}
use Rattle.std.specs.Option.{IsSome}
use Rattle.std.specs.Prelude.{◌==◌}
use Rattle.std.proofs.lemmas.List.{get_or_read}
use Rattle.std.proofs.lemmas.Result.{IfOk-weaker}
use Rattle.earliest_times.specs.Rounds.{edge_at_place}
use Rattle.earliest_times.specs.Least.{IsLoop}
use Rattle.earliest_times.specs.FirstLoops.{IsLoopOfFirstWalk}
use Rattle.earliest_times.proofs.TraceLemmas.{Traced, traced_begins, traced_places, traced_inside, traced_found, traced_first, traced_level, traced_row, traced_some, traced_place, traced_more, traced_over}
use Rattle.earliest_times.proofs.trace.trace.Goals as goal

pub loop-left-init : goal.loop-left-init
loop-left-init c =
    let none : c.new-walk.result.items ≡ [] = search rules in
    subst (λ (w : List ℕ). Traced c.args.edges.now c.args.points c.args.levels.now c.args.start w c.args.start (length c.args.levels.now)) (sym none)
    (traced_begins c.args.edges.now c.args.points c.args.levels.now c.args.start c.requires.history c.requires.within c.requires.start c.requires.raised)

pub place_of-requires : goal.place_of-requires
place_of-requires c =
    let l = c.loop-left in
    subst (All (λ (place : ℕ). place < length c.args.edges.now)) (sym c.as_slice.ensures.value) (traced_places c.args.edges.now c.args.points c.args.levels.now c.args.start l.walk.items l.point l.left l.invariant)

pub part_from-requires : goal.part_from-requires
part_from-requires c =
    let l = c.loop-left in
    let edges = c.args.edges.now in
    let found : position (λ (place : ℕ). (edge_at_place edges place).from.0 == l.point.0) l.walk.items ≡ Some c.in-Some.first = ap (position (λ (place : ℕ). (edge_at_place edges place).from.0 == l.point.0)) (sym c.as_slice.ensures.value)
    ∙ sym c.place_of.ensures ∙ c.in-Some.is in
    let first = traced_inside edges c.args.points c.args.levels.now c.args.start l.walk.items l.point l.left l.invariant c.in-Some.first found in
    let same : length c.as_slice-in-Some.result.now ≡ length l.walk.items = ap length c.as_slice-in-Some.ensures.value in
    omega (arith, first, same)

pub returns-in-Some-clause-is_loop : goal.returns-in-Some-clause-is_loop
returns-in-Some-clause-is_loop c =
    let l = c.loop-left in
    let edges = c.args.edges.now in
    let found : position (λ (place : ℕ). (edge_at_place edges place).from.0 == l.point.0) l.walk.items ≡ Some c.in-Some.first = ap (position (λ (place : ℕ). (edge_at_place edges place).from.0 == l.point.0)) (sym c.as_slice.ensures.value)
    ∙ sym c.place_of.ensures ∙ c.in-Some.is in
    let loop = traced_found edges c.args.points c.args.levels.now c.args.start l.walk.items l.point l.left l.invariant c.in-Some.first found in
    IfOk-weaker c.part_from.result (λ part. part.items ≡ drop c.in-Some.first c.as_slice-in-Some.result.now) (λ walk. IsLoop edges walk.items)
    (λ part is. subst (IsLoop edges) (ap (drop c.in-Some.first) (sym c.as_slice-in-Some.ensures.value) ∙ sym is) loop) c.part_from.ensures

pub returns-in-Some-clause-is_first : goal.returns-in-Some-clause-is_first
returns-in-Some-clause-is_first c =
    let l = c.loop-left in
    let edges = c.args.edges.now in
    let found : position (λ (place : ℕ). (edge_at_place edges place).from.0 == l.point.0) l.walk.items ≡ Some c.in-Some.first = ap (position (λ (place : ℕ). (edge_at_place edges place).from.0 == l.point.0)) (sym c.as_slice.ensures.value)
    ∙ sym c.place_of.ensures ∙ c.in-Some.is in
    let loop = traced_first edges c.args.points c.args.levels.now c.args.start l.walk.items l.point l.left l.invariant c.in-Some.first found (let many = c.requires.many in omega (arith, many)) c.requires.start c.requires.first in
    IfOk-weaker c.part_from.result (λ part. part.items ≡ drop c.in-Some.first c.as_slice-in-Some.result.now) (λ walk. IsLoopOfFirstWalk c.args.points edges walk.items)
    (λ part is. subst (IsLoopOfFirstWalk c.args.points edges) (ap (drop c.in-Some.first) (sym c.as_slice-in-Some.ensures.value) ∙ sym is) loop) c.part_from.ensures

pub bounds-levels-left : goal.bounds-levels-left
bounds-levels-left c = let l = c.loop-left in traced_level c.args.edges.now c.args.points c.args.levels.now c.args.start l.walk.items l.point l.left l.invariant (omega arith)

pub bounds-as_slice-point : goal.bounds-as_slice-point
bounds-as_slice-point c =
    let l = c.loop-left in
    let level = traced_level c.args.edges.now c.args.points c.args.levels.now c.args.start l.walk.items l.point l.left l.invariant (omega arith) in
    let row : c.as_slice-in-loop-left.result.now ≡ get_or c.args.levels.now (l.left - 1) [] = c.as_slice-in-loop-left.ensures ∙ get_or_read c.args.levels.now (l.left - 1) c.index-levels-left.result level c.index-levels-left.is [] in
    let inside = traced_row c.args.edges.now c.args.points c.args.levels.now c.args.start l.walk.items l.point l.left l.invariant (omega arith) in
    subst (λ (r : List (Option ℕ)). l.point.0 < length r) (sym row) inside

pub unwrap-place-requires : goal.unwrap-place-requires
unwrap-place-requires c =
    let l = c.loop-left in
    let level = traced_level c.args.edges.now c.args.points c.args.levels.now c.args.start l.walk.items l.point l.left l.invariant (omega arith) in
    let row : c.as_slice-in-loop-left.result.now ≡ get_or c.args.levels.now (l.left - 1) [] = c.as_slice-in-loop-left.ensures ∙ get_or_read c.args.levels.now (l.left - 1) c.index-levels-left.result level c.index-levels-left.is [] in
    subst (λ (r : List (Option ℕ)). IsSome (get_or r l.point.0 None)) (sym row) (traced_some c.args.edges.now c.args.points c.args.levels.now c.args.start l.walk.items l.point l.left l.invariant (omega arith))

pub offset_bounds-edges-place : goal.offset_bounds-edges-place
offset_bounds-edges-place c =
    let l = c.loop-left in
    let level = traced_level c.args.edges.now c.args.points c.args.levels.now c.args.start l.walk.items l.point l.left l.invariant (omega arith) in
    let row : c.as_slice-in-loop-left.result.now ≡ get_or c.args.levels.now (l.left - 1) [] = c.as_slice-in-loop-left.ensures ∙ get_or_read c.args.levels.now (l.left - 1) c.index-levels-left.result level c.index-levels-left.is [] in
    let inside : c.unwrap-place.result < length c.args.edges.now = traced_place c.args.edges.now c.args.points c.args.levels.now c.args.start l.walk.items l.point l.left l.invariant c.unwrap-place.result (omega arith)
    (ap (λ (r : List (Option ℕ)). get_or r l.point.0 None) (sym row) ∙ c.unwrap-place.ensures) in
    search rules

pub bounds-edges-place : goal.bounds-edges-place
bounds-edges-place c =
    let l = c.loop-left in
    let level = traced_level c.args.edges.now c.args.points c.args.levels.now c.args.start l.walk.items l.point l.left l.invariant (omega arith) in
    let row : c.as_slice-in-loop-left.result.now ≡ get_or c.args.levels.now (l.left - 1) [] = c.as_slice-in-loop-left.ensures ∙ get_or_read c.args.levels.now (l.left - 1) c.index-levels-left.result level c.index-levels-left.is [] in
    traced_place c.args.edges.now c.args.points c.args.levels.now c.args.start l.walk.items l.point l.left l.invariant c.unwrap-place.result (omega arith)
    (ap (λ (r : List (Option ℕ)). get_or r l.point.0 None) (sym row) ∙ c.unwrap-place.ensures)

pub loop-left-preserved : goal.loop-left-preserved
loop-left-preserved c =
    let l = c.loop-left in
    let edges = c.args.edges.now in
    let level = traced_level edges c.args.points c.args.levels.now c.args.start l.walk.items l.point l.left l.invariant (omega arith) in
    let row : c.as_slice-in-loop-left.result.now ≡ get_or c.args.levels.now (l.left - 1) [] = c.as_slice-in-loop-left.ensures ∙ get_or_read c.args.levels.now (l.left - 1) c.index-levels-left.result level c.index-levels-left.is [] in
    let none : position (λ (place : ℕ). (edge_at_place edges place).from.0 == l.point.0) l.walk.items ≡ None = ap (position (λ (place : ℕ). (edge_at_place edges place).from.0 == l.point.0)) (sym c.as_slice.ensures.value)
    ∙ sym c.place_of.ensures ∙ c.in_default.is in
    subst (λ (w : List ℕ). Traced edges c.args.points c.args.levels.now c.args.start w (edge_at_place edges c.unwrap-place.result).to (l.left - 1)) (sym c.in_ok-push.ensures.items)
    (traced_more edges c.args.points c.args.levels.now c.args.start l.walk.items l.point l.left l.invariant c.unwrap-place.result (omega arith) none (ap (λ (r : List (Option ℕ)). get_or r l.point.0 None) (sym row) ∙ c.unwrap-place.ensures))

pub returns : goal.returns
returns c = let l = c.loop-left in absurd (traced_over c.args.edges.now c.args.points c.args.levels.now c.args.start l.walk.items l.point
    (subst (λ (k : ℕ). Traced c.args.edges.now c.args.points c.args.levels.now c.args.start l.walk.items l.point k) (omega arith) l.invariant) (let many = c.requires.many in omega (arith, many)))
