use Rattle.std.proofs.Common.{◌≡◌, ◌≤◌, ◌+◌, ◌-◌, ◌<◌, ◌++◌, ◌∷◌, [], ℕ, List, Option, Some, None, length, get_or, replicate, is_some, not, sym, ap, subst, ◌∙◌, arith, rules}
use Rattle.std.specs.List.{All, position}
use Rattle.std.specs.Option.{IsSome}
use Rattle.std.specs.Prelude.{unsigned_abs}
use Rattle.std.proofs.lemmas.List.{get_or_read}
use Rattle.std.proofs.lemmas.List.Elements.{All-weaker}
use Rattle.net_model.specs.declared.part.Edge.{Edge}
use Rattle.earliest_times.specs.Rounds.{IsRoundOver}
use Rattle.earliest_times.specs.History.{IsHistory, AreWithin}
use Rattle.earliest_times.specs.Least.{AreLeast, IsLoop, IsLoopFromLowest}
use Rattle.earliest_times.specs.FirstLoops.{IsLoopOfFirstWalk, IsTurnedToLowest}
use Rattle.earliest_times.proofs.LeastLemmas.{IsUnderWay, levels_begin, levels_go_on, moments_length, moments_small, moments_are_least, raised_start, none_is}
use Rattle.earliest_times.proofs.least.least_moments.Goals as goal

pub loop-init : goal.loop-init
loop-init c =
    let edges = c.args.edges.now in
    let none : c.new-levels.result.items ≡ [] = search rules in
    let zeros : c.in_ok-now.now.items ≡ replicate c.args.points 0 = search rules in
    subst (λ (levels : List (List (Option ℕ))). IsUnderWay edges c.args.points 0 levels c.in_ok-now.now.items) (sym none) (subst (IsUnderWay edges c.args.points 0 []) (sym zeros) (levels_begin edges c.args.points))

pub raise-requires-clause-inside : goal.raise-requires-clause-inside
raise-requires-clause-inside c =
    let size : length c.as_slice.result.now ≡ c.args.points = ap length c.as_slice.ensures.value ∙ moments_length c.args.edges.now c.args.points c.loop.counter c.loop.levels.items c.loop.now.items c.loop.invariant in
    subst (λ (n : ℕ). AreWithin n c.args.edges.now) (sym size) c.requires.within

pub raise-requires-clause-small : goal.raise-requires-clause-small
raise-requires-clause-small c =
    let few = c.requires.few in
    subst (All (λ moment. moment < 4611686018427387904)) (sym c.as_slice.ensures.value) (moments_small c.args.edges.now c.args.points c.loop.counter c.loop.levels.items c.loop.now.items c.loop.invariant c.requires.within c.requires.sizes
    (omega (arith, few)))

pub raise-requires-clause-sizes : goal.raise-requires-clause-sizes
raise-requires-clause-sizes c =
    All-weaker (λ (edge : Edge). unsigned_abs edge.weight ≤ 5000000000000) (λ (edge : Edge). unsigned_abs edge.weight < 4611686018427387904) (λ edge most. omega (arith, most)) c.args.edges.now c.requires.sizes

pub returns-then-is_none : goal.returns-then-is_none
returns-then-is_none c =
    let edges = c.args.edges.now in
    let made = c.in_ok-made.made in
    let round = subst (λ (now : List ℕ). IsRoundOver edges (length edges) now made.after.items made.raised.items) c.as_slice.ensures.value c.in_ok-made.ensures in
    let none : position (λ (by : Option ℕ). is_some by) made.raised.items ≡ None = ap (position (λ (by : Option ℕ). is_some by)) (sym c.as_slice-in-loop.ensures.value) ∙ sym c.first_raised.ensures
    ∙ none_is c.first_raised.result (c.is_none.ensures ∙ ap not c.if-is_none.true) in
    subst (AreLeast c.args.points edges) (sym c.new.ensures) (moments_are_least edges c.args.points c.loop.counter c.loop.levels.items c.loop.now.items c.loop.invariant made.after.items made.raised.items c.requires.within round none)

pub loop-preserved : goal.loop-preserved
loop-preserved c =
    let edges = c.args.edges.now in
    let made = c.in_ok-made.made in
    let round = subst (λ (now : List ℕ). IsRoundOver edges (length edges) now made.after.items made.raised.items) c.as_slice.ensures.value c.in_ok-made.ensures in
    let some : IsSome (position (λ (by : Option ℕ). is_some by) made.raised.items) = subst IsSome (c.first_raised.ensures ∙ ap (position (λ (by : Option ℕ). is_some by)) c.as_slice-in-loop.ensures.value)
    ((c.is_none.ensures ∙ ap not c.if-is_none.false)) in
    let levels : c.push.new.self.items ≡ c.loop.levels.items ++ made.raised.items ∷ [] = c.in_ok-push.ensures.items ∙ ap (λ (r : List (Option ℕ)). c.loop.levels.items ++ r ∷ []) c.new-in-loop.ensures in
    subst (λ (ls : List (List (Option ℕ))). IsUnderWay edges c.args.points (c.loop.counter + 1) ls made.after.items) (sym levels)
    (levels_go_on edges c.args.points c.loop.counter c.loop.levels.items c.loop.now.items made.after.items made.raised.items c.loop.invariant round some)

pub bounds-levels-points : goal.bounds-levels-points
bounds-levels-points c =
    let counted = c.loop.invariant.counted in
    let size : length c.as_slice-levels.result.now ≡ length c.loop.levels.items = ap length c.as_slice-levels.ensures.value in
    omega (arith, counted, size)

-- the last level, which is the one of that number
row_is : (levels rows : List (List (Option ℕ))) (points : ℕ) (row shown : List (Option ℕ)) → points < length levels → rows ≡ levels → row ≡ get_or rows points row → shown ≡ row → shown ≡ get_or levels points []
row_is levels rows points row shown inside same is shows =
    shows ∙ get_or_read levels points row inside (is ∙ ap (λ (ls : List (List (Option ℕ))). get_or ls points row) same) []

pub unwrap-start-requires : goal.unwrap-start-requires
unwrap-start-requires c =
    let counted = c.loop.invariant.counted in
    let inside : c.args.points < length c.loop.levels.items = omega (arith, counted) in
    let row = row_is c.loop.levels.items c.as_slice-levels.result.now c.args.points c.index-levels-points.result c.as_slice-2.result.now inside c.as_slice-levels.ensures.value c.index-levels-points.is c.as_slice-2.ensures in
    subst IsSome (ap (position (λ (by : Option ℕ). is_some by)) (sym row) ∙ sym c.first_raised-2.ensures) (c.loop.invariant.rose c.args.points inside)

start_in : (edges : List Edge) (points counter : ℕ) (levels rows : List (List (Option ℕ))) (now : List ℕ) (row shown : List (Option ℕ)) (found : Option ℕ) (start : ℕ) → IsUnderWay edges points counter levels now → points < length levels
    → rows ≡ levels → row ≡ get_or rows points row → shown ≡ row → found ≡ position (λ (by : Option ℕ). is_some by) shown → found ≡ Some start → (start < points) × IsSome (get_or (get_or levels points []) start None)
start_in edges points counter levels rows now row shown found start progress inside same is shows finds some =
    raised_start edges points counter levels now progress points start inside
    (ap (position (λ (by : Option ℕ). is_some by)) (sym (row_is levels rows points row shown inside same is shows)) ∙ sym finds ∙ some)

pub overflow_cast-start : goal.overflow_cast-start
overflow_cast-start c =
    let few = c.requires.few in
    let counted = c.loop.invariant.counted in
    let start = start_in c.args.edges.now c.args.points c.loop.counter c.loop.levels.items c.as_slice-levels.result.now c.loop.now.items c.index-levels-points.result c.as_slice-2.result.now c.first_raised-2.result c.unwrap-start.result
    c.loop.invariant (omega (arith, counted))
    c.as_slice-levels.ensures.value c.index-levels-points.is c.as_slice-2.ensures c.first_raised-2.ensures c.unwrap-start.ensures in
    let within = start.0 in
    omega (arith, few, within)

pub trace-requires-clause-history : goal.trace-requires-clause-history
trace-requires-clause-history c =
    (c.loop.now.items, subst (λ (ls : List (List (Option ℕ))). IsHistory c.args.edges.now c.args.points ls c.loop.now.items) (sym c.as_slice-levels.ensures.value) c.loop.invariant.history)

pub trace-requires-clause-many : goal.trace-requires-clause-many
trace-requires-clause-many c =
    let counted = c.loop.invariant.counted in
    let size : length c.as_slice-levels.result.now ≡ length c.loop.levels.items = ap length c.as_slice-levels.ensures.value in
    omega (arith, counted, size)

pub trace-requires-clause-start : goal.trace-requires-clause-start
trace-requires-clause-start c =
    let counted = c.loop.invariant.counted in
    (start_in c.args.edges.now c.args.points c.loop.counter c.loop.levels.items c.as_slice-levels.result.now c.loop.now.items c.index-levels-points.result c.as_slice-2.result.now c.first_raised-2.result c.unwrap-start.result
    c.loop.invariant (omega (arith, counted))
    c.as_slice-levels.ensures.value c.index-levels-points.is c.as_slice-2.ensures c.first_raised-2.ensures c.unwrap-start.ensures).0

pub trace-requires-clause-raised : goal.trace-requires-clause-raised
trace-requires-clause-raised c =
    let counted = c.loop.invariant.counted in
    let size : length c.as_slice-levels.result.now ≡ length c.loop.levels.items = ap length c.as_slice-levels.ensures.value in
    let last : length c.as_slice-levels.result.now - 1 ≡ c.args.points = omega (arith, counted, size) in
    let its = (start_in c.args.edges.now c.args.points c.loop.counter c.loop.levels.items c.as_slice-levels.result.now c.loop.now.items c.index-levels-points.result c.as_slice-2.result.now c.first_raised-2.result c.unwrap-start.result
    c.loop.invariant (omega (arith, counted))
    c.as_slice-levels.ensures.value c.index-levels-points.is c.as_slice-2.ensures c.first_raised-2.ensures c.unwrap-start.ensures).1 in
    subst (λ (ls : List (List (Option ℕ))). IsSome (get_or (get_or ls (length c.as_slice-levels.result.now - 1) []) c.unwrap-start.result None)) (sym c.as_slice-levels.ensures.value)
    (subst (λ (k : ℕ). IsSome (get_or (get_or c.loop.levels.items k []) c.unwrap-start.result None)) (sym last) its)

pub trace-requires-clause-first : goal.trace-requires-clause-first
trace-requires-clause-first c =
    let counted = c.loop.invariant.counted in
    let row = row_is c.loop.levels.items c.as_slice-levels.result.now c.args.points c.index-levels-points.result c.as_slice-2.result.now (omega (arith, counted)) c.as_slice-levels.ensures.value c.index-levels-points.is c.as_slice-2.ensures in
    let same : get_or c.as_slice-levels.result.now c.args.points [] ≡ get_or c.loop.levels.items c.args.points [] = ap (λ (ls : List (List (Option ℕ))). get_or ls c.args.points []) c.as_slice-levels.ensures.value in
    ap (position (λ (by : Option ℕ). is_some by)) (same ∙ sym row) ∙ sym c.first_raised-2.ensures ∙ c.unwrap-start.ensures

pub returns : goal.returns
returns c =
    let turned = subst (IsTurnedToLowest c.args.edges.now c.as_slice-3.result.now) (sym c.new-2.ensures) c.in_ok-turned.ensures.turned in
    let first = subst (IsLoopOfFirstWalk c.args.points c.args.edges.now) (sym c.as_slice-3.ensures.value) c.in_ok-walk.ensures.is_first in
    record {
      from_lowest = subst (IsLoopFromLowest c.args.edges.now) (sym c.new-2.ensures) c.in_ok-turned.ensures.from_lowest;
      loop = c.as_slice-3.result.now;
      first = first;
      turned = turned;
    }

pub from_lowest-requires : goal.from_lowest-requires
from_lowest-requires c = subst (IsLoop c.args.edges.now) (sym c.as_slice-3.ensures.value) c.in_ok-walk.ensures.is_loop
