use Rattle.std.proofs.Common.{◌≡◌, ◌++◌, ◌-◌, ℕ, List, length, drop, take, sym, ap, subst, ◌∙◌, arith}
use Rattle.std.proofs.lemmas.List.{take_all, length-drop}
use Rattle.earliest_times.specs.Least.{IsLoopFromLowest}
use Rattle.earliest_times.proofs.TurnLemmas.{from_lowest}
use Rattle.earliest_times.proofs.turn.from_lowest.Goals as goal

-- the two parts of a walk, one after the other
parts_are : (walk turned all : List ℕ) (first : ℕ) → turned ≡ take (length walk - first) (drop first walk) → all ≡ turned ++ take first walk → all ≡ drop first walk ++ take first walk
parts_are walk turned all first back prefix =
    prefix ∙ ap (λ (xs : List ℕ). xs ++ take first walk) (back ∙ take_all (length walk - first) (drop first walk) (let size = length-drop first walk in omega (arith, size)))

pub returns-clause-from_lowest : goal.returns-clause-from_lowest
returns-clause-from_lowest c =
    let walk = c.args.walk.now in
    let first = c.lowest-first.result in
    let same = parts_are walk c.in_ok-turned.turned.items c.extend_from_slice.new.self.items first c.in_ok-turned.ensures.items c.in_ok-extend_from_slice.ensures.items in
    subst (IsLoopFromLowest c.args.edges.now) (sym same) (from_lowest c.args.edges.now walk first c.requires c.lowest-first.ensures)

pub returns-clause-turned : goal.returns-clause-turned
returns-clause-turned c =
    let walk = c.args.walk.now in
    let first = c.lowest-first.result in
    record { at = first; lowest = c.lowest-first.ensures; is = parts_are walk c.in_ok-turned.turned.items c.extend_from_slice.new.self.items first c.in_ok-turned.ensures.items c.in_ok-extend_from_slice.ensures.items }
