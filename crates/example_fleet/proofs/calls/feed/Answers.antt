use Rattle.std.proofs.Common.{◌≡◌, ◌⊎◌, inl, inr, ◌<◌, ◌≤◌, ℕ, List, length, get_or, Some, None, ap, arith}
use Rattle.std.proofs.lemmas.Option.{slice_get_cases}
use Rattle.std.specs.List.{slice_get}
use Rattle.example_fleet.proofs.calls.feed.Goals as goal

-- some item stands within a list
some_at : {A : Type 0} (xs : List A) (place : ℕ) → place < length xs → (x : A) × (slice_get xs place ≡ Some x)
some_at {A} xs place inside = by (slice_get_cases xs place).1
  where
    by : ((x : A) × (place < length xs) × (slice_get xs place ≡ Some x) × (get_or xs place x ≡ x)) ⊎ ((length xs ≤ place) × (slice_get xs place ≡ None)) → (x : A) × (slice_get xs place ≡ Some x)
    by (inl (x, within, found, got)) = (x, found)
    by (inr (past, none)) = absurd (omega (arith, inside, past))

pub feed-requires-clause-points : goal.feed-requires-clause-points
feed-requires-clause-points c =
    let inside : c.args.plan < length c.args.fleet.now = omega (arith, c.requires.three, c.requires.plan) in
    let found = some_at c.args.fleet.now c.args.plan inside in
    let none : length c.as_slice.result.now ≡ 0 = ap length c.as_slice.ensures in
    (found.0, found.1, λ k d within. absurd (omega (arith, within, none)))
