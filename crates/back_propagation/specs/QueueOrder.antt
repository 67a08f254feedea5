-- The order of queued places.
use Rattle.std.specs.Prelude.{◌≡◌, ℤ, ℕ, ◌<ℤ◌, ◌<◌, ◌≤◌, ◌⊎◌, List, length, map, slice_index_or}
use Rattle.std.specs.List.{All, Contains}
use Rattle.std.specs.BinaryHeap.{IsHeap, heap_items}
use Rattle.std.specs.declared.collections.BinaryHeap.{BinaryHeap}
use Rattle.std.specs.Ordering.{int_cmp, nat_cmp, ordering_then}
use Rattle.std.specs.declared.alloc.Global.{Global}
use Rattle.std.specs.declared.cmp.Reverse.{Reverse}

-- one comes no later than another: it has less weight, or the same and a place that is no higher
abbrev pub IsNotAfter : ℤ × ℕ → ℤ × ℕ → Type 0
IsNotAfter one other = (one.0 <ℤ other.0) ⊎ ((one.0 ≡ other.0) × (one.1 ≤ other.1))

abbrev pub IsOrderedHeap : BinaryHeap (Reverse (ℤ × ℕ)) Global → Type 0
IsOrderedHeap heap = IsHeap (λ x y. ordering_then (int_cmp y.0.0 x.0.0) (nat_cmp y.0.1 x.0.1)) (heap_items heap)

-- what is queued in a heap
abbrev pub heap_list : BinaryHeap (Reverse (ℤ × ℕ)) Global → List (ℤ × ℕ)
heap_list heap = map (λ one. one.0) (heap_items heap)

-- those that are left of a list, of which so many were taken, stand in turn
abbrev pub AreInTurn : ℕ → List (ℤ × ℕ) → Type 0
AreInTurn taken items = (i j : ℕ) (d : ℤ × ℕ) → taken ≤ i → i < j → j < length items → IsNotAfter (slice_index_or items i d) (slice_index_or items j d)

-- the next of a list comes no later than all of a heap
abbrev pub IsAhead : List (ℤ × ℕ) → ℕ → List (ℤ × ℕ) → Type 0
IsAhead items taken others = (taken < length items) × ((d : ℤ × ℕ) → All (IsNotAfter (slice_index_or items taken d)) others)

-- one of a heap comes no later than the next of a list, if that has a next
abbrev pub IsBehind : List (ℤ × ℕ) → ℕ → List (ℤ × ℕ) → Type 0
IsBehind items taken others = taken < length items → (d : ℤ × ℕ) → (one : ℤ × ℕ) × Contains others one × IsNotAfter one (slice_index_or items taken d)
