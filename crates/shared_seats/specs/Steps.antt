-- What a step of a seat asks of the rule of its words, and what it shows.
use Rattle.std.specs.Prelude.{◌≡◌, ◌≢◌, ℕ, ◌^◌, ◌<◌, List, [], ◌∷◌, ◌++◌, set, slice_index}
use mathlib.Core.Option.{some}
use lib.ListN.{get_elem?}
use Rattle.atomic_table.specs.Table.{Me, Step}
use Rattle.shared_seats.specs.declared.standing.Standing.{Standing}
use Rattle.shared_seats.specs.declared.standing.Standing.TheVariants.{Live, Spent}

module _ {V : Type 0} where
  -- a step showed a live seat what it found; it is live after it, and as many seats may be split from it
  pub record Shows (count : V → ℕ) (found : V → V → Type 0) (before after : Me (Unit {0}) (Standing V)) : Type 0 where
    pub view : V
    pub was : before.0 ≡ Live view
    pub later : V
    pub shows : found view later
    pub same : count later ≡ count view
    pub is : after ≡ (Live later, [])

  -- what a step shows to its seat
  abbrev pub shown : (V → ℕ) → (ℕ → ℕ → ℕ → V → ℕ → V → Type 0) → Step (Unit {0}) → Me (Unit {0}) (Standing V) → ℕ → Me (Unit {0}) (Standing V) → Type 0
  shown count finding step before found after = Shows count (λ view later. finding step.word step.first step.second view found later) before after

  module _ (holds : List ℕ → List (Standing V) → Type 0) where
    -- Whatever the words and the seats are when a word becomes another: a live seat that knows this can know something else from then on, by which
    -- the rule is kept, the seat is shown what it found, and as many seats may be split from it.
    abbrev pub MayStep : (count : V → ℕ) → (place : ℕ) → (after : ℕ → ℕ) → (view : V) → (shows : ℕ → V → Type 0) → Type 0
    MayStep count place after view shows =
        (words : List ℕ) (seats : List (Standing V)) (seat : ℕ) → holds words seats → get_elem? seats seat ≡ some (Live view) → slice_index words place < 2 ^ 64
        → (later : V) × holds (set words place (after (slice_index words place))) (set seats seat (Live later))
        × (count later ≡ count view) × shows (slice_index words place) later

    -- the rule is kept if a live seat that knows this is split in two
    abbrev pub MaySplit : (view from off : V) → Type 0
    MaySplit view from off =
        (words : List ℕ) (seats : List (Standing V)) (seat : ℕ) → holds words seats → get_elem? seats seat ≡ some (Live view)
        → holds words (set seats seat (Live from) ++ Live off ∷ [])

    -- the rule is kept if a live seat is joined into another
    abbrev pub MayJoin : (view joining both : V) → Type 0
    MayJoin view joining both =
        (words : List ℕ) (seats : List (Standing V)) (seat other : ℕ) → holds words seats → get_elem? seats seat ≡ some (Live view)
        → get_elem? seats other ≡ some (Live joining) → other ≢ seat → holds words (set (set seats seat (Live both)) other Spent)

    -- words at the end: those of a state under the rule, in which a seat knows this
    pub record IsLast (view : V) (words : List ℕ) : Type 0 where
      pub seats : List (Standing V)
      pub rule : holds words seats
      pub seat : ℕ
      pub at : get_elem? seats seat ≡ some (Live view)
