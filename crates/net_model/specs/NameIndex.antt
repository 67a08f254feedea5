-- The index of a list by name.
use Rattle.std.specs.Prelude.{◌≡◌, ℕ, ◌+◌, ◌*◌, ◌%◌, ◌^◌, ◌<◌, List, length, map, Option, Some, slice_get}
use Rattle.std.specs.List.{All, Contains, fold}
use Rattle.std.specs.List.Sorted.{IsSortedByKey}
use Rattle.std.specs.Option.{option_cmp}
use Rattle.std.specs.Ordering.{nat_cmp, on, then_cmp}
use Rattle.std.specs.declared.cmp.Ordering.{Ordering}
use Rattle.net_model.specs.Names.{name_cmp}
use Rattle.net_model.specs.declared.name_index.KeyedPlace.{KeyedPlace}

-- a number in which every byte of a name has its part
abbrev pub mixed : List ℕ → ℕ
mixed = fold (λ (sum byte : ℕ). ((sum * 79) % 2 ^ 128 + byte) % 2 ^ 128) 0

-- the key of a name: its length, and below that the number of its bytes
unfoldable pub name_key : List ℕ → ℕ
name_key name = length name * 2 ^ 122 + mixed name % 2 ^ 122

-- a place of a list of names: its key, and the name that stands there
abbrev pub entry : List (List ℕ) → KeyedPlace → ℕ × Option (List ℕ)
entry names keyed = (keyed.key, slice_get names keyed.place)

-- the order of an index: by the keys, and those of one key by the names
abbrev pub entry_cmp : ℕ × Option (List ℕ) → ℕ × Option (List ℕ) → Ordering
entry_cmp = then_cmp (on (λ (one : ℕ × Option (List ℕ)). one.0) nat_cmp) (on (λ (one : ℕ × Option (List ℕ)). one.1) (option_cmp name_cmp))

-- the key of a place is that of the name that stands there
abbrev pub IsKeyed : List (List ℕ) → KeyedPlace → Type 0
IsKeyed names keyed = (name : List ℕ) × (slice_get names keyed.place ≡ Some name) × (keyed.key ≡ name_key name)

-- the places without their keys
abbrev pub places_of : List KeyedPlace → List ℕ
places_of keyed = map (λ (one : KeyedPlace). one.place) keyed

-- the places of a list of names, each of them, with their keys
pub record HasEachPlace (names : List (List ℕ)) (keyed : List KeyedPlace) : Type 0 where
  pub each : (p : ℕ) → p < length names → Contains (places_of keyed) p
  pub keys : All (IsKeyed names) keyed

-- the same, sorted by the names
pub record IsNameIndex (names : List (List ℕ)) (index : List KeyedPlace) : Type 0 where
  pub places : HasEachPlace names index
  pub sorted : IsSortedByKey (entry names) entry_cmp index
