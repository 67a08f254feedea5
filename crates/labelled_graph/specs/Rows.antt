-- Rows of a table: the entries of the edges that end in one point, in the order of their keys.
use Rattle.std.specs.Prelude.{◌≡◌, ◌<◌, ◌≤◌, ℕ, ℤ, T, List, length, map, refl, Option, Some, None, slice_index_or, slice_set}
use Rattle.std.specs.Coded.{Coded, code_by, coded_ℤ, coded×}
use Rattle.std.specs.FinMap as map_of
use Rattle.std.specs.declared.cmp.Ordering.TheVariants.{Less, Greater}
use Rattle.std.specs.declared.result.Result.{Result}
use Rattle.std.specs.declared.result.Result.TheVariants.{Ok, Err}
use Rattle.net_model.specs.declared.ids.PointId.{PointId}
use Rattle.net_model.specs.declared.ids.LinkId.{LinkId}
use Rattle.closure_model.specs.Keys.{Key, key_cmp, ordinary_key}
use Rattle.closure_model.specs.Codes.{point_code, key_code}
use Rattle.labelled_graph.specs.declared.entry.Entry.{Entry}
use Rattle.labelled_graph.specs.Entries.{key_into}
use Rattle.labelled_graph.specs.Words.{held, word_of, FitsWord}

-- a row: the point in which its edges end, and their weights by their keys
pub record TargetRow : Type 0 where
  pub to : PointId
  pub weights : map_of.FinMap key_cmp ℤ

-- a row as data
abbrev pub row_code : Coded TargetRow
row_code = code_by (PointId × map_of.FinMap key_cmp ℤ) (coded× point_code (map_of.code key_code coded_ℤ)) (λ row. (row.to, row.weights))
    (λ parts. record { to = parts.0; weights = parts.1 }) (λ _. refl)

-- the key of an entry with its weight
abbrev pub keyed : PointId → Entry → Key × ℤ
keyed to entry = (key_into to entry, entry.weight)

-- the row of entries
abbrev pub row_with : PointId → List Entry → TargetRow
row_with to entries = record { to = to; weights = map_of.from_sorted (map (keyed to) entries) }

-- the keys of entries strictly rise
abbrev pub AreRising : PointId → List Entry → Type 0
AreRising to entries = T (map_of.is_sorted key_cmp (map (keyed to) entries))

-- a dense row has, for the points of its places, what a row has for the ordinary edges that begin there, by the nearest words
abbrev pub IsMirrorOf : TargetRow → List (Option ℤ) → Type 0
IsMirrorOf row words = (from : PointId) → from.0 < length words
    → slice_index_or words from.0 None ≡ held (word_of (map_of.get row.weights (ordinary_key from row.to)))

-- a dense row after a key was given a weight or lost it
abbrev pub mirrored_for : List (Option ℤ) → PointId → Option LinkId → Option ℤ → List (Option ℤ)
mirrored_for words from None weight = slice_set words from.0 (held (word_of weight))
mirrored_for words from (Some label) weight = words

-- the same by a key
abbrev pub mirrored : List (Option ℤ) → Key → Option ℤ → List (Option ℤ)
mirrored words key weight = mirrored_for words key.from key.label weight

-- what is kept of a row: its entries, whose keys rise, and a dense row
pub record IsKeptRow (to : PointId) (entries : List Entry) (ordinary : List (Option ℤ)) : Type 0 where
  pub rises : AreRising to entries
  pub mirror : IsMirrorOf (row_with to entries) ordinary

-- every weight of a row is one that a word holds
abbrev pub AllFitIn : TargetRow → Type 0
AllFitIn row = (key : Key) (weight : ℤ) → map_of.get row.weights key ≡ Some weight → FitsWord weight

-- an entry of the key stands at a place
pub record IsEntryAt (to : PointId) (entries : List Entry) (key : Key) (place : ℕ) : Type 0 where
  pub inside : place < length entries
  pub same : (d : Entry) → key_into to (slice_index_or entries place d) ≡ key

-- no entry has the key: those before a place are of lesser keys, the others of greater ones
pub record IsGapFor (to : PointId) (entries : List Entry) (key : Key) (place : ℕ) : Type 0 where
  pub inside : place ≤ length entries
  pub lesser : (j : ℕ) (d : Entry) → j < place → key_cmp (key_into to (slice_index_or entries j d)) key ≡ Less
  pub greater : (j : ℕ) (d : Entry) → place ≤ j → j < length entries → key_cmp (key_into to (slice_index_or entries j d)) key ≡ Greater

-- where the key stands, or the place at which it would
abbrev pub IsPlaceOf : PointId → List Entry → Key → Result ℕ ℕ → Type 0
IsPlaceOf to entries key (Ok place) = IsEntryAt to entries key place
IsPlaceOf to entries key (Err place) = IsGapFor to entries key place

-- a row without edges, of the first point
abbrev pub no_row : TargetRow
no_row = record { to = record { 0 = 0 }; weights = map_of.empty }

-- the row of a point without edges
abbrev pub empty_row : ℕ → TargetRow
empty_row k = record { to = record { 0 = k }; weights = map_of.empty }
