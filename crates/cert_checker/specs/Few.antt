-- A row of words, stored as the points in which an entry begins, each with its word.
use Rattle.std.specs.Prelude.{◌≡◌, ℕ, ◌<◌, ◌≤◌, ◌==◌, ℤ, List, [], ◌∷◌, length, map, Result, Ok, Err, if◌then◌else◌}
use Rattle.std.specs.List.{range_with_len, slice_index_or}
use Rattle.cert_checker.specs.Least.{absent}
use Rattle.cert_checker.specs.declared.few.Start.{Start}

-- the word that they have for a point
abbrev pub start_word_of : List Start → ℕ → ℤ
start_word_of [] from = absent
start_word_of (start ∷ starts) from = if start.from == from then start.word else start_word_of starts from

-- the words that they have for so many points
abbrev pub words_of : ℕ → List Start → List ℤ
words_of points starts = map (start_word_of starts) (range_with_len 0 points)

-- each begins in one of so many points, and the points rise
pub record AreRisingStarts (points : ℕ) (starts : List Start) : Type 0 where
  pub inside : (k : ℕ) (d : Start) → k < length starts → (slice_index_or starts k d).from < points
  pub rise : (j k : ℕ) (d : Start) → j < k → k < length starts → (slice_index_or starts j d).from < (slice_index_or starts k d).from

-- one of a point stands at a place
pub record IsStartAt (starts : List Start) (from place : ℕ) : Type 0 where
  pub inside : place < length starts
  pub same : (d : Start) → (slice_index_or starts place d).from ≡ from

-- none is of a point: those before a place are of lower points, the others of higher ones
pub record IsGapForPoint (starts : List Start) (from place : ℕ) : Type 0 where
  pub inside : place ≤ length starts
  pub lower : (k : ℕ) (d : Start) → k < place → (slice_index_or starts k d).from < from
  pub higher : (k : ℕ) (d : Start) → place ≤ k → k < length starts → from < (slice_index_or starts k d).from

-- where the one of a point stands, or the place at which it would
abbrev pub IsPlaceOfPoint : List Start → ℕ → Result ℕ ℕ → Type 0
IsPlaceOfPoint starts from (Ok place) = IsStartAt starts from place
IsPlaceOfPoint starts from (Err place) = IsGapForPoint starts from place

-- the words if there are some, else those that are stored as few
abbrev pub words_or : List ℤ → List ℤ → List ℤ
words_or [] few = few
words_or (word ∷ words) few = word ∷ words
