-- The words of a dense row.
use Rattle.std.specs.Prelude.{◌≡◌, ◌<◌, ℕ, ℤ, pos, negsuc, ◌+ℤ◌, ◌≤ℤ◌, ◌<ℤ◌, ◌≤◌, unsigned_abs, int_lt, List, length, Option, Some, None, IsSomeAnd}
use Rattle.std.specs.Prelude.{if◌then◌else◌, slice_index_or}
use Rattle.std.specs.Int.{int_max}
use Rattle.std.specs.Ordering.{int_eq}
use Rattle.net_model.specs.Limits.{most_size}
use Rattle.net_model.specs.declared.ids.PointId.{PointId}
use Rattle.net_model.specs.declared.ids.LinkId.{LinkId}
use Rattle.closure_model.specs.Keys.{Key}
use Rattle.closure_model.specs.Tables.{Graph, weight_of}

-- the word of a place without a weight: the greatest of 32 bits with a sign
abbrev pub absent : ℤ
absent = pos 2147483647

-- the least word of 32 bits with a sign
abbrev pub least_word : ℤ
least_word = negsuc 2147483647

-- what a word holds
abbrev pub held : ℤ → Option ℤ
held word = if int_eq word absent then None else Some word

-- the word that is nearest to a weight
abbrev pub nearest_word : ℤ → ℤ
nearest_word weight = if int_lt weight least_word then least_word else (if int_lt absent weight then absent else weight)

-- The word of what a key has. It is the weight itself if that is below the greatest word and not below the least one; else it still is the
-- greatest word or not below the weight.
abbrev pub word_of : Option ℤ → ℤ
word_of None = absent
word_of (Some weight) = nearest_word weight

-- a place of a dense row gives its weight: a word that is neither the least nor the greatest is of that weight alone
pub record IsRecorded (row : List (Option ℤ)) (place : ℕ) (weight : ℤ) : Type 0 where
  pub inside : place < length row
  pub has : slice_index_or row place None ≡ Some weight
  pub above : least_word <ℤ weight

-- a weight that a word holds, as every derivable weight is: its size is that of a number of a sound network
abbrev pub FitsWord : ℤ → Type 0
FitsWord weight = unsigned_abs weight ≤ most_size

-- every weight of a table is one that a word holds
abbrev pub AllFitWords : Graph → Type 0
AllFitWords graph = (key : Key) (weight : ℤ) → weight_of graph key ≡ Some weight → FitsWord weight

-- a weight, counted as 0 if it is below, plus a negative weight is not less than what another place holds
abbrev pub SaturatesHeld : Option ℤ → Option ℤ → ℤ → Type 0
SaturatesHeld None there weight = Unit {0}
SaturatesHeld (Some first) there weight = IsSomeAnd there (λ other. other ≤ℤ (int_max first (pos 0) +ℤ weight))

-- words are, by the points in which edges begin, those of what a table has for a target and a label; there may be fewer than points
abbrev pub AreWordsOfColumn : Graph → PointId → Option LinkId → List ℤ → Type 0
AreWordsOfColumn graph to label words = (from : PointId) → from.0 < length words
    → slice_index_or words from.0 (pos 0) ≡ word_of (weight_of graph (record { to = to; from = from; label = label }))
