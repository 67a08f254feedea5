-- The least weight of each key among entries, in rows of words, and what is looked up there. By these a table proof is judged; they are no
-- part of what a judgement means.
use Rattle.std.specs.Prelude.{◌≡◌, ◌<◌, ◌+◌, ◌^◌, ℕ, ℤ, pos, ◌<ℤ◌, ◌+ℤ◌, ◌&&◌, ◌||◌, Bool, false, List, [], ◌∷◌, length, fold, replicate, Option, None, Some}
use Rattle.std.specs.Prelude.{int_lt, int_le}
use Rattle.std.specs.Int.{int_min, int_max}
use Rattle.std.specs.List.{All, slice_index_or, slice_set}
use Rattle.net_model.specs.Network.{Plan, IsPlan}
use Rattle.net_model.specs.Edges.{IsEdge}
use Rattle.net_model.specs.declared.ids.PointId.{PointId}
use Rattle.net_model.specs.declared.ids.LinkId.{LinkId}
use Rattle.net_model.specs.declared.part.Edge.{Edge}
use Rattle.cert_checker.specs.Sound.{AreSound}

-- the word of a key without an entry: the greatest of 64 bits with a sign
abbrev pub absent : ℤ
absent = pos 9223372036854775807

-- a row for each target and one for each label, with a word for each point in which an edge may begin
pub record Weights : Type 0 where
  pub ordinary : List (List ℤ)
  pub labelled : List (List ℤ)

abbrev pub row_in : List (List ℤ) → ℕ → List ℤ
row_in rows place = slice_index_or rows place []

-- the row of the edges that end in a point, or that have a label
abbrev pub row_by : Weights → PointId → Option LinkId → List ℤ
row_by table to None = row_in table.ordinary to.0
row_by table to (Some name) = row_in table.labelled name.0

abbrev pub row_of_words : Weights → Edge → List ℤ
row_of_words table edge = row_by table edge.to edge.label

-- the word of the key of an edge
abbrev pub weight_in : Weights → Edge → ℤ
weight_in table edge = slice_index_or (row_of_words table edge) edge.from.0 absent

-- there is a word for the key of an edge
abbrev pub IsPlacedIn : Weights → PointId → Option LinkId → ℕ → Type 0
IsPlacedIn table to None from = (to.0 < length table.ordinary) × (from < length (row_in table.ordinary to.0))
IsPlacedIn table to (Some name) from = (name.0 < length table.labelled) × (from < length (row_in table.labelled name.0))

abbrev pub HasPlaceInTable : Weights → Edge → Type 0
HasPlaceInTable table edge = IsPlacedIn table edge.to edge.label edge.from.0

-- there is a row of the edges that end where an edge begins, as long as that of the edge
abbrev pub IsPlacedBefore : Weights → Edge → Type 0
IsPlacedBefore table second =
    (second.from.0 < length table.ordinary) × (length (row_in table.ordinary second.from.0) ≡ length (row_of_words table second))

-- rows for so many points and so many links, each of which has a word for each point
pub record IsSizedFor (points links : ℕ) (table : Weights) : Type 0 where
  pub targets : length table.ordinary ≡ points
  pub labels : length table.labelled ≡ links
  pub ordinary_rows : All (λ (row : List ℤ). length row ≡ points) table.ordinary
  pub labelled_rows : All (λ (row : List ℤ). length row ≡ points) table.labelled

-- a table without entries
abbrev pub no_weights : ℕ → ℕ → Weights
no_weights points links = record { ordinary = replicate points (replicate points absent); labelled = replicate links (replicate points absent) }

-- a row, and rows, with one word lowered to a weight
abbrev pub lowered_row : List ℤ → ℕ → ℤ → List ℤ
lowered_row row from weight = slice_set row from (int_min (slice_index_or row from absent) weight)

abbrev pub lowered_rows : List (List ℤ) → ℕ → ℕ → ℤ → List (List ℤ)
lowered_rows rows place from weight = slice_set rows place (lowered_row (row_in rows place) from weight)

abbrev pub with_entry_by : Weights → PointId → Option LinkId → ℕ → ℤ → Weights
with_entry_by table to None from weight = record table { ordinary = lowered_rows table.ordinary to.0 from weight }
with_entry_by table to (Some name) from weight = record table { labelled = lowered_rows table.labelled name.0 from weight }

-- a table with one entry more
abbrev pub with_entry : Weights → Edge → Weights
with_entry table edge = with_entry_by table edge.to edge.label edge.from.0 edge.weight

-- the table of entries
abbrev pub least_of : Plan → List Edge → Weights
least_of net edges = fold with_entry (no_weights (length net.points) (length net.links)) edges

-- the key of an edge has at most its weight
abbrev pub has_word_at_most : Weights → Edge → Bool
has_word_at_most table edge = int_le (weight_in table edge) edge.weight

-- with a negative weight after it a first premise goes below the word there
abbrev pub descends : ℤ → ℤ → ℤ → Bool
descends first there weight = int_lt first absent && int_lt (int_max first (pos 0) +ℤ weight) there

-- for some point, a first premise in the one row goes, with a negative weight after it, below the word in the other row
abbrev pub improves_in : List ℤ → List ℤ → ℤ → Bool
improves_in (first ∷ firsts) (there ∷ others) weight = descends first there weight || improves_in firsts others weight
improves_in firsts others weight = false

-- an edge of the network whose weight is below that of a key without an entry
pub record IsSmallEdge (net : Plan) (edge : Edge) : Type 0 where
  pub is_edge : IsEdge net edge
  pub small : edge.weight <ℤ absent

-- the least weights of these sound edges of a network, whose lines from this one on have numbers of 64 bits
pub record IsLeastTable (net : Plan) (first : ℕ) (edges : List Edge) (table : Weights) : Type 0 where
  pub plan : IsPlan net
  pub sound : AreSound net edges
  pub lines : first + length edges < 2 ^ 64
  pub least : table ≡ least_of net edges
  pub shape : IsSizedFor (length net.points) (length net.links) table
