-- The edges of a row as sources, which say where each begins and what it weighs, and as words, by the points in which they begin.
use Rattle.std.specs.Prelude.{◌≡◌, ◌<◌, ℕ, ℤ, pos, List, [], ◌∷◌, ◌++◌, length, Option, ◌⊎◌}
use Rattle.std.specs.Prelude.{slice_index_or, slice_set}
use Rattle.std.specs.List.{All, Contains}
use Rattle.net_model.specs.declared.ids.LinkId.{LinkId}
use Rattle.net_model.specs.declared.ids.PointId.{PointId}
use Rattle.net_model.specs.declared.part.Edge.{Edge}
use Rattle.labelled_graph.specs.Words.{absent, FitsWord}
use Rattle.forward_closure.specs.declared.source.Source.{Source}

-- the source of an edge
abbrev pub source_of : Edge → Source
source_of edge = record { from = edge.from; weight = edge.weight }

-- the edge of a source in the row of a target and a label
abbrev pub edge_from : Source → PointId → Option LinkId → Edge
edge_from source to label = record { from = source.from; to = to; label = label; weight = source.weight }

-- the list of a number
abbrev pub list_at : List (List Source) → ℕ → List Source
list_at lists place = slice_index_or lists place []

-- the lists after a source was put at the end of one
abbrev pub added_at : List (List Source) → ℕ → Source → List (List Source)
added_at lists place source = slice_set lists place (list_at lists place ++ source ∷ [])

-- sources begin in so many points, and words hold their weights
abbrev pub AreStorable : ℕ → List Source → Type 0
AreStorable points sources = All (λ source. (source.from.0 < points) × FitsWord source.weight) sources

-- words, by the points in which edges begin: each is the greatest, or the weight of a source
abbrev pub AreWordsOfSources : List Source → List ℤ → Type 0
AreWordsOfSources sources words = (from : PointId) → from.0 < length words
    → (slice_index_or words from.0 (pos 0) ≡ absent) ⊎ Contains sources (record { from = from; weight = slice_index_or words from.0 (pos 0) })
