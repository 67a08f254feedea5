-- What the edges that a row made change in a row of a table, all at once.
use Rattle.std.specs.Prelude.{◌≡◌, ◌<◌, ℤ, List, [], ◌∷◌, ◌++◌, map, fold, Option, Some, IsPermutation}
use Rattle.std.specs.FinMap as map_of
use Rattle.std.specs.List.{All}
use Rattle.net_model.specs.declared.ids.PointId.{PointId}
use Rattle.net_model.specs.declared.part.Edge.{Edge}
use Rattle.closure_model.specs.Keys.{Shape, key_cmp}
use Rattle.closure_model.specs.ReferenceRow.{IsBelow}
use Rattle.closure_model.specs.Tables.{Graph}
use Rattle.closure_model.specs.declared.rows.Made.{Made}
use Rattle.labelled_graph.specs.declared.entry.Entry.{Entry}
use Rattle.labelled_graph.specs.Changes.{IsEdgeFor}
use Rattle.labelled_graph.specs.Entries.{edge_into, key_into, wide_label}
use Rattle.labelled_graph.specs.Rows.{TargetRow, row_with, mirrored_for, AreRising}

-- no points, and no links
abbrev pub no_shape : Shape
no_shape = record { points = 0; activations = [] }

-- the edges that a row made
abbrev pub edges_made : List Made → List Edge
edges_made made = map (λ (one : Made). one.edge) made

-- edges that a row made for a target, each of them below what a table has of its key
pub record AreMadeFor (graph : Graph) (to : PointId) (made : List Made) : Type 0 where
  pub target : to.0 < graph.shape.points
  pub ends : All (λ (one : Made). one.edge.to ≡ to) made
  pub edges : All (λ (one : Made). IsEdgeFor graph.shape one.edge) made
  pub descends : All (λ (one : Made). IsBelow graph one.edge) made

-- entries are those of the edges that a row made, if these end in one point
abbrev pub AreEntriesIn : List Made → List Entry → Type 0
AreEntriesIn made entries = (to : PointId) → All (λ (one : Made). one.edge.to ≡ to) made → map (edge_into to) entries ≡ edges_made made

-- the same in some order
pub record AreEntriesOf (made : List Made) (entries : List Entry) : Type 0 where
  pub all : List Entry
  pub each : AreEntriesIn made all
  pub same : IsPermutation all entries

-- the weights of a row in which the key of one more entry has its weight
abbrev pub weights_set : PointId → map_of.FinMap key_cmp ℤ → Entry → map_of.FinMap key_cmp ℤ
weights_set to weights entry = map_of.insert weights (key_into to entry) entry.weight

-- the row in which the keys of entries have their weights
abbrev pub row_set : TargetRow → List Entry → TargetRow
row_set row entries = record row { weights = fold (weights_set row.to) row.weights entries }

-- a dense row in which the keys of entries have their words
abbrev pub word_set : List (Option ℤ) → Entry → List (Option ℤ)
word_set words entry = mirrored_for words entry.from (wide_label entry.label) (Some entry.weight)

-- the same for several entries
abbrev pub words_set : List (Option ℤ) → List Entry → List (Option ℤ)
words_set words entries = fold word_set words entries

-- entries are those of a row in which the keys of others have their weights
pub record IsMerged (to : PointId) (entries new all : List Entry) : Type 0 where
  pub rises : AreRising to all
  pub row : row_with to all ≡ row_set (row_with to entries) new

-- after one more entry: what was put to the end, with what is left, is the row in which its key has its weight, and whatever rises after
-- the entry rises after what was put
pub record IsNextOf (to : PointId) (before left : List Entry) (entry : Entry) (after rest : List Entry) : Type 0 where
  pub rises : AreRising to (after ++ rest)
  pub row : row_with to (after ++ rest) ≡ record { to = to; weights = weights_set to (row_with to (before ++ left)).weights entry }
  pub next : (more : List Entry) → AreRising to (before ++ entry ∷ more) → AreRising to (after ++ more)

-- the key of an entry comes after those that were put, and after it those of more entries
pub record CanPutNext (to : PointId) (before left : List Entry) (entry : Entry) : Type 0 where
  pub rises : AreRising to (before ++ left)
  pub after : (more : List Entry) × AreRising to (before ++ entry ∷ more)

-- while entries are put among others: what was put, with what is left, is the row in which the keys of those that are done have their
-- weights, and those to come rise after what was put
pub record IsMerging (to : PointId) (entries done more all left : List Entry) : Type 0 where
  pub rises : AreRising to (all ++ left)
  pub row : row_with to (all ++ left) ≡ row_set (row_with to entries) done
  pub next : AreRising to (all ++ more)
