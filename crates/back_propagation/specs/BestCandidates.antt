-- The best candidates for the keys of a row.
use Rattle.std.specs.Prelude.{◌≡◌, ◌≤◌, ◌<◌, ◌+◌, ◌⊎◌, ◌∷◌, ◌++◌, [], ℕ, ℤ, List, length, slice_get, replicate, Some, if◌then◌else◌}
use Rattle.std.specs.Bool.{MatchBool}
use Rattle.std.specs.List.{Contains, flat_map, list_any}
use Rattle.net_model.specs.Rules.{is_negative, joined_weight}
use Rattle.net_model.specs.declared.ids.PointId.{PointId}
use Rattle.net_model.specs.declared.part.Edge.{Edge}
use Rattle.closure_model.specs.DeltaEdges.{delta_at}
use Rattle.closure_model.specs.ReferenceRow.{first_slots}
use Rattle.closure_model.specs.Tables.{Graph, HasEdge}
use Rattle.labelled_graph.specs.Entries.{edge_into, wide_label}
use Rattle.labelled_graph.specs.declared.entry.Entry.{Entry}
use Rattle.back_propagation.specs.DeltaRows.{improves}
use Rattle.back_propagation.specs.BestKeys.{IsNoWorse}
use Rattle.back_propagation.specs.SlotPlaces.{place_in_slots, width_of, HasColumn}
use Rattle.back_propagation.specs.declared.best_candidates.Seeds.{Seeds}
use Rattle.back_propagation.specs.declared.best_candidates.BestCandidates.{BestCandidates}
use Rattle.back_propagation.specs.declared.best_candidates.Candidate.{Candidate}

-- one candidate is not worse than another for the same key
abbrev pub IsNoWorseThan : Candidate → Candidate → Type 0
IsNoWorseThan one other = IsNoWorse one.total one.weight one.place other.total other.weight other.place

-- a candidate is the one that was taken for its key
pub record HasCandidate (candidates : BestCandidates) (candidate : Candidate) : Type 0 where
  pub k : ℕ
  pub mark : slice_get candidates.marks.items candidate.to ≡ Some (k + 1)
  pub begin : slice_get candidates.begins.items k ≡ Some (candidate.weight, candidate.place)
  pub total : slice_get candidates.totals.items k ≡ Some candidate.total

-- for the key of a candidate one was taken that is not worse
pub record IsCovered (candidates : BestCandidates) (candidate : Candidate) : Type 0 where
  pub one : Candidate
  pub has : HasCandidate candidates one
  pub same_key : one.to ≡ candidate.to
  pub no_worse : IsNoWorseThan one candidate

-- each mark is 0 or the number of a candidate, and each candidate is for one key
pub record AreApart (candidates : BestCandidates) : Type 0 where
  pub even : length candidates.totals.items ≡ length candidates.begins.items
  pub within : (to mark : ℕ) → slice_get candidates.marks.items to ≡ Some mark → mark ≤ length candidates.begins.items
  pub apart : (one other k : ℕ) → slice_get candidates.marks.items one ≡ Some (k + 1) → slice_get candidates.marks.items other ≡ Some (k + 1) → one ≡ other

-- no candidate was taken for any of so many keys
pub record AreNone (count : ℕ) (candidates : BestCandidates) : Type 0 where
  pub marks : candidates.marks.items ≡ replicate count 0
  pub begins : candidates.begins.items ≡ []
  pub totals : candidates.totals.items ≡ []

-- candidates were relaxed: for each of them, and of those before, one that is not worse is taken, and no others are
pub record HasTaken (was now : BestCandidates) (list : List Candidate) : Type 0 where
  pub apart : AreApart now
  pub keys : length now.marks.items ≡ length was.marks.items
  pub kept : (candidate : Candidate) → IsCovered was candidate → IsCovered now candidate
  pub covers : (candidate : Candidate) → Contains list candidate → IsCovered now candidate
  pub sound : (candidate : Candidate) → HasCandidate now candidate → HasCandidate was candidate ⊎ Contains list candidate
  pub begins : (item : ℤ × ℕ) → Contains now.begins.items item
      → Contains was.begins.items item ⊎ ((candidate : Candidate) × Contains list candidate × ((candidate.weight, candidate.place) ≡ item))

-- the candidate over an edge of a row, in a column, and one before it
abbrev pub candidate_over : ℕ → Edge → ℕ → Edge → Candidate
candidate_over width edge column first = record {
  to = place_in_slots width first.from column;
  total = joined_weight first edge;
  weight = edge.weight;
  place = place_in_slots width edge.from column;
}

-- that candidate, if it is below what a table has
abbrev pub candidate_after : Graph → ℕ → Edge → ℕ → Edge → List Candidate
candidate_after table width edge column first = if improves table edge first then candidate_over width edge column first ∷ [] else []

-- the candidates over a negative edge of a row and the delta edges before it that are below what a table has
abbrev pub candidates_over : Graph → List (List Edge) → ℕ → Edge → ℕ → List Candidate
candidates_over table delta width edge column = if is_negative edge then flat_map (candidate_after table width edge column) (delta_at delta edge.from) else []

-- the candidates over the edge of an entry were relaxed, by the column in which its label stands
abbrev pub HasTakenOver : Graph → PointId → List (List Edge) → Entry → (was now : BestCandidates) → Type 0
HasTakenOver table to delta entry was now =
    (column : ℕ) × HasColumn table.shape to (wide_label entry.label) column
    × HasTaken was now (candidates_over table delta (width_of table.shape to) (edge_into to entry) column)

-- the place of an edge was put at the end of others exactly if the edge improves a table with any of some edges before it
abbrev pub IsPutIfSeed : Graph → ℕ → Edge → ℕ → List Edge → (items now : List (ℤ × ℕ)) → Type 0
IsPutIfSeed table width edge column firsts items now = MatchBool (list_any (improves table edge) firsts)
    (now ≡ items ++ (edge.weight, place_in_slots width edge.from column) ∷ []) (now ≡ items)

-- the place of an entry of a row, in the column of its label, is among some
abbrev pub IsWholeEntry : Graph → PointId → Entry → List (ℤ × ℕ) → Type 0
IsWholeEntry table to entry items = (column : ℕ) × HasColumn table.shape to (wide_label entry.label) column
    × Contains items (entry.weight, place_in_slots (width_of table.shape to) entry.from column)

-- it was put at the end of others
abbrev pub IsPutWhole : Graph → PointId → Entry → (items now : List (ℤ × ℕ)) → Type 0
IsPutWhole table to entry items now = (column : ℕ) × HasColumn table.shape to (wide_label entry.label) column
    × (now ≡ items ++ (entry.weight, place_in_slots (width_of table.shape to) entry.from column) ∷ [])

-- the candidates over the edge of an entry were relaxed, or its place was put among those with which the row is seeded anyway
abbrev pub HasGoneOver : Graph → PointId → List (List Edge) → Entry → (was now : Seeds) → Type 0
HasGoneOver table to delta entry was now =
    (HasTakenOver table to delta entry was.candidates now.candidates × (now.whole.items ≡ was.whole.items))
    ⊎ ((now.candidates ≡ was.candidates) × IsPutWhole table to entry was.whole.items now.whole.items)

-- for the keys of the candidates over the edge of an entry candidates were taken that are not worse
abbrev pub AreCoveredOver : Graph → PointId → List (List Edge) → Entry → BestCandidates → Type 0
AreCoveredOver table to delta entry candidates =
    (column : ℕ) × HasColumn table.shape to (wide_label entry.label) column
    × ((candidate : Candidate) → Contains (candidates_over table delta (width_of table.shape to) (edge_into to entry) column) candidate
    → IsCovered candidates candidate)

-- a candidate over an edge of the row of a target that is below what a table has
pub record IsCandidateOf (table : Graph) (to : PointId) (delta : List (List Edge)) (candidate : Candidate) : Type 0 where
  pub entry : Entry
  pub held : HasEdge table (edge_into to entry)
  pub column : ℕ
  pub in_column : HasColumn table.shape to (wide_label entry.label) column
  pub among : Contains (candidates_over table delta (width_of table.shape to) (edge_into to entry) column) candidate

-- a place is that of an entry of a row, with its weight
abbrev pub IsRowEntryAt : Graph → PointId → ℤ × ℕ → Type 0
IsRowEntryAt table to item = (entry : Entry) × HasEdge table (edge_into to entry) × IsWholeEntry table to entry (item ∷ [])

-- candidates for the keys of the row of a target: those over so many entries were relaxed, except for entries whose places stand among others, and no others
-- were
pub record AreTakenTo (table : Graph) (to : PointId) (delta : List (List Edge)) (entries : List Entry) (count : ℕ) (candidates : BestCandidates)
    (whole : List (ℤ × ℕ)) : Type 0 where
  pub apart : AreApart candidates
  pub keys : length candidates.marks.items ≡ length (first_slots table to)
  pub covers : (k : ℕ) (entry : Entry) → k < count → slice_get entries k ≡ Some entry → AreCoveredOver table to delta entry candidates
      ⊎ IsWholeEntry table to entry whole
  pub entries_whole : (item : ℤ × ℕ) → Contains whole item → IsRowEntryAt table to item
  pub sound : (candidate : Candidate) → HasCandidate candidates candidate → IsCandidateOf table to delta candidate
  pub begins : (item : ℤ × ℕ) → Contains candidates.begins.items item → (candidate : Candidate) × IsCandidateOf table to delta candidate
      × ((candidate.weight, candidate.place) ≡ item)
