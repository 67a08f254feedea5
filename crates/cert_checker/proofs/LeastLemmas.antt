-- The least weights of entries, in rows of words: an edge stands among entries exactly if its key has at most its weight.
use Rattle.std.proofs.Common.{◌≡◌, ◌≢◌, ℕ, ◌<◌, ◌==◌, ℤ, Bool, true, false, cond, ◌&&◌, List, [], length, get_or, get_or-set_same, get_or-set_other, length-set, replicate, Option, Some, None, refl, sym, ap, ◌∙◌, subst, arith}
use Rattle.std.specs.Int.{int_min}
use Rattle.std.specs.List.{All}
use Rattle.std.proofs.lemmas.Bool.Decides.{nat_tests}
use Rattle.std.proofs.lemmas.List.{length-replicate}
use Rattle.std.proofs.lemmas.List.Elements.{All-set, All-replicate, All-get_or}
use Rattle.std.proofs.lemmas.Option.{slice_get_within}
use Rattle.net_model.specs.Network.{Plan, IsPoint}
use Rattle.net_model.specs.Edges.{IsEdge, IsLabelled}
use Rattle.net_model.specs.declared.ids.PointId.{PointId}
use Rattle.net_model.specs.declared.ids.LinkId.{LinkId}
use Rattle.net_model.specs.declared.part.Edge.{Edge}
use Rattle.cert_checker.specs.Least.{absent, Weights, row_in, row_by, IsPlacedIn, HasPlaceInTable, IsPlacedBefore, IsSizedFor, no_weights, lowered_row, lowered_rows, with_entry_by, with_entry}

-- ---- rows
pub row_length : (points : ℕ) (rows : List (List ℤ)) (place : ℕ) → All (λ (row : List ℤ). length row ≡ points) rows → place < length rows → length (row_in rows place) ≡ points
row_length points rows place all within = All-get_or (λ (row : List ℤ). length row ≡ points) rows place [] within all

lowered_lengths : (points : ℕ) (rows : List (List ℤ)) (place from : ℕ) (weight : ℤ) → All (λ (row : List ℤ). length row ≡ points) rows → place < length rows → All (λ (row : List ℤ). length row ≡ points) (lowered_rows rows place from weight)
lowered_lengths points rows place from weight all within =
    let same : length (lowered_row (row_in rows place) from weight) ≡ points = length-set (row_in rows place) from _ ∙ row_length points rows place all within in
    All-set (λ (row : List ℤ). length row ≡ points) rows place (lowered_row (row_in rows place) from weight) same all

pub for_none : (points links : ℕ) → IsSizedFor points links (no_weights points links)
for_none points links = record {
  targets = length-replicate points _;
  labels = length-replicate links _;
  ordinary_rows = All-replicate (λ (row : List ℤ). length row ≡ points) points (replicate points absent) (length-replicate points absent);
  labelled_rows = All-replicate (λ (row : List ℤ). length row ≡ points) links (replicate points absent) (length-replicate points absent);
}

for_entry_by : (points links : ℕ) (table : Weights) (to : PointId) (label : Option LinkId) (from : ℕ) (weight : ℤ) → IsSizedFor points links table → IsPlacedIn table to label from
    → IsSizedFor points links (with_entry_by table to label from weight)
for_entry_by points links table to None from weight is placed = record {
  targets = length-set table.ordinary to.0 _ ∙ is.targets;
  labels = is.labels;
  ordinary_rows = lowered_lengths points table.ordinary to.0 from weight is.ordinary_rows placed.0;
  labelled_rows = is.labelled_rows;
}
for_entry_by points links table to (Some name) from weight is placed = record {
  targets = is.targets;
  labels = length-set table.labelled name.0 _ ∙ is.labels;
  ordinary_rows = is.ordinary_rows;
  labelled_rows = lowered_lengths points table.labelled name.0 from weight is.labelled_rows placed.0;
}

pub for_entry : (points links : ℕ) (table : Weights) (edge : Edge) → IsSizedFor points links table → HasPlaceInTable table edge → IsSizedFor points links (with_entry table edge)
for_entry points links table edge is placed =
    for_entry_by points links table edge.to edge.label edge.from.0 edge.weight is placed

-- a key of the network has its word
placed_by : (net : Plan) (table : Weights) (edge : Edge) (label : Option LinkId) → IsSizedFor (length net.points) (length net.links) table → IsPoint net edge.from → IsPoint net edge.to → IsLabelled net edge label
    → IsPlacedIn table edge.to label edge.from.0
placed_by net table edge None is from to labelled =
    let within : edge.to.0 < length table.ordinary = omega (arith, is.targets, to) in
    (within, subst (λ n. edge.from.0 < n) (sym (row_length (length net.points) table.ordinary edge.to.0 is.ordinary_rows within)) from)
placed_by net table edge (Some name) is from to labelled =
    let few = slice_get_within net.links name.0 labelled.0 labelled.1 in
    let within : name.0 < length table.labelled = omega (arith, is.labels, few) in
    (within, subst (λ n. edge.from.0 < n) (sym (row_length (length net.points) table.labelled name.0 is.labelled_rows within)) from)

pub placed : (net : Plan) (table : Weights) (edge : Edge) → IsSizedFor (length net.points) (length net.links) table → IsEdge net edge → HasPlaceInTable table edge
placed net table edge is sound = placed_by net table edge edge.label is sound.from_point sound.to_point sound.labelled

row_by_length : (net : Plan) (table : Weights) (to : PointId) (label : Option LinkId) (from : ℕ) → IsSizedFor (length net.points) (length net.links) table → IsPlacedIn table to label from → length (row_by table to label) ≡ length net.points
row_by_length net table to None from is placed = row_length (length net.points) table.ordinary to.0 is.ordinary_rows placed.0
row_by_length net table to (Some name) from is placed = row_length (length net.points) table.labelled name.0 is.labelled_rows placed.0

pub placed_before : (net : Plan) (table : Weights) (second : Edge) → IsSizedFor (length net.points) (length net.links) table → IsEdge net second → IsPlacedBefore table second
placed_before net table second is sound =
    let from = sound.from_point in
    let within : second.from.0 < length table.ordinary = omega (arith, is.targets, from) in
    (within, row_length (length net.points) table.ordinary second.from.0 is.ordinary_rows within ∙ sym (row_by_length net table second.to second.label second.from.0 is (placed net table second is sound)))

-- ---- a word after one is lowered
module _ (rows : List (List ℤ)) (r p : ℕ) (weight : ℤ) (row : r < length rows) (place : p < length (row_in rows r)) where
  abbrev after : ℕ → ℕ → ℤ
  after i j = get_or (get_or (lowered_rows rows r p weight) i []) j absent

  abbrev before : ℕ → ℕ → ℤ
  before i j = get_or (get_or rows i []) j absent

  here : (i j : ℕ) → i ≡ r → j ≡ p → after i j ≡ int_min (before i j) weight
  here i j is at =
      ap (λ k. after k j) is
      ∙ ap (λ xs. get_or xs j absent) (get_or-set_same rows r (lowered_row (row_in rows r) p weight) [] row)
      ∙ ap (λ k. get_or (lowered_row (row_in rows r) p weight) k absent) at
      ∙ get_or-set_same (row_in rows r) p (int_min (get_or (row_in rows r) p absent) weight) absent place
      ∙ ap (λ k. int_min (get_or (row_in rows r) k absent) weight) (sym at)
      ∙ ap (λ k. int_min (before k j) weight) (sym is)

  other_row : (i j : ℕ) → i ≢ r → after i j ≡ before i j
  other_row i j apart = ap (λ xs. get_or xs j absent) (get_or-set_other rows r i (lowered_row (row_in rows r) p weight) [] apart)

  other_place : (i j : ℕ) → i ≡ r → j ≢ p → after i j ≡ before i j
  other_place i j is apart =
      ap (λ k. after k j) is
      ∙ ap (λ xs. get_or xs j absent) (get_or-set_same rows r (lowered_row (row_in rows r) p weight) [] row)
      ∙ get_or-set_other (row_in rows r) p j (int_min (get_or (row_in rows r) p absent) weight) absent apart
      ∙ ap (λ k. before k j) (sym is)

  pub word_after : (i j : ℕ) → after i j ≡ cond ((p == j) && (r == i)) (int_min (before i j) weight) (before i j)
  word_after i j = by (p == j) (r == i) refl refl
    where
      by : (b c : Bool) → p == j ≡ b → r == i ≡ c → after i j ≡ cond (b && c) (int_min (before i j) weight) (before i j)
      by true true at is = here i j (grind (arith, nat_tests)) (grind (arith, nat_tests))
      by true false at is = other_row i j (grind (arith, nat_tests))
      by false true at is = other_place i j (grind (arith, nat_tests)) (grind (arith, nat_tests))
      by false false at is = other_row i j (grind (arith, nat_tests))
