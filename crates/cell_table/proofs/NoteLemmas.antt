-- The least weights that a seat has noted fall with each note, and further if the note improves a key.
use Rattle.std.proofs.Common.{◌≡◌, ◌<◌, ◌≤◌, ℤ, ◌<ℤ◌, Bool, true, false, List, [], ◌∷◌, ◌++◌, Option, Some, None, refl, ap, sym, subst, ◌∙◌, arith}
use Rattle.std.specs.Prelude.{unsigned_abs, int_le, int_lt, if◌then◌else◌}
use Rattle.std.specs.List.{All}
use Rattle.std.specs.Option.{option_map_or}
use Rattle.std.proofs.lemmas.List.{append-nil}
use Rattle.std.proofs.lemmas.List.Elements.{All-append, All-cons, All-nil, All-contains}
use Rattle.std.proofs.lemmas.List.Sums.{fold-append}
use Rattle.net_model.specs.Network.{Plan, IsPlan, greatest}
use Rattle.net_model.specs.declared.part.Edge.{Edge}
use Rattle.closure_model.specs.Derivable.{IsDerivable}
use Rattle.closure_model.specs.Keys.{Key, key_of, edge_of, shape_of}
use Rattle.closure_model.specs.ReferenceRow.{IsBelow}
use Rattle.closure_model.specs.Tables.{Graph, HasAtMost, HasEdge, has_at_most, lowered, no_edges, table_of, with_edge}
use Rattle.closure_model.proofs.TableLemmas.{at_most_gives, lowered-at_most, lowered-has, table_of-given}
use Rattle.closure_model.proofs.WeightMeasure.{measure, measure_decreases}
use Rattle.closure_model.proofs.Weights.{lt_is, lt_then, le_is_not}
use Rattle.network_closure.proofs.PartialClosureLemmas.{derivable_within}
use Rattle.cell_table.specs.Shared.{CellSeatSeen, Lowers}
use Rattle.cell_table.specs.Views.{edges_held}
use Rattle.cell_table.proofs.EndLemmas.{derivable_key}

-- the edges of a table that is made of derivable edges are no greater than the network allows
within : (net : Plan) → IsPlan net → (notes : List Edge) → All (IsDerivable net) notes → (edge : Edge) → HasEdge (table_of (shape_of net) notes) edge
    → unsigned_abs edge.weight ≤ greatest net
within net plan notes noted edge has = derivable_within net plan edge (All-contains (IsDerivable net) notes edge noted (table_of-given (shape_of net) notes edge has))

pub missed_below : (table : Graph) (edge : Edge) → has_at_most table edge ≡ false → IsBelow table edge
missed_below table edge missed weight has = le_is_not weight edge.weight (sym (ap (λ (o : Option ℤ). option_map_or (λ w. int_le w edge.weight) o false) has) ∙ missed)

-- ---- one more note
module _ (net : Plan) (plan : IsPlan net) (notes : List Edge) (noted : All (IsDerivable net) notes) (edge : Edge) (derivable : IsDerivable net edge) where
  abbrev before : Graph
  before = table_of (shape_of net) notes

  abbrev after : Graph
  after = table_of (shape_of net) (notes ++ edge ∷ [])

  after_is : after ≡ lowered before edge
  after_is = fold-append lowered (no_edges (shape_of net)) notes (edge ∷ [])

  pub noted_one_more : All (IsDerivable net) (notes ++ edge ∷ [])
  noted_one_more = All-append (IsDerivable net) notes (edge ∷ []) noted (All-cons (IsDerivable net) edge [] derivable (All-nil (IsDerivable net)))

  pub note_leaves_less : IsBelow before edge → measure net after < measure net before
  note_leaves_less below = subst (λ (t : Graph). measure net t < measure net before) (sym after_is)
      (measure_decreases net (lowered before edge) before (λ other has. within net plan (notes ++ edge ∷ []) noted_one_more other (subst (λ (t : Graph). HasEdge t other) (sym after_is) has))
      (within net plan notes noted) (lowered-at_most before edge) edge (derivable_key net plan edge derivable) (lowered-has before edge) below)

  pub note_leaves_no_more : measure net after ≤ measure net before
  note_leaves_no_more = by (has_at_most before edge) refl
    where
      by : (b : Bool) → has_at_most before edge ≡ b → measure net after ≤ measure net before
      by true has =
          let same : after ≡ before = after_is ∙ ap (λ b. if b then before else with_edge before edge) has in
          subst (λ (t : Graph). measure net t ≤ measure net before) (sym same) (omega arith)
      by false missed = let less = note_leaves_less (missed_below before edge missed) in omega (arith, less)

-- ---- the note of what a word holds, if it holds a weight
module _ (net : Plan) (plan : IsPlan net) (notes : List Edge) (noted : All (IsDerivable net) notes) (key : Key) where
  pub noted_held : (found : Option ℤ) → ((weight : ℤ) → found ≡ Some weight → IsDerivable net (edge_of key weight)) → All (IsDerivable net) (notes ++ edges_held key found)
  noted_held None derivable = subst (All (IsDerivable net)) (sym (append-nil notes)) noted
  noted_held (Some weight) derivable = noted_one_more net plan notes noted (edge_of key weight) (derivable weight refl)

  pub held_leaves_no_more : (found : Option ℤ) → ((weight : ℤ) → found ≡ Some weight → IsDerivable net (edge_of key weight))
      → measure net (table_of (shape_of net) (notes ++ edges_held key found)) ≤ measure net (table_of (shape_of net) notes)
  held_leaves_no_more None derivable = subst (λ (l : List Edge). measure net (table_of (shape_of net) l) ≤ measure net (table_of (shape_of net) notes)) (sym (append-nil notes)) (omega arith)
  held_leaves_no_more (Some weight) derivable = note_leaves_no_more net plan notes noted (edge_of key weight) (derivable weight refl)

-- an edge that improves its key is below all that the seat has noted of the key
pub improves_below : (net : Plan) (before later : CellSeatSeen) (edge : Edge) (improved : Bool) → Lowers before later edge improved → improved ≡ true
    → IsBelow (table_of (shape_of net) before.view.notes) edge
improves_below net before later edge improved lowers is weight has =
    let noted = All-contains (HasAtMost lowers.found.past.table) before.view.notes (edge_of (key_of edge) weight) lowers.found.notes (table_of-given (shape_of net) before.view.notes (edge_of (key_of edge) weight) has) in
    let (found, there, less) = at_most_gives lowers.found.past.table (edge_of (key_of edge) weight) noted in
    let lighter : edge.weight <ℤ found =
    lt_is edge.weight found (sym (ap (λ (o : Option ℤ). option_map_or (λ w. int_lt edge.weight w) o true) (lowers.found.is ∙ there)) ∙ (sym lowers.given ∙ is)) in
    lt_then edge.weight found weight lighter less
