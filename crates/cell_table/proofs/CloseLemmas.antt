-- The table that is left at the end.
use Rattle.std.proofs.Common.{◌≡◌, ℕ, ℤ, ◌⊎◌, List, get_or, Some, Result, Ok, Err, ap, sym, subst, ◌∙◌, inl, inr}
use Rattle.std.specs.Prelude.{IfOk}
use mathlib.Core.Option.{some}
use lib.ListN.{get_elem?}
use Rattle.shared_seats.specs.declared.standing.Standing.{Standing}
use Rattle.shared_seats.specs.declared.standing.Standing.TheVariants.{Live}
use Rattle.shared_seats.proofs.NotedLemmas.{known_at}
use Rattle.net_model.specs.declared.part.Edge.{Edge}
use Rattle.closure_model.specs.Closure.{HoldsDerivable}
use Rattle.closure_model.specs.Derivable.{IsDerivable}
use Rattle.closure_model.specs.Keys.{Key, IsKey, Shape, shape_of, key_of, edge_of}
use Rattle.closure_model.specs.Tables.{Graph, HasEdge, HasAtMost, IsAtMost, IsFor}
use Rattle.closure_model.proofs.TableLemmas.{at_most_gives, at_most_from}
use Rattle.closure_model.proofs.Weights.{le_then}
use Rattle.cell_table.specs.CellRule.{IsShown}
use Rattle.cell_table.specs.TableWords.{IsLeftOf}
use Rattle.cell_table.specs.Places.{held, word_place_of, word_count}
use Rattle.cell_table.specs.FinalTables.{CanTake, TakesCellWords, HoldsAt}
use Rattle.cell_table.specs.Views.{View}
use Rattle.cell_table.specs.declared.view.About.{About}
use Rattle.network_closure.proofs.PartialClosureLemmas.{derivable_weight}
use Rattle.cell_table.proofs.EndLemmas.{derivable_key}

module _ (about : About) (first : Graph) (words : List ℕ) (seats : List (Standing View)) (shown : IsShown about words seats) (fits : IsFor about.net.value first) where
  -- a word that holds a weight is that of a derivable edge
  word_derivable : (key : Key) → IsKey first.shape key → (weight : ℤ) → HoldsAt first words key weight → IsDerivable about.net.value (edge_of key weight)
  word_derivable key sound weight has =
      let here = shown.shows key (subst (λ (t : Shape). IsKey t key) fits sound) in
      let same : held (get_or words (word_place_of (shape_of about.net.value) key) 0) ≡ Some weight = (λ i. held (get_or words (word_place_of (sym fits i) key) 0)) ∙ has in
      shown.was.derivable (edge_of key weight) (sym here ∙ same)

  pub left_can : CanTake first words
  left_can = record {
    sized = shown.sized ∙ ap word_count (sym fits);
    each = (λ key sound other its same weight has. derivable_weight about.net.value shown.plan (edge_of key weight) (word_derivable key sound weight has));
  }

  module _ (derivable : HoldsDerivable about.net.value first) (first_is : first ≡ about.first.value) (id : ℕ) (view : View) (at : get_elem? seats id ≡ some (Live view)) (table : Graph) (taken : TakesCellWords first words table) where
    note_left : (note : Edge) → HasAtMost shown.past.table note → HasAtMost table note
    note_left note there =
        let (weight, has, less) = at_most_gives shown.past.table note there in
        let edge : Edge = edge_of (key_of note) weight in
        let sound = derivable_key about.net.value shown.plan edge (shown.was.derivable edge has) in
        let holds : HoldsAt first words (key_of note) weight = (λ i. held (get_or words (word_place_of (fits i) (key_of note)) 0)) ∙ (shown.shows (key_of note) sound ∙ has) in
        let (own, own_has, own_less) = at_most_gives table edge (taken.taken (key_of note) (subst (λ (t : Shape). IsKey t (key_of note)) (sym fits) sound) weight holds) in
        at_most_from table note own own_has (le_then own weight note.weight own_less less)

    left_derivable : (edge : Edge) → HasEdge first edge ⊎ (IsKey first.shape (key_of edge) × HoldsAt first words (key_of edge) edge.weight) → IsDerivable about.net.value edge
    left_derivable edge (inl has) = derivable edge has
    left_derivable edge (inr (sound, holds)) = word_derivable (key_of edge) sound edge.weight holds

    pub left_is : IsLeftOf about view table
    left_is =
        let known = known_at (HasAtMost shown.past.table) about seats shown.known id view at in record {
          fits = taken.shape_is ∙ fits;
          derivable = (λ edge has. left_derivable edge (taken.given edge has));
          lower = subst (IsAtMost table) first_is taken.lower;
          notes = (λ k d lt. note_left (get_or view.notes k d) (known.notes k d lt));
        }

pub ok_then : {X E : Type 0} (P Q : X → Type 0) → ((x : X) → P x → Q x) → (r : Result X E) → IfOk r P → IfOk r Q
ok_then P Q then (Ok x) is = then x is
ok_then P Q then (Err e) is = is
