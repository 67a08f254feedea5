-- Every list of steps of cells keeps the rule.
use Rattle.std.proofs.Common.{◌≡◌, ℕ, ◌<◌, ℤ, pos, ◌-ℤ◌, List, set, min, Some, refl, sym, subst, arith}
use Rattle.std.proofs.lemmas.Int.{ints}
use Rattle.std.proofs.lemmas.List.{set-get_or}
use mathlib.Core.Option.{some}
use lib.ListN.{get_elem?}
use Rattle.shared_seats.specs.declared.standing.Standing.{Standing}
use Rattle.shared_seats.specs.declared.standing.Standing.TheVariants.{Live}
use Rattle.net_model.specs.Limits.{IsWeight}
use Rattle.net_model.specs.declared.part.Edge.{Edge}
use Rattle.closure_model.specs.Derivable.{IsDerivable}
use Rattle.closure_model.specs.Keys.{Key, IsKey, key_of, shape_of}
use Rattle.cell_table.specs.CellHistory.{CellHistory, make, load, lower, split, join, IsSoundAbout, StepsAreTableHistories, place_of_key, word_in}
use Rattle.cell_table.specs.CellRule.{IsShown}
use Rattle.cell_table.specs.Places.{absent_cell, weight_offset, held}
use Rattle.cell_table.specs.Views.{View, looked, relaxed}
use Rattle.cell_table.specs.declared.view.About.{About}
use Rattle.network_closure.proofs.PartialClosureLemmas.{derivable_weight}
use Rattle.cell_table.proofs.EndLemmas.{derivable_key}
use Rattle.cell_table.proofs.FillLemmas.{opens}
use Rattle.cell_table.proofs.PlaceLemmas.{held_is}
use Rattle.cell_table.proofs.TableLemmas.{shown_loaded, shown_relaxed, splits, joins}

-- a word that holds a weight of an edge is below that of a key without one
present_of : (code : ℕ) (weight : ℤ) → IsWeight weight → weight ≡ pos code -ℤ pos weight_offset → code < absent_cell
present_of code weight within is = grind (arith, ints)

module _ (about : About) (sound : IsSoundAbout about) where
  module _ (words : List ℕ) (before : List (Standing View)) (shown : IsShown about words before) (seat : ℕ) (view : View) (at : get_elem? before seat ≡ some (Live view)) where
    after_load : (key : Key) → IsKey (shape_of about.net.value) key → IsShown about words (set before seat (Live (looked view key (word_in about words key))))
    after_load key is =
        subst (λ (ws : List ℕ). IsShown about ws (set before seat (Live (looked view key (word_in about words key))))) (set-get_or words (place_of_key about key) 0)
        (shown_loaded about words before shown seat view at key is)

    after_lower : (edge : Edge) (code : ℕ) → IsDerivable about.net.value edge → held code ≡ Some edge.weight
        → IsShown about (set words (place_of_key about (key_of edge)) (min (word_in about words (key_of edge)) code)) (set before seat (Live (relaxed view (key_of edge) (word_in about words (key_of edge)) edge.weight)))
    after_lower edge code derivable holds =
        let (_, coded) = held_is code edge.weight holds in
        let present = present_of code edge.weight (derivable_weight about.net.value sound.plan edge derivable) coded in
        subst (λ (w : ℤ). IsShown about (set words (place_of_key about (key_of edge)) (min (word_in about words (key_of edge)) code)) (set before seat (Live (relaxed view (key_of edge) (word_in about words (key_of edge)) w))))
        (sym coded)
        (shown_relaxed about words before shown seat view at edge derivable (derivable_key about.net.value sound.plan edge derivable) code present coded)

  keeps : (words : List ℕ) (seats : List (Standing View)) → CellHistory about words seats → IsShown about words seats
  keeps _ _ (make words seats are is) =
      subst (IsShown about words) (sym is) (opens about about.net.value about.first.value words refl refl sound.plan sound.fits sound.derivable are)
  keeps _ _ (load words before after seat view key history at there is) = subst (IsShown about words) (sym is) (after_load words before (keeps words before history) seat view at key there)
  keeps _ _ (lower words next before after seat view edge code history at derivable holds less is) =
      subst (λ (p : List ℕ × List (Standing View)). IsShown about p.0 p.1) (λ i. (sym less i, sym is i)) (after_lower words before (keeps words before history) seat view at edge code derivable holds)
  keeps _ _ (split words before after seat view history at may is) = subst (IsShown about words) (sym is) (splits about view words before seat (keeps words before history) at)
  keeps _ _ (join words before after seat other view joining history at there apart is) =
      subst (IsShown about words) (sym is) (joins about view joining words before seat other (keeps words before history) at there apart)

pub every_step_is_one_of_a_history : StepsAreTableHistories
every_step_is_one_of_a_history about words views sound history = keeps about sound words views history
