-- The histories of cells: steps of any seats, in any order. This project's own choice.
use Rattle.std.specs.Prelude.{◌≡◌, ◌≢◌, ℕ, ◌<◌, min, List, [], ◌∷◌, ◌++◌, Some, set, slice_index}
use mathlib.Core.Option.{some}
use lib.ListN.{get_elem?}
use Rattle.shared_seats.specs.NotedViews.{split_from, split_off, joined_with}
use Rattle.shared_seats.specs.declared.standing.Standing.{Standing}
use Rattle.shared_seats.specs.declared.standing.Standing.TheVariants.{Live, Spent}
use Rattle.net_model.specs.Network.{IsPlan}
use Rattle.net_model.specs.declared.part.Edge.{Edge}
use Rattle.closure_model.specs.Closure.{HoldsDerivable}
use Rattle.closure_model.specs.Derivable.{IsDerivable}
use Rattle.closure_model.specs.Keys.{Key, IsKey, key_of, shape_of}
use Rattle.closure_model.specs.Tables.{IsFor}
use Rattle.cell_table.specs.CellRule.{IsShown}
use Rattle.cell_table.specs.TableWords.{AreWordsOfTable}
use Rattle.cell_table.specs.Places.{held, word_place_of}
use Rattle.cell_table.specs.Views.{View, first_view, looked, relaxed}
use Rattle.cell_table.specs.declared.view.About.{About}

-- where the word of a key is
abbrev pub place_of_key : About → Key → ℕ
place_of_key about key = word_place_of (shape_of about.net.value) key

-- the word of a key
abbrev pub word_in : About → List ℕ → Key → ℕ
word_in about words key = slice_index words (place_of_key about key)

-- The words of cells and what their seats know, after a history of steps. A load finds the word of a key and changes none. Relaxing a
-- derivable edge leaves the lesser of the word that is found and the one of its weight. A seat is split from another, and one is joined
-- into another.
pub data CellHistory (about : About) : List ℕ → List (Standing View) → Type 0 where
  make : (words : List ℕ) (views : List (Standing View)) → AreWordsOfTable about.first.value words → views ≡ Live (first_view about) ∷ []
      → CellHistory about words views
  load : (words : List ℕ) (before after : List (Standing View)) (seat : ℕ) (view : View) (key : Key) → CellHistory about words before
      → get_elem? before seat ≡ some (Live view) → IsKey (shape_of about.net.value) key
      → after ≡ set before seat (Live (looked view key (word_in about words key))) → CellHistory about words after
  lower : (words next : List ℕ) (before after : List (Standing View)) (seat : ℕ) (view : View) (edge : Edge) (code : ℕ) → CellHistory about words before
      → get_elem? before seat ≡ some (Live view) → IsDerivable about.net.value edge → held code ≡ Some edge.weight
      → next ≡ set words (place_of_key about (key_of edge)) (min (word_in about words (key_of edge)) code)
      → after ≡ set before seat (Live (relaxed view (key_of edge) (word_in about words (key_of edge)) edge.weight)) → CellHistory about next after
  split : (words : List ℕ) (before after : List (Standing View)) (seat : ℕ) (view : View) → CellHistory about words before
      → get_elem? before seat ≡ some (Live view) → 0 < view.to_split
      → after ≡ set before seat (Live (split_from view)) ++ Live (split_off view) ∷ [] → CellHistory about words after
  join : (words : List ℕ) (before after : List (Standing View)) (seat other : ℕ) (view joining : View) → CellHistory about words before
      → get_elem? before seat ≡ some (Live view) → get_elem? before other ≡ some (Live joining) → other ≢ seat
      → after ≡ set (set before seat (Live (joined_with view joining))) other Spent → CellHistory about words after

-- the network is sound, and the first table is for it and has derivable edges alone
pub record IsSoundAbout (about : About) : Type 0 where
  pub plan : IsPlan about.net.value
  pub fits : IsFor about.net.value about.first.value
  pub derivable : HoldsDerivable about.net.value about.first.value

-- Every list of steps of cells is a history of their table: after each step the words show what a table has at the end of a history, in
-- which the key of each note of a live seat is at most at the weight of the note.
abbrev pub StepsAreTableHistories : Type 0
StepsAreTableHistories =
    (about : About) (words : List ℕ) (views : List (Standing View)) → IsSoundAbout about → CellHistory about words views
    → IsShown about words views
