-- The words of a table, and what is made of words at the end. This project's own choice.
use Rattle.std.specs.Prelude.{◌≡◌, ℕ, ◌≤◌, List, length, slice_index}
use Rattle.std.specs.List.{All}
use Rattle.net_model.specs.Network.{Plan}
use Rattle.closure_model.specs.Closure.{HoldsDerivable}
use Rattle.closure_model.specs.Keys.{Key, IsKey}
use Rattle.closure_model.specs.Tables.{Graph, weight_of, HasAtMost, IsAtMost, IsFor}
use Rattle.cell_table.specs.Limits.{key_count, most_keys}
use Rattle.cell_table.specs.Places.{held, word_place_of, word_count}
use Rattle.cell_table.specs.Shared.{CellsSeen, CellSeatSeen}
use Rattle.cell_table.specs.Views.{View, first_view}
use Rattle.cell_table.specs.declared.view.About.{About}

-- words are those of a table: word 0 is 0, and each key's word holds what the table has for the key
pub record AreWordsOfTable (table : Graph) (words : List ℕ) : Type 0 where
  pub zero : slice_index words 0 ≡ 0
  pub sized : length words ≡ word_count table.shape
  pub shows : (key : Key) → IsKey table.shape key → held (slice_index words (word_place_of table.shape key)) ≡ weight_of table key

-- cells of a network were made from a table, with their first seat
pub record AreMadeOf (net : Plan) (table : Graph) (seats : ℕ) (cells : CellsSeen) (seat : CellSeatSeen) : Type 0 where
  pub few : key_count net ≤ most_keys
  pub net_is : cells.about.net.value ≡ net
  pub first_is : cells.about.first.value ≡ table
  pub seats_are : cells.about.seats ≡ seats
  pub seat_is : seat ≡ record { table = cells.id; view = first_view cells.about }

-- the table that is left of cells: its edges are derivable, and each key of the first table, and of each note, is at most at its weight
pub record IsLeftOf (about : About) (view : View) (table : Graph) : Type 0 where
  pub fits : IsFor about.net.value table
  pub derivable : HoldsDerivable about.net.value table
  pub lower : IsAtMost table about.first.value
  pub notes : All (HasAtMost table) view.notes
