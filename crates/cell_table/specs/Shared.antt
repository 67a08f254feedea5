-- Cells and a seat at them, as callers see them, and what a load and a relaxation say. This project's own choice.
use Rattle.std.specs.Prelude.{◌≡◌, ℕ, ℤ, ◌≤ℤ◌, Bool, Option, IfSome, IsSomeAnd, int_lt, true}
use Rattle.std.specs.List.{All}
use Rattle.std.specs.Option.{option_map_or}
use Rattle.atomic_table.specs.Seated.{TableId}
use Rattle.shared_seats.specs.Seats.{SeatSeen}
use Rattle.net_model.specs.declared.part.Edge.{Edge}
use Rattle.closure_model.specs.Derivable.{IsDerivableFor}
use Rattle.closure_model.specs.Keys.{Key, key_of}
use Rattle.cell_table.specs.Places.{held}
use Rattle.cell_table.specs.Steps.{IsFoundWeight}
use Rattle.cell_table.specs.Views.{View, looked, relaxed}
use Rattle.cell_table.specs.declared.view.About.{About}

-- which cells they are, and what they are about
pub record CellsSeen : Type 0 where
  pub id : TableId
  pub about : About

-- the words of the cells to which a seat belongs, and what the seat knows
abbrev pub CellSeatSeen : Type 0
CellSeatSeen = SeatSeen View

-- a seat comes from cells
pub record IsSeatOfCells (cells : CellsSeen) (seat : CellSeatSeen) : Type 0 where
  pub cells_are : seat.table ≡ cells.id
  pub about_is : seat.view.about ≡ cells.about

-- A seat loaded the word of a key: nothing is given exactly if the word of that step holds no weight. What is given is derivable; if the
-- seat has a note of the key, something is given, and it is at most the weight of the note.
pub record Loads (before after : CellSeatSeen) (key : Key) (result : Option ℤ) : Type 0 where
  pub word : ℕ
  pub found : IsFoundWeight before.view key word
  pub given : result ≡ held word
  pub derivable : IfSome result (IsDerivableFor before.view.about.net.value key)
  pub noted : All (λ (note : Edge). key_of note ≡ key → IsSomeAnd result (λ weight. weight ≤ℤ note.weight)) before.view.notes
  pub after_is : after ≡ record { table = before.table; view = looked before.view key word }

-- A seat relaxed an edge: true exactly if the word of that step was above, which means that it held no weight or a greater one. A look is
-- added, and a note of the edge.
pub record Lowers (before after : CellSeatSeen) (edge : Edge) (result : Bool) : Type 0 where
  pub word : ℕ
  pub found : IsFoundWeight before.view (key_of edge) word
  pub given : result ≡ option_map_or (λ weight. int_lt edge.weight weight) (held word) true
  pub after_is : after ≡ record { table = before.table; view = relaxed before.view (key_of edge) word edge.weight }
