-- How many begin: what is put of each first, and how it stands then; and all that is put of one. This project's own choice.
use Rattle.std.specs.Prelude.{◌≡◌, ℕ, ◌≤◌, List, ◌++◌, map, Some, slice_get}
use Rattle.std.specs.List.{flat_map}
use Rattle.texts.specs.Lines.{InputLine}
use Rattle.command_engine.specs.Machine.{Machine}
use Rattle.command_engine.specs.Runs.{Here, Answers}
use Rattle.multiplexed_commands.specs.Alone.{MemberState, Runs, Idle}
use Rattle.multiplexed_commands.specs.Merged.{Around, Member, merged_machine}
use Rattle.multiplexed_commands.specs.NamedLines.{named, of_name, IsNaming, IsOfWholeLines}
use Rattle.multiplexed_commands.specs.Projection.{own_lines}
use Rattle.multiplexed_commands.specs.Runs.{IsAlone, idles}

-- one that begins: its name, what is said of it first, and how it stands
pub record Start (C : Type 0) : Type 0 where
  pub name : List ℕ
  pub said : List ℕ
  pub stands : MemberState C

-- what is put of all
abbrev pub starts_put : {C : Type 0} → List (Start C) → List ℕ
starts_put starts = flat_map (λ start. named start.name start.said) starts

-- and so they stand: no line of theirs came
abbrev pub initial_member_of : {C : Type 0} → Start C → Member C
initial_member_of start = record { name = start.name; count = 0; stands = start.stands }

abbrev pub starting_members : {C : Type 0} → List (Start C) → List (Member C)
starting_members starts = map initial_member_of starts

-- their names are names, and different; and what is said ends with a line end
pub record AreStarts {C : Type 0} (starts : List (Start C)) : Type 0 where
  pub names : (place : ℕ) (start : Start C) → slice_get starts place ≡ Some start → IsNaming start.name
  pub whole : (place : ℕ) (start : Start C) → slice_get starts place ≡ Some start → IsOfWholeLines start.said
  pub different : (place other : ℕ) (start one : Start C) → slice_get starts place ≡ Some start → slice_get starts other ≡ Some one
      → start.name ≡ one.name → place ≡ other

module _ {C : Type 0} (inner : Machine C) where
  -- what one says alone to its own lines: if it runs, what a run of its command puts; else that it is idle
  abbrev pub SaysAlone : MemberState C → (spare_capacity : ℕ) → List (List ℕ) → List ℕ → Type 0
  SaysAlone (Runs state) spare_capacity owns said =
      (last : MemberState C) × IsAlone inner (record { state = state; number = 0; spare_capacity = spare_capacity }) owns said last
  SaysAlone Idle spare_capacity owns said = said ≡ idles owns

  -- Of all that is put, of the beginning and of the lines that were answered after it, what begins with the name of one is what is said of
  -- it first and what it says alone to its own lines, as an input of at least as many bytes, each line after its name.
  pub record AreAlone (starts : List (Start C)) (own_capacity : ℕ) (lines : List InputLine) (put : List ℕ) : Type 0 where
    pub each : (place : ℕ) (start : Start C) → slice_get starts place ≡ Some start
        → (said : List ℕ) × (of_name start.name (starts_put starts ++ put) ≡ named start.name (start.said ++ said))
        × SaysAlone start.stands own_capacity (own_lines start.name lines) said

  -- of all that is put, what begins with the name of one command is what is said of it first and what it says alone, however many begin and whatever lines were
  -- answered
  abbrev pub AnsweredAlone : Around → (List (Member C) → ℕ) → Type 0
  AnsweredAlone around capacity_of =
      (starts : List (Start C)) (number spare_capacity own_capacity : ℕ) (lines : List InputLine) (put : List ℕ) (there : Here (List (Member C)))
      → spare_capacity ≤ own_capacity → AreStarts starts
      → Answers (merged_machine inner around capacity_of) (record { state = starting_members starts; number = number; spare_capacity = spare_capacity }) lines
      put there
      → AreAlone starts own_capacity lines put
