-- What a command means: what it answers to each line of its input, and how it goes on.
use Rattle.std.specs.Prelude.{ℕ, ◌≤◌, List}
use Rattle.command_engine.specs.declared.endings.End.{End}
use Rattle.command_engine.specs.declared.machines.Flow.{Flow}
use Rattle.command_engine.specs.declared.machines.Flow.TheVariants.{Continue, Finish}
use Rattle.command_engine.specs.declared.machines.Stop.{Stop}

-- The meaning of a command of which `C` are the states. `longest`: how many bytes the next line may have. `takes`: to a line, by its number and its bytes, this
-- answer is given, and so the run goes on. `stops`: if no line comes, by the number of the line that was begun, this answer is given, and so the run ends.
-- `may_want`: the state may want memory. `spare_capacity`: for how many bytes the buffer of the answers must have place, if it wants none.
pub record Machine (C : Type 0) : Type 1 where
  pub longest : C → ℕ
  pub takes : C → ℕ → List ℕ → List ℕ → Flow C → Type 0
  pub stops : C → ℕ → Stop → List ℕ → End → Type 0
  pub may_want : C → Type 0
  pub spare_capacity : C → ℕ

-- the buffer of the answers has the capacity that the next state needs
abbrev pub HasCapacity : {C : Type 0} → Machine C → Flow C → ℕ → Type 0
HasCapacity machine (Continue state) capacity = machine.spare_capacity state ≤ capacity
HasCapacity machine (Finish end) capacity = Unit {0}
