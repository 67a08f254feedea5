-- One command of many, alone: what it says to its own lines, and that it is idle from its end on. This project's own choice.
use Rattle.std.specs.Prelude.{◌≡◌, ℕ, ◌+◌, Bool, true, false, List, [], ◌∷◌, ◌++◌, codes}
use Rattle.texts.specs.PrintedLines.{printed_line}
use Rattle.texts.specs.Words.{words, are_passed_over}
use Rattle.command_engine.specs.Machine.{Machine}
use Rattle.command_engine.specs.declared.machines.Flow.{Flow}
use Rattle.command_engine.specs.declared.machines.Flow.TheVariants.{Continue, Finish}

-- how one stands: its command runs, or has ended
pub data MemberState (C : Type 0) : Type 0 where
  Runs : C → MemberState C
  Idle : MemberState C

-- what one says that has ended: nothing to a line that is passed over, else that it is idle
abbrev pub idle_said : Bool → List ℕ
idle_said true = []
idle_said false = printed_line (codes "idle" ∷ [])

abbrev pub stands_after : {C : Type 0} → Flow C → MemberState C
stands_after (Continue state) = Runs state
stands_after (Finish end) = Idle

module _ {C : Type 0} (inner : Machine C) where
  -- to a line of its own, by its number among these, it says this, and stands so after that
  abbrev pub SaysLineAlone : MemberState C → ℕ → List ℕ → List ℕ → MemberState C → Type 0
  SaysLineAlone (Runs state) number line said after =
      (flow : Flow C) × inner.takes state number line said flow × (after ≡ stands_after flow)
  SaysLineAlone Idle number line said after = (said ≡ idle_said (are_passed_over (words line))) × (after ≡ Idle)

  -- to lines of its own, after so many
  abbrev pub SaysTo : MemberState C → ℕ → List (List ℕ) → List ℕ → MemberState C → Type 0
  SaysTo stands number [] said last = (said ≡ []) × (stands ≡ last)
  SaysTo stands number (line ∷ lines) said last =
      (answer : List ℕ) × (more : List ℕ) × (next : MemberState C) × SaysLineAlone stands (number + 1) line answer next × (said ≡ answer ++ more)
      × SaysTo next (number + 1) lines more last
