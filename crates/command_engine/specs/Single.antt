-- Commands that give at most one answer.
use Rattle.std.specs.Prelude.{◌≡◌, ℕ, List, ◌++◌}
use Rattle.command_engine.specs.Machine.{Machine}
use Rattle.command_engine.specs.declared.endings.End.{End}
use Rattle.command_engine.specs.declared.machines.Flow.{Flow}
use Rattle.command_engine.specs.declared.machines.Stop.{Stop}

-- to a line, and if no line comes, a state of the command has at most one reply
pub record IsSingle {C : Type 0} (machine : Machine C) : Type 0 where
  pub takes : (state : C) (number : ℕ) (line a b : List ℕ) (x y : Flow C) → machine.takes state number line a x → machine.takes state number line b y
      → (a ≡ b) × (x ≡ y)
  pub stops : (state : C) (number : ℕ) (stop : Stop) (a b : List ℕ) (x y : End) → machine.stops state number stop a x → machine.stops state number stop b y
      → (a ≡ b) × (x ≡ y)

-- to a value there is at most one answer, and the run goes on in one way
abbrev pub IsSingleAnswer : {Q V E : Type 0} → (Q → V → List ℕ → E → Type 0) → Type 0
IsSingleAnswer {Q} {V} {E} answers =
    (question : Q) (value : V) (a b : List ℕ) (x y : E) → answers question value a x → answers question value b y → (a ≡ b) × (x ≡ y)

-- to a value, and the number of the line that gave it, there is at most one answer, and the run goes on in one way
abbrev pub IsSingleAtLine : {Q V E : Type 0} → (Q → V → ℕ → List ℕ → E → Type 0) → Type 0
IsSingleAtLine {Q} {V} {E} answers =
    (question : Q) (value : V) (number : ℕ) (a b : List ℕ) (x y : E) → answers question value number a x → answers question value number b y → (a ≡ b) × (x ≡ y)

-- a prefix of some bytes, or all of them
abbrev pub IsPrefix : List ℕ → List ℕ → Type 0
IsPrefix prefix whole = (more : List ℕ) × (whole ≡ prefix ++ more)
