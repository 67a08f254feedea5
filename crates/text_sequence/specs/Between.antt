-- The lines between the texts of a series.
use Rattle.std.specs.Prelude.{ℕ, List}
use Rattle.command_engine.specs.declared.machines.Stop.{Stop}
use Rattle.text_sequence.specs.declared.separators.Separator.{Separator}

-- what lines between texts are, after so many texts, by their number; and the fault if none comes
pub record Between (K V F : Type 0) : Type 0 where
  pub opens : List (K × V) → ℕ → List ℕ → Separator K F
  pub stops : List (K × V) → ℕ → Stop → F
