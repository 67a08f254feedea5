-- The reading of a text over the lines of an input: its value, or its first fault.
use Rattle.std.specs.Prelude.{ℕ, ◌+◌, ◌-◌, List, [], ◌∷◌}
use Rattle.texts.specs.Lines.{InputLine, line_size}
use Rattle.plan_port.specs.Lines.{Coming, Comes, TooLong, TooMuch, coming}
use Rattle.command_engine.specs.Runs.{Here, after_line}
use Rattle.command_engine.specs.declared.endings.End.{End}
use Rattle.command_engine.specs.declared.machines.Stop.{Stop}
use Rattle.command_engine.specs.declared.machines.Stop.TheVariants.{LineTooLong, InputTooMuch, InputEnded}
use Rattle.command_engine.specs.declared.line_texts.Parse.{Parse}
use Rattle.command_engine.specs.declared.line_texts.Parse.TheVariants.{Continue, Parsed, Refused}

-- What the reader of a text means, of which `S` are the states, `V` the values and `F` the faults. `longest`: how many bytes the next line may have. `reads`:
-- what a line brings, by its number and its bytes. `stops`: the fault if no line comes, by the number of the line that was begun.
pub record Reader (S V F : Type 0) : Type 0 where
  pub longest : S → ℕ
  pub reads : S → ℕ → List ℕ → Parse S V F
  pub stops : S → ℕ → Stop → F

-- what is printed for a fault, and how it ends a run
pub record Refusing (F : Type 0) : Type 0 where
  pub line : F → List ℕ
  pub end : F → End

-- what a reading comes to: a value, with the number of the line that ended it, the bytes that the input may still have, and the
-- lines that are still to come; or the first fault
pub data Outcome (V F : Type 0) : Type 0 where
  Given : V → (number spare_capacity : ℕ) → List InputLine → Outcome V F
  Faulty : F → Outcome V F

module _ {S V F : Type 0} (reader : Reader S V F) where
  -- the outcome by what comes of a line and what it brings, where `others` is the reading of the lines after it
  abbrev pub outcome_by : Coming → Parse S V F → Here S → InputLine → List InputLine → (others : S → Outcome V F) → Outcome V F
  outcome_by Comes (Continue state) here line rest others = others state
  outcome_by Comes (Parsed value) here line rest others = Given value (here.number + 1) (here.spare_capacity - line_size line) rest
  outcome_by Comes (Refused fault) here line rest others = Faulty fault
  outcome_by TooLong step here line rest others = Faulty (reader.stops here.state (here.number + 1) LineTooLong)
  outcome_by TooMuch step here line rest others = Faulty (reader.stops here.state (here.number + 1) InputTooMuch)

  -- the reading of these lines from here
  abbrev pub reading : Here S → List InputLine → Outcome V F
  reading here [] = Faulty (reader.stops here.state (here.number + 1) InputEnded)
  reading here (line ∷ lines) =
      outcome_by (coming (reader.longest here.state) here.spare_capacity line) (reader.reads here.state (here.number + 1) line.text) here line lines
      (λ state. reading (after_line here line state) lines)
