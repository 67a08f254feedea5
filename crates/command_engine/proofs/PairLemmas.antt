-- The reading of a pair of texts is the first, then the second over the lines that are left.
use Rattle.std.proofs.Common.{◌≡◌, ◌+◌, ◌-◌, List, [], ◌∷◌, refl}
use Rattle.texts.specs.Lines.{InputLine, line_size}
use Rattle.plan_port.specs.Lines.{Coming, Comes, TooLong, TooMuch, coming}
use Rattle.command_engine.specs.Runs.{Here, after_line}
use Rattle.command_engine.specs.Readers.{Reader, reading}
use Rattle.command_engine.proofs.PathLemmas.{outcome_on}
use Rattle.command_engine.specs.Pairs.{first_step, second_step, then_reader, with_first, then_reading}
use Rattle.command_engine.specs.declared.line_texts.Parse.{Parse}
use Rattle.command_engine.specs.declared.line_texts.Parse.TheVariants.{Continue, Parsed, Refused}
use Rattle.command_engine.specs.declared.pairs.Then.{Then}
use Rattle.command_engine.specs.declared.pairs.Then.TheVariants.{First, Second}

module _ {A V B W F : Type 0} (first : Reader A V F) (second : Reader B W F) where
  abbrev pair : Reader (Then A V B) (V × W) F
  pair = then_reader first second

  abbrev pub at_first : B → Here A → Here (Then A V B)
  at_first other here = record { state = First here.state other; number = here.number; spare_capacity = here.spare_capacity }

  abbrev pub at_second : V → Here B → Here (Then A V B)
  at_second value here = record { state = Second value here.state; number = here.number; spare_capacity = here.spare_capacity }

  -- what is read from a place of one text is what it gives, and the second after the first
  abbrev ReadsSecond : V → Here B → List InputLine → Type 0
  ReadsSecond value here lines = reading pair (at_second value here) lines ≡ with_first value (reading second here lines)

  abbrev ReadsFirst : B → Here A → List InputLine → Type 0
  ReadsFirst other here lines = reading pair (at_first other here) lines ≡ then_reading first second other (reading first here lines)

  second_by : (how : Coming) (step : Parse B W F) (value : V) (here : Here B) (line : InputLine) (lines : List InputLine) →
      ((state : B) → ReadsSecond value (after_line here line state) lines) →
      outcome_on pair how (second_step value step) (at_second value here) line lines ≡ with_first value (outcome_on second how step here line lines)
  second_by Comes (Continue text) value here line lines later = later text
  second_by Comes (Parsed other) value here line lines later = refl
  second_by Comes (Refused fault) value here line lines later = refl
  second_by TooLong step value here line lines later = refl
  second_by TooMuch step value here line lines later = refl

  second_reads : (value : V) (here : Here B) (lines : List InputLine) → ReadsSecond value here lines
  second_reads value here [] = refl
  second_reads value here (line ∷ lines) =
      second_by (coming (second.longest here.state) here.spare_capacity line) (second.reads here.state (here.number + 1) line.text) value here line lines
      (λ state. second_reads value (after_line here line state) lines)

  first_by : (how : Coming) (step : Parse A V F) (other : B) (here : Here A) (line : InputLine) (lines : List InputLine) →
      ((state : A) → ReadsFirst other (after_line here line state) lines) →
      outcome_on pair how (first_step other step) (at_first other here) line lines ≡ then_reading first second other (outcome_on first how step here line lines)
  first_by Comes (Continue text) other here line lines later = later text
  first_by Comes (Parsed value) other here line lines later =
      second_reads value (record { state = other; number = here.number + 1; spare_capacity = here.spare_capacity - line_size line }) lines
  first_by Comes (Refused fault) other here line lines later = refl
  first_by TooLong step other here line lines later = refl
  first_by TooMuch step other here line lines later = refl

  pub law_pair_reads : (other : B) (here : Here A) (lines : List InputLine) → reading pair (at_first other here) lines ≡ then_reading first second other (reading first here lines)
  law_pair_reads other here [] = refl
  law_pair_reads other here (line ∷ lines) =
      first_by (coming (first.longest here.state) here.spare_capacity line) (first.reads here.state (here.number + 1) line.text) other here line lines
      (λ state. law_pair_reads other (after_line here line state) lines)
