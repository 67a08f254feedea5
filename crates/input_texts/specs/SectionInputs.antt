-- A text of lines in sections in an input: how it is read, and its grammar: what lines declare, which may be longer, and by which faults what comes is refused.
use Rattle.std.specs.Prelude.{◌≡◌, ℕ, Bool, true, false, List, Result, Ok, Err}
use Rattle.texts.specs.Limits.{most_line}
use Rattle.texts.specs.Words.{words}
use Rattle.net_model.specs.declared.format.FormatKind.{FormatKind}
use Rattle.sectioned_texts.specs.SectionedTexts.{SectionedText, IsPrefixOf, IsFirstFaultOf, missing_in}
use Rattle.sectioned_texts.specs.Reading.{line_in}
use Rattle.command_engine.specs.Grammars.{Grammar}
use Rattle.command_engine.specs.Readers.{Reader}
use Rattle.command_engine.specs.declared.line_texts.Parse.{Parse}
use Rattle.command_engine.specs.declared.line_texts.Parse.TheVariants.{Continue, Parsed, Refused}
use Rattle.common_answers.specs.Faults.{stop_fault}
use Rattle.common_answers.specs.FormatRefusals.{RefusesFormat}
use Rattle.common_answers.specs.declared.faults.Fault.{Fault}
use Rattle.common_answers.specs.declared.faults.Fault.TheVariants.{Format}
use Rattle.input_texts.specs.declared.section_input.SectionInput.{SectionInput}

module _ {S K L P V : Type 0} (text : SectionedText S K L P V) where
  -- before the first line
  abbrev pub initial_input : SectionInput P
  initial_input = record { reader = text.initial }

  -- what a line brings that is read, if it is the last one or not
  abbrev pub step_by : (is_last : Bool) → P → Parse (SectionInput P) V Fault
  step_by true read = Parsed (text.value read)
  step_by false read = Continue (record { reader = read })

  -- what a line brings, by its number and what it says in its place
  abbrev pub section_step : P → ℕ → Result L FormatKind → Parse (SectionInput P) V Fault
  section_step read number (Ok said) = step_by (text.is_last said) (text.advanced read said)
  section_step read number (Err kind) = Refused (Format number kind)

  -- the reader of such texts
  abbrev pub section_reader : Reader (SectionInput P) V Fault
  section_reader = record {
    longest = λ input. most_line;
    reads = λ input number bytes. section_step input.reader number (line_in text (text.section input.reader) (words bytes));
    stops = λ input number stop. stop_fault number stop (missing_in text (text.section input.reader));
  }

  -- lines after which more is wanted: a prefix of a text
  abbrev pub AreWanted : List (List ℕ) → Type 0
  AreWanted lines = (read : P) × IsPrefixOf text lines read

  -- the first fault of a text, by the number of its line
  abbrev pub IsTextFault : List (List ℕ) → ℕ → FormatKind → Type 0
  IsTextFault lines number kind = IsFirstFaultOf text lines (record { line = number; kind = kind })

  -- the grammar of such texts, if so many lines stand before one in the input
  abbrev pub section_texts : ℕ → Grammar V Fault
  section_texts past = record {
    declares = text.declares;
    longest = λ lines longest. AreWanted lines × (longest ≡ most_line);
    refuses = λ lines next fault. AreWanted lines × RefusesFormat IsTextFault past lines next fault;
  }
