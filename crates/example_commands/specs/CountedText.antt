-- A text of lines that are counted, and a question about it.
use Rattle.std.specs.Prelude.{◌≡◌, ℕ, List, [], ◌∷◌, Result, Ok, Err, codes, nat_le, if◌then◌else◌}
use Rattle.std.specs.Str.{bytes_eq}
use Rattle.std.specs.Fmt.{decimal}
use Rattle.texts.specs.PrintedLines.{printed_line}
use Rattle.texts.specs.Limits.{most_line}
use Rattle.command_engine.specs.Readers.{Reader, Refusing}
use Rattle.command_engine.specs.declared.endings.End.{End}
use Rattle.command_engine.specs.declared.endings.End.TheVariants as ends
use Rattle.command_engine.specs.declared.machines.Stop.{Stop}
use Rattle.command_engine.specs.declared.machines.Stop.TheVariants.{LineTooLong, InputTooMuch, InputEnded}
use Rattle.command_engine.specs.declared.line_texts.Parse.{Parse}
use Rattle.command_engine.specs.declared.line_texts.Parse.TheVariants.{Continue, Parsed, Refused}
use Rattle.example_commands.specs.declared.counted_text.AtMost.{AtMost}
use Rattle.example_commands.specs.declared.counted_text.Counting.{Counting}
use Rattle.example_commands.specs.declared.counted_text.Counting.TheVariants.{BeforeTitle, Lines}
use Rattle.example_commands.specs.declared.counted_text.CountFault.{CountFault}
use Rattle.example_commands.specs.declared.counted_text.CountFault.TheVariants.{NoTitle, NoEnd, Beyond}
use Rattle.example_commands.specs.declared.counted_text.HowMany.{HowMany}
use Rattle.example_commands.specs.declared.counted_text.HowManyEach.{HowManyEach}

-- the first line is `count`, and the line `end` ends the text, of which its number is the value
abbrev pub reads : Counting → ℕ → List ℕ → Parse Counting ℕ CountFault
reads BeforeTitle number line = if bytes_eq line (codes "count") then Continue Lines else Refused (NoTitle number)
reads Lines number line = if bytes_eq line (codes "end") then Parsed number else Continue Lines

abbrev pub stops : Counting → ℕ → Stop → CountFault
stops text number LineTooLong = Beyond number
stops text number InputTooMuch = Beyond number
stops BeforeTitle number InputEnded = NoTitle number
stops Lines number InputEnded = NoEnd number

abbrev pub counting : Reader Counting ℕ CountFault
counting = record { longest = λ text. most_line; reads = reads; stops = stops }

abbrev pub example_fault_line : CountFault → List ℕ
example_fault_line (NoTitle line) = printed_line (codes "error" ∷ codes "no-title" ∷ decimal line ∷ [])
example_fault_line (NoEnd line) = printed_line (codes "error" ∷ codes "no-end" ∷ decimal line ∷ [])
example_fault_line (Beyond line) = printed_line (codes "error" ∷ codes "limit" ∷ decimal line ∷ [])

abbrev pub example_fault_end : CountFault → End
example_fault_end (NoTitle line) = ends.Fault
example_fault_end (NoEnd line) = ends.Fault
example_fault_end (Beyond line) = ends.Limit

abbrev pub refusing : Refusing CountFault
refusing = record { line = example_fault_line; end = example_fault_end }

-- a text that has more lines is refused at its last one
abbrev pub at_most : AtMost → (lines number : ℕ) → Result ℕ CountFault
at_most test lines number = if nat_le lines test.lines then Ok lines else Err (Beyond number)

-- how many lines the text has
abbrev pub AnswersHowMany : HowMany → ℕ → List ℕ → End → Type 0
AnswersHowMany question lines answer end = (answer ≡ printed_line (codes "lines" ∷ decimal lines ∷ [])) × (end ≡ ends.Done)

-- the numbers of the lines that end two texts, one after the other
abbrev pub AnswersHowManyEach : HowManyEach → ℕ × ℕ → List ℕ → End → Type 0
AnswersHowManyEach question both answer end =
    (answer ≡ printed_line (codes "lines" ∷ decimal both.0 ∷ decimal both.1 ∷ [])) × (end ≡ ends.Done)
