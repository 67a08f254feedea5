-- The steps of a reader. No public clause cites this module.
use Rattle.std.specs.Prelude.{ℕ, ◌+◌, Bool, true, false, nat_lt, nat_le, ◌&&◌, ◌||◌, ◌==◌, if◌then◌else◌, List, [], ◌∷◌, ◌++◌, length, take, Result, Ok, Err}
use Rattle.texts.specs.Lines.{InputLine, input_lines}
use Rattle.plan_port.specs.Lines.{Coming, Comes, TooLong, TooMuch, coming}
use Rattle.plan_port.specs.Reader.{Reader, spare_capacity}
use Rattle.plan_port.specs.declared.lines.LineOutcome.{LineOutcome}
use Rattle.plan_port.specs.declared.lines.LineOutcome.TheVariants.{Decided, Fault}
use Rattle.plan_port.specs.declared.ports.Took.{Took}
use Rattle.plan_port.specs.declared.ports.Took.TheVariants.{Bytes, End, Failed}
use Rattle.plan_port.specs.declared.lines.LineVerdict.{LineVerdict}
use Rattle.plan_port.specs.declared.lines.LineVerdict.TheVariants.{Unclear, Line, BeyondLine, BeyondInput}

-- a line ends at byte 10
abbrev pub ends_line : ℕ → Bool
ends_line byte = byte == 10

-- the verdict on a line of this length so far, whose end has come or not
abbrev pub verdict_on : (size : ℕ) → (closed : Bool) → (longest spare_capacity : ℕ) → LineVerdict
verdict_on size closed longest spare_capacity =
    if nat_lt longest size && nat_le longest spare_capacity then BeyondLine
    else (if nat_lt spare_capacity size || (closed && nat_le spare_capacity size) then BeyondInput
    else (if closed then Line size else Unclear))

-- the verdict on a line by what comes of it
abbrev pub verdict_by : Coming → InputLine → LineVerdict
verdict_by Comes line = if line.ended then Line (length line.text) else Unclear
verdict_by TooLong line = BeyondLine
verdict_by TooMuch line = BeyondInput

-- the verdict on the first of these lines
abbrev pub verdict_to : (longest spare_capacity : ℕ) → List InputLine → LineVerdict
verdict_to longest spare_capacity [] = Unclear
verdict_to longest spare_capacity (line ∷ others) = verdict_by (coming longest spare_capacity line) line

-- the verdict on the first line of these bytes
abbrev pub verdict : (longest spare_capacity : ℕ) → List ℕ → LineVerdict
verdict longest spare_capacity bytes = verdict_to longest spare_capacity (input_lines bytes)

-- the outcome of the taking by the verdict on the kept bytes and whether the input has ended
abbrev pub outcome_by : LineVerdict → Bool → LineOutcome
outcome_by Unclear false = Fault
outcome_by verdict ended = Decided verdict

-- how the taking for a line ended, by the reader that it leaves
abbrev pub outcome_of : ℕ → Reader → LineOutcome
outcome_of longest reader = outcome_by (verdict longest (spare_capacity reader) reader.kept) reader.ended

-- the outcome is that a take failed
abbrev pub is_fault : LineOutcome → Bool
is_fault Fault = true
is_fault _ = false

-- the taking ended so, and not for want of memory
abbrev pub has_fault : {E : Type 0} → Result LineOutcome E → Bool
has_fault (Ok outcome) = is_fault outcome
has_fault (Err error) = false

-- whether a take failed
abbrev pub has_failed : Took → Bool
has_failed Failed = true
has_failed _ = false

-- whether the input has ended after a take
abbrev pub ended_after : Took → Bool → Bool
ended_after End ended = true
ended_after _ ended = ended

-- the bytes that a take gave into a slice, as pieces: one, or none
abbrev pub pieces_given : Took → List ℕ → List (List ℕ)
pieces_given (Bytes n) into = take n into ∷ []
pieces_given _ into = []

-- the reader with these bytes kept as well, and its input ended or not
abbrev pub with_bytes_kept : Reader → List ℕ → Bool → Reader
with_bytes_kept reader bytes ended = record reader { text = []; kept = reader.kept ++ bytes; ended = ended }

-- the reader after it gave this line, which took so many bytes of the input
abbrev pub gives_line : Reader → (text rest : List ℕ) → ℕ → Reader
gives_line reader text rest count =
    record reader { text = text; kept = rest; number = reader.number + 1; before = reader.before + count }
