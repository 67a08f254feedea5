-- How texts are refused by their format, and lines of a fixed length that come.
use Rattle.std.specs.Prelude.{◌≡◌, ℕ, ◌+◌, ◌-◌, List, [], ◌∷◌, ◌++◌, length}
use Rattle.texts.specs.Lines.{InputLine, line_size}
use Rattle.net_model.specs.declared.format.FormatKind.{FormatKind}
use Rattle.texts.specs.Limits.{most_line}
use Rattle.plan_port.specs.Lines.{Comes, coming}
use Rattle.command_engine.specs.Grammars.{Next, Line, NoLine, number_after}
use Rattle.command_engine.specs.declared.machines.Stop.TheVariants.{LineTooLong as LongStop, InputTooMuch as MuchStop, InputEnded}
use Rattle.common_answers.specs.declared.faults.Fault.{Fault}
use Rattle.common_answers.specs.declared.faults.Fault.TheVariants.{Format, LineTooLong, InputTooMuch}

-- these lines of at most 65,536 bytes come, one after another: none is too long, and the input is not too much by them
abbrev pub Come : ℕ → List InputLine → Type 0
Come spare_capacity [] = Unit {0}
Come spare_capacity (line ∷ lines) = (coming most_line spare_capacity line ≡ Comes) × Come (spare_capacity - line_size line) lines

-- The fault of a text if one more line is wanted after these, and this comes. `HasFault`: lines have their first fault, by its kind, in the line of this
-- number; `past`: so many lines stand before the text in the input. The line that comes has the first fault, whatever lines come after it; or the lines have
-- it, which end too soon; or no line comes, since it is too long, or the input too much by it.
abbrev pub RefusesFormat : (HasFault : List (List ℕ) → ℕ → FormatKind → Type 0) → (past : ℕ) → List (List ℕ) → Next → Fault → Type 0
RefusesFormat HasFault past lines (Line line) fault =
    (kind : FormatKind) × (fault ≡ Format (number_after past lines) kind)
    × ((others : List (List ℕ)) → HasFault (lines ++ line ∷ others) (length lines + 1) kind)
RefusesFormat HasFault past lines (NoLine InputEnded) fault =
    (kind : FormatKind) × (fault ≡ Format (number_after past lines) kind) × HasFault lines (length lines + 1) kind
RefusesFormat HasFault past lines (NoLine LongStop) fault = fault ≡ LineTooLong (number_after past lines)
RefusesFormat HasFault past lines (NoLine MuchStop) fault = fault ≡ InputTooMuch (number_after past lines)
