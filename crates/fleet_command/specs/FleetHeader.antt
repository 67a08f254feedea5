-- The header of a fleet: the first line that is not passed over is `fleet 1`.
use Rattle.std.specs.Prelude.{◌≡◌, ℕ, ◌&&◌, Bool, true, false, List, [], ◌∷◌, ◌++◌, codes, if◌then◌else◌}
use Rattle.std.specs.Str.{bytes_eq}
use Rattle.texts.specs.Limits.{most_line}
use Rattle.texts.specs.Words.{words, are_passed_over}
use Rattle.net_model.specs.declared.format.FormatKind.TheVariants.{NoHeader}
use Rattle.command_engine.specs.Grammars.{Grammar, Next, Line, NoLine, number_after}
use Rattle.command_engine.specs.Readers.{Reader}
use Rattle.command_engine.specs.declared.line_texts.Parse.{Parse}
use Rattle.command_engine.specs.declared.line_texts.Parse.TheVariants.{Continue, Parsed, Refused}
use Rattle.common_answers.specs.Faults.{stop_fault}
use Rattle.common_answers.specs.declared.faults.Fault.{Fault}
use Rattle.common_answers.specs.declared.faults.Fault.TheVariants.{Format}
use Rattle.fleet_command.specs.declared.header.FleetHeader.{FleetHeader}

-- what a header says
abbrev pub Nothing : Type 0
Nothing = Unit {0}

-- the words of the header
abbrev pub are_header : List (List ℕ) → Bool
are_header (first ∷ second ∷ []) = bytes_eq first (codes "fleet") && bytes_eq second (codes "1")
are_header others = false

-- what a line brings
abbrev pub header_step : FleetHeader → ℕ → List (List ℕ) → Parse FleetHeader Nothing Fault
header_step header number spelled =
    if are_passed_over spelled then Continue header else if are_header spelled then Parsed tt else Refused (Format number NoHeader)

-- the reader of headers
abbrev pub header_reader : Reader FleetHeader Nothing Fault
header_reader = record {
  longest = λ header. most_line;
  reads = λ header number line. header_step header number (words line);
  stops = λ header number stop. stop_fault number stop NoHeader;
}

-- before the first line
abbrev pub initial_header : FleetHeader
initial_header = record {}

-- ---- the grammar
-- these lines are passed over
abbrev pub PassOver : List (List ℕ) → Type 0
PassOver [] = Unit {0}
PassOver (line ∷ lines) = (are_passed_over (words line) ≡ true) × PassOver lines

-- the first line that is not passed over is the header
pub record IsHeader (lines : List (List ℕ)) (rest : List (List ℕ)) : Type 0 where
  pub prefix : List (List ℕ)
  pub last : List ℕ
  pub whole : lines ≡ prefix ++ last ∷ rest
  pub over : PassOver prefix
  pub no_remark : are_passed_over (words last) ≡ false
  pub is : are_header (words last) ≡ true

-- what comes next has a fault: it is not passed over and no header; or no line comes
abbrev pub IsHeaderFault : ℕ → Next → Fault → Type 0
IsHeaderFault number (Line line) fault = (are_passed_over (words line) ≡ false) × (are_header (words line) ≡ false) × (Format number NoHeader ≡ fault)
IsHeaderFault number (NoLine stop) fault = stop_fault number stop NoHeader ≡ fault

-- the grammar, if so many lines stand before it in the input
abbrev pub header_texts : ℕ → Grammar Nothing Fault
header_texts past = record {
  declares = λ lines value rest. IsHeader lines rest;
  longest = λ lines longest. PassOver lines × (longest ≡ most_line);
  refuses = λ lines next fault. PassOver lines × IsHeaderFault (number_after past lines) next fault;
}
