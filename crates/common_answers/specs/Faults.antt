-- The line that is printed for the first refusal of an input, and how it ends the run.
use Rattle.std.specs.Prelude.{ℕ, List, [], ◌∷◌, codes}
use Rattle.std.specs.Fmt.{decimal}
use Rattle.texts.specs.PrintedLines.{printed_line}
use Rattle.net_model.specs.Formats.{format_word}
use Rattle.net_model.specs.BuiltNetwork.{build_fault_word, which_word}
use Rattle.net_model.specs.declared.format.FormatKind.{FormatKind}
use Rattle.net_model.specs.declared.format.FormatKind.TheVariants.{NumberLimit}
use Rattle.net_model.specs.declared.fault.BuildFault.TheVariants as part
use Rattle.plan_json.specs.Words.{member_word}
use Rattle.plan_json.specs.declared.fault.JsonFault.{JsonFault}
use Rattle.plan_json.specs.declared.fault.JsonFault.TheVariants as json
use Rattle.command_engine.specs.Readers.{Refusing}
use Rattle.command_engine.specs.declared.endings.End.{End}
use Rattle.command_engine.specs.declared.endings.End.TheVariants as end
use Rattle.command_engine.specs.declared.machines.Stop.{Stop}
use Rattle.command_engine.specs.declared.machines.Stop.TheVariants as stop
use Rattle.common_answers.specs.declared.faults.Fault.{Fault}
use Rattle.common_answers.specs.declared.faults.Fault.TheVariants.{Format, Part, Document, DocumentTooLong, LineTooLong, InputTooMuch, Cells, DuplicatePlan}
use Rattle.common_answers.specs.declared.faults.Fault.TheVariants.{TooManyPlans}

-- what is printed of a fault of a document
abbrev pub document_fault_words : JsonFault → List (List ℕ)
document_fault_words json.NotJson = codes "json" ∷ codes "not-json" ∷ []
document_fault_words (json.Shape member place) = codes "json" ∷ codes "shape" ∷ member_word member ∷ decimal place ∷ []
document_fault_words (json.BadName member place) = codes "json" ∷ codes "bad-name" ∷ member_word member ∷ decimal place ∷ []
document_fault_words (json.NumberLimit member place) = codes "limit" ∷ member_word member ∷ decimal place ∷ codes "number" ∷ []
document_fault_words json.OutOfMemory = codes "json" ∷ codes "out of memory" ∷ []

-- what is printed of a fault: its class, the number of its line, and the word that says what is wrong with the line; or that of a document
abbrev pub fault_words : Fault → List (List ℕ)
fault_words (Format number NumberLimit) = codes "limit" ∷ decimal number ∷ codes "number" ∷ []
fault_words (Format number kind) = codes "format" ∷ decimal number ∷ format_word kind ∷ []
fault_words (Part number (part.Limit which place)) = codes "limit" ∷ decimal number ∷ which_word which ∷ []
fault_words (Part number fault) = codes "plan" ∷ decimal number ∷ build_fault_word fault ∷ []
fault_words (Document fault) = document_fault_words fault
fault_words (DocumentTooLong number) = codes "limit" ∷ decimal number ∷ codes "json" ∷ []
fault_words (LineTooLong number) = codes "limit" ∷ decimal number ∷ codes "line" ∷ []
fault_words (InputTooMuch number) = codes "limit" ∷ decimal number ∷ codes "total" ∷ []
fault_words (Cells number) = codes "limit" ∷ decimal number ∷ codes "cells" ∷ []
fault_words (DuplicatePlan number) = codes "format" ∷ decimal number ∷ codes "duplicate-plan" ∷ []
fault_words (TooManyPlans number) = codes "limit" ∷ decimal number ∷ codes "plans" ∷ []

-- the line that is printed
abbrev pub fault_line : Fault → List ℕ
fault_line fault = printed_line (codes "error" ∷ fault_words fault)

abbrev pub document_fault_end : JsonFault → End
document_fault_end (json.NumberLimit member place) = end.Limit
document_fault_end fault = end.Fault

-- a passed limit ends the run as such, and every other fault as a fault
abbrev pub fault_end : Fault → End
fault_end (Format number NumberLimit) = end.Limit
fault_end (Format number kind) = end.Fault
fault_end (Part number (part.Limit which place)) = end.Limit
fault_end (Part number fault) = end.Fault
fault_end (Document fault) = document_fault_end fault
fault_end (DocumentTooLong number) = end.Limit
fault_end (LineTooLong number) = end.Limit
fault_end (InputTooMuch number) = end.Limit
fault_end (Cells number) = end.Limit
fault_end (DuplicatePlan number) = end.Fault
fault_end (TooManyPlans number) = end.Limit

-- what is printed for a fault, and how it ends the run
abbrev pub refusing : Refusing Fault
refusing = record { line = fault_line; end = fault_end }

-- the fault if no line comes, with the one of a text that ends too soon
abbrev pub stop_fault : ℕ → Stop → FormatKind → Fault
stop_fault number stop.LineTooLong missing = LineTooLong number
stop_fault number stop.InputTooMuch missing = InputTooMuch number
stop_fault number stop.InputEnded missing = Format number missing
