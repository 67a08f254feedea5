-- A plan as a JSON document that is read line by line, which says the bytes of the document.
use Rattle.std.specs.Prelude.{ℕ, ◌-◌, Bool, true, false, List, [], ◌∷◌, ◌++◌, length, codes, if◌then◌else◌}
use Rattle.std.specs.Str.{bytes_eq}
use Rattle.texts.specs.Words.{words}
use Rattle.net_model.specs.declared.format.FormatKind.TheVariants.{NoEnd}
use Rattle.command_engine.specs.Readers.{Reader}
use Rattle.command_engine.specs.declared.machines.Stop.{Stop}
use Rattle.command_engine.specs.declared.machines.Stop.TheVariants as stop
use Rattle.command_engine.specs.declared.line_texts.Parse.{Parse}
use Rattle.command_engine.specs.declared.line_texts.Parse.TheVariants.{Continue, Parsed}
use Rattle.common_answers.specs.declared.faults.Fault.{Fault}
use Rattle.common_answers.specs.declared.faults.Fault.TheVariants.{Format, DocumentTooLong, InputTooMuch}
use Rattle.input_texts.specs.DocumentSoFar.{DocumentSoFar, most_document}

-- before the first line
abbrev pub initial_document : DocumentSoFar
initial_document = record { bytes = []; started = false; left = most_document }

-- words that are `end` alone
abbrev pub are_end : List (List ℕ) → Bool
are_end (word ∷ []) = bytes_eq word (codes "end")
are_end others = false

-- with one line more
abbrev pub with_line : DocumentSoFar → List ℕ → DocumentSoFar
with_line document line = record {
  bytes = (if document.started then document.bytes ++ 10 ∷ line else line);
  started = true;
  left = document.left - length line;
}

-- what a line brings
abbrev pub line_step : DocumentSoFar → List ℕ → Parse DocumentSoFar (List ℕ) Fault
line_step document line = if are_end (words line) then Parsed document.bytes else Continue (with_line document line)

-- the fault if no line comes
abbrev pub document_stop : ℕ → Stop → Fault
document_stop number stop.LineTooLong = DocumentTooLong number
document_stop number stop.InputTooMuch = InputTooMuch number
document_stop number stop.InputEnded = Format number NoEnd

-- the reader of documents
abbrev pub bytes_reader : Reader DocumentSoFar (List ℕ) Fault
bytes_reader = record {
  longest = λ document. document.left;
  reads = λ document number line. line_step document line;
  stops = λ document number stop. document_stop number stop;
}
