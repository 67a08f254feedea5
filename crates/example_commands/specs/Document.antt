-- A text of which all lines together have a limit, and whose faults have no line.
use Rattle.std.specs.Prelude.{◌≡◌, ℕ, ◌-◌, IsTrue, false, List, [], ◌∷◌, ◌++◌, length, codes, if◌then◌else◌}
use Rattle.std.specs.List.{All, concat}
use Rattle.std.specs.Str.{bytes_eq}
use Rattle.std.specs.Fmt.{decimal}
use Rattle.texts.specs.PrintedLines.{printed_line}
use Rattle.command_engine.specs.Grammars.{Grammar, Next, Line, NoLine}
use Rattle.command_engine.specs.Readers.{Reader, Refusing}
use Rattle.command_engine.specs.declared.endings.End.{End}
use Rattle.command_engine.specs.declared.endings.End.TheVariants as ends
use Rattle.command_engine.specs.declared.machines.Stop.{Stop}
use Rattle.command_engine.specs.declared.machines.Stop.TheVariants.{InputEnded}
use Rattle.command_engine.specs.declared.line_texts.Parse.{Parse}
use Rattle.command_engine.specs.declared.line_texts.Parse.TheVariants.{Continue, Parsed}
use Rattle.example_commands.specs.declared.document.Document.{Document}
use Rattle.example_commands.specs.declared.document.DocumentFault.{DocumentFault}
use Rattle.example_commands.specs.declared.document.DocumentFault.TheVariants.{TooLarge, NoEnd}
use Rattle.example_commands.specs.declared.document.HowLarge.{HowLarge}

-- how many bytes the lines of a document may have together
abbrev pub most_example_document : ℕ
most_example_document = 100000

-- how many bytes these lines leave
abbrev pub bytes_left_after : List (List ℕ) → ℕ
bytes_left_after lines = most_example_document - length (concat lines)

-- a line that is not the last of a document
abbrev pub DocumentGoesOn : List ℕ → Type 0
DocumentGoesOn line = bytes_eq line (codes "end") ≡ false

-- the fault of what comes while a document goes on: it has no line
abbrev pub IsExampleFault : Next → DocumentFault → Type 0
IsExampleFault (Line line) fault = ⊥
IsExampleFault (NoLine InputEnded) fault = fault ≡ NoEnd
IsExampleFault (NoLine stop) fault = fault ≡ TooLarge

-- the lines up to one that is `end` are a document, and it declares how many bytes it leaves
pub record DeclaresDocument (lines : List (List ℕ)) (left : ℕ) (rest : List (List ℕ)) : Type 0 where
  pub document : List (List ℕ)
  pub last : List ℕ
  pub whole : lines ≡ document ++ last ∷ rest
  pub goes_on : All DocumentGoesOn document
  pub ends : IsTrue (bytes_eq last (codes "end"))
  pub leaves : left ≡ bytes_left_after document

-- the grammar of documents: a line may have as many bytes as those before it leave
abbrev pub document_grammar : ℕ → Grammar ℕ DocumentFault
document_grammar past = record {
  declares = DeclaresDocument;
  longest = λ lines longest. All DocumentGoesOn lines × (longest ≡ bytes_left_after lines);
  refuses = λ lines next fault. All DocumentGoesOn lines × IsExampleFault next fault;
}

-- before the first line
abbrev pub empty_document : Document
empty_document = record { left = most_example_document }

abbrev pub reads : Document → ℕ → List ℕ → Parse Document ℕ DocumentFault
reads document number line = if bytes_eq line (codes "end") then Parsed document.left else Continue (record { left = document.left - length line })

abbrev pub stops : Document → ℕ → Stop → DocumentFault
stops document number InputEnded = NoEnd
stops document number stop = TooLarge

abbrev pub example_document_reader : Reader Document ℕ DocumentFault
example_document_reader = record { longest = λ document. document.left; reads = reads; stops = stops }

abbrev pub example_fault_line : DocumentFault → List ℕ
example_fault_line TooLarge = printed_line (codes "error" ∷ codes "too-large" ∷ [])
example_fault_line NoEnd = printed_line (codes "error" ∷ codes "no-end" ∷ [])

abbrev pub example_fault_end : DocumentFault → End
example_fault_end TooLarge = ends.Limit
example_fault_end NoEnd = ends.Fault

abbrev pub refusing : Refusing DocumentFault
refusing = record { line = example_fault_line; end = example_fault_end }

-- how many bytes the document leaves
abbrev pub AnswersHowLarge : HowLarge → ℕ → List ℕ → End → Type 0
AnswersHowLarge question left answer end = (answer ≡ printed_line (codes "left" ∷ decimal left ∷ [])) × (end ≡ ends.Done)
