-- A plan as a JSON document in an input: the lines before the first line whose only word is `end`.
use Rattle.std.specs.Prelude.{◌≡◌, ℕ, ◌-◌, List, [], ◌∷◌, ◌++◌, length, Result}
use Rattle.std.specs.List.{All, join_with_byte}
use Rattle.texts.specs.Words.{words}
use Rattle.net_model.specs.Network.{Plan}
use Rattle.net_model.specs.declared.format.FormatKind.TheVariants.{NoEnd}
use Rattle.plan_format.specs.PlanParts.{end_words}
use Rattle.command_engine.specs.Grammars.{Grammar, Next, Line, NoLine, number_after}
use Rattle.command_engine.specs.TestedTexts.{tested_grammar}
use Rattle.command_engine.specs.declared.machines.Stop.TheVariants.{LineTooLong as LongStop, InputTooMuch as MuchStop, InputEnded}
use Rattle.common_answers.specs.declared.faults.Fault.{Fault}
use Rattle.common_answers.specs.declared.faults.Fault.TheVariants.{Format, DocumentTooLong, InputTooMuch}
use Rattle.input_texts.specs.DocumentSoFar.{most_document}
use Rattle.input_texts.specs.BuiltPlans.{network_of_document}
use Rattle.input_texts.specs.declared.plan_document.BuildDocument.{BuildDocument}

-- the line that ends a document: its only word is `end`
abbrev pub IsEndLine : List ℕ → Type 0
IsEndLine line = words line ≡ end_words

-- a line of a document
abbrev pub IsInside : List ℕ → Type 0
IsInside line = ¬ IsEndLine line

-- the bytes of a document of these lines, with byte 10 between
abbrev pub document_bytes : List (List ℕ) → List ℕ
document_bytes lines = join_with_byte 10 lines

-- how many bytes a line may have after these: those of the lines before it count, without their ends
abbrev pub left_after : ℕ → List (List ℕ) → ℕ
left_after most [] = most
left_after most (line ∷ lines) = left_after (most - length line) lines

-- the lines begin with a document of these bytes, and the rest comes after the line that ends it
pub record DeclaresBytes (lines : List (List ℕ)) (bytes : List ℕ) (rest : List (List ℕ)) : Type 0 where
  pub document : List (List ℕ)
  pub last : List ℕ
  pub whole : lines ≡ document ++ last ∷ rest
  pub inside : All IsInside document
  pub ends : IsEndLine last
  pub says : bytes ≡ document_bytes document

-- The fault of a document of which these lines came, and no line comes next: it is too long, or the input too much by it, or ended. No line
-- is refused before the document has ended.
abbrev pub StopsDocument : (past : ℕ) → List (List ℕ) → Next → Fault → Type 0
StopsDocument past lines (Line line) fault = ⊥
StopsDocument past lines (NoLine LongStop) fault = fault ≡ DocumentTooLong (number_after past lines)
StopsDocument past lines (NoLine MuchStop) fault = fault ≡ InputTooMuch (number_after past lines)
StopsDocument past lines (NoLine InputEnded) fault = fault ≡ Format (number_after past lines) NoEnd

-- the grammar of the bytes of a document, if so many lines stand before it in the input
abbrev pub bytes_texts : ℕ → Grammar (List ℕ) Fault
bytes_texts past = record {
  declares = DeclaresBytes;
  longest = λ lines longest. All IsInside lines × (longest ≡ left_after most_document lines);
  refuses = λ lines next fault. All IsInside lines × StopsDocument past lines next fault;
}

-- the test of the bytes: that they are a document whose parts build a network
abbrev pub bytes_tests : BuildDocument → List ℕ → ℕ → Result Plan Fault
bytes_tests build bytes number = network_of_document bytes

-- the grammar of a plan as a document, if so many lines stand before it in the input: when it ends, its bytes declare a network, or it is refused
abbrev pub document_texts : ℕ → Grammar Plan Fault
document_texts past = tested_grammar (bytes_texts past) bytes_tests (record {}) past
