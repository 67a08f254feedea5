-- The words by which the faults of lines and of texts are printed.
use Rattle.std.specs.Prelude.{ℕ, List, ◌++◌, codes}
use Rattle.std.specs.Fmt.{decimal}
use Rattle.net_model.specs.declared.format.FormatKind.{FormatKind}
use Rattle.net_model.specs.declared.format.FormatKind.TheVariants.{UnknownWord, WordCount, BadName, BadNumber, NumberLimit, NoHeader, NoEnd, UnknownName}
use Rattle.net_model.specs.declared.format.FormatFault.{FormatFault}
use Rattle.net_model.specs.declared.format.TextFault.{TextFault}
use Rattle.net_model.specs.declared.format.TextFault.TheVariants as text
use Rattle.net_model.specs.declared.format.WordFault.{WordFault}
use Rattle.net_model.specs.declared.format.WordFault.TheVariants as word
use Rattle.net_model.specs.declared.name.NameFault.{NameFault}
use Rattle.net_model.specs.declared.name.NameFault.TheVariants as name

-- the word by which a cause is printed
abbrev pub format_word : FormatKind → List ℕ
format_word UnknownWord = codes "unknown-word"
format_word WordCount = codes "word-count"
format_word BadName = codes "bad-name"
format_word BadNumber = codes "bad-number"
format_word NumberLimit = codes "number-limit"
format_word NoHeader = codes "no-header"
format_word NoEnd = codes "no-end"
format_word UnknownName = codes "unknown-name"

-- the fault of a text is printed as its word, `in line` and the number of its line
abbrev pub format_fault_text : FormatFault → List ℕ
format_fault_text fault = format_word fault.kind ++ codes " in line " ++ decimal fault.line

-- why a text was not read: its fault, or that there was no memory
abbrev pub text_fault_text : TextFault → List ℕ
text_fault_text (text.Format fault) = format_fault_text fault
text_fault_text text.OutOfMemory = codes "out of memory"

-- why a line was not read: the word of its fault, or that there was no memory
abbrev pub word_fault_text : WordFault → List ℕ
word_fault_text (word.Kind kind) = format_word kind
word_fault_text word.OutOfMemory = codes "out of memory"

-- why a text gives no name
abbrev pub name_fault_text : NameFault → List ℕ
name_fault_text name.Bad = codes "bad-name"
name_fault_text name.OutOfMemory = codes "out of memory"
