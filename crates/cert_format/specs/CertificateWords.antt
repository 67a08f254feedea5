-- How the lines of a certificate are spelled.
use Rattle.std.specs.Prelude.{◌≤◌, ℕ, List, [], ◌∷◌, ◌++◌, map, Option, None, Some, IsTrue, IfSome, codes, unsigned_abs}
use Rattle.std.specs.List.{All}
use Rattle.std.specs.Fmt.{decimal, signed_decimal}
use Rattle.net_model.specs.Names.{is_name}
use Rattle.texts.specs.PrintedLines.{printed}
use Rattle.cert_format.specs.Limits.{most_written_weight, most_line_number}
use Rattle.cert_format.specs.Keywords.{spelled}
use Rattle.cert_format.specs.declared.keyword.Keyword.{Keyword}
use Rattle.cert_format.specs.declared.keyword.Keyword.TheVariants as keyword
use Rattle.cert_format.specs.declared.kind.LineKind.{LineKind}
use Rattle.cert_format.specs.declared.kind.LineKind.TheVariants as kind
use Rattle.cert_format.specs.declared.line.CertLine.{CertLine}
use Rattle.cert_format.specs.declared.entry.Entry.{Entry}
use Rattle.cert_format.specs.declared.certificate.Certificate.{Certificate}
use Rattle.cert_format.specs.declared.certificate.Certificate.TheVariants.{Refutation, TableProof}

-- the first word of a rule line
abbrev pub rule_word : LineKind → Keyword
rule_word (kind.Bound name) = keyword.Bound
rule_word (kind.Link name) = keyword.Link
rule_word (kind.No i j) = keyword.No
rule_word (kind.Up i j) = keyword.Up
rule_word (kind.Low name j) = keyword.Low
rule_word (kind.Cross name j) = keyword.Cross
rule_word (kind.Drop j) = keyword.Drop

-- the words after it that name an item of the network and earlier lines
abbrev pub operand_words : LineKind → List (List ℕ)
operand_words (kind.Bound name) = name ∷ []
operand_words (kind.Link name) = name ∷ []
operand_words (kind.No i j) = decimal i ∷ decimal j ∷ []
operand_words (kind.Up i j) = decimal i ∷ decimal j ∷ []
operand_words (kind.Low name j) = name ∷ decimal j ∷ []
operand_words (kind.Cross name j) = name ∷ decimal j ∷ []
operand_words (kind.Drop j) = decimal j ∷ []

-- the word of a label, if there is one
abbrev pub label_words : Option (List ℕ) → List (List ℕ)
label_words None = []
label_words (Some label) = label ∷ []

-- the words of a rule line: its first word, what it names, FROM, TO, LABEL if there is one, and W
abbrev pub line_words : CertLine → List (List ℕ)
line_words line =
    spelled (rule_word line.kind)
    ∷ (operand_words line.kind ++ (line.from ∷ line.to ∷ (label_words line.label ++ signed_decimal line.weight ∷ [])))

-- the words of a walk line
abbrev pub walk_words : ℕ → List (List ℕ)
walk_words i = codes "walk" ∷ decimal i ∷ []

-- the words of a line of the order
abbrev pub order_words : List ℕ → List (List ℕ)
order_words point = codes "order" ∷ point ∷ []

-- the first word of an entry, by its label
abbrev pub entry_word : Option (List ℕ) → Keyword
entry_word None = keyword.Edge
entry_word (Some label) = keyword.Upper

-- the words of an entry: its first word, FROM, TO or LABEL, and W
abbrev pub entry_words : Entry → List (List ℕ)
entry_words entry =
    spelled (entry_word entry.label)
    ∷ entry.from
    ∷ (label_words entry.to ++ (label_words entry.label ++ signed_decimal entry.weight ∷ []))

-- the words of the header, of the second line and of the last one
abbrev pub header_words : List (List ℕ)
header_words = codes "certificate" ∷ codes "1" ∷ []

-- the words of the second line of a refutation
abbrev pub refutation_words : List (List ℕ)
refutation_words = codes "refutation" ∷ []

-- the words of the second line of a table proof
abbrev pub table_words : List (List ℕ)
table_words = codes "table" ∷ []

-- the words of the last line
abbrev pub end_words : List (List ℕ)
end_words = codes "end" ∷ []

-- the lines of a certificate: the header, `refutation`, its rule lines, its walk and `end`; or the header, `table`, its
-- order, its entries and `end`
abbrev pub certificate_words : Certificate → List (List (List ℕ))
certificate_words (Refutation lines walk) = header_words ∷ refutation_words ∷ (map line_words lines ++ (map walk_words walk ++ end_words ∷ []))
certificate_words (TableProof order entries) = header_words ∷ table_words ∷ (map order_words order ++ (map entry_words entries ++ end_words ∷ []))

-- the printed text of a certificate
unfoldable pub printed_certificate : Certificate → List ℕ
printed_certificate certificate = printed (certificate_words certificate)

-- what a rule line names can be spelled: names are names, and numbers of lines are within their limit
abbrev pub AreOperands : LineKind → Type 0
AreOperands (kind.Bound name) = IsTrue (is_name name)
AreOperands (kind.Link name) = IsTrue (is_name name)
AreOperands (kind.No i j) = (i ≤ most_line_number) × (j ≤ most_line_number)
AreOperands (kind.Up i j) = (i ≤ most_line_number) × (j ≤ most_line_number)
AreOperands (kind.Low name j) = IsTrue (is_name name) × (j ≤ most_line_number)
AreOperands (kind.Cross name j) = IsTrue (is_name name) × (j ≤ most_line_number)
AreOperands (kind.Drop j) = j ≤ most_line_number

-- a weight within its limit
abbrev pub HasWrittenWeight : CertLine → Type 0
HasWrittenWeight line = unsigned_abs line.weight ≤ most_written_weight

-- a rule line that can be spelled
pub record IsSpelledLine (line : CertLine) : Type 0 where
  pub operands : AreOperands line.kind
  pub from : IsTrue (is_name line.from)
  pub to : IsTrue (is_name line.to)
  pub label : IfSome line.label (λ label. IsTrue (is_name label))
  pub weight : HasWrittenWeight line

-- the weight of an entry can be spelled
abbrev pub IsEntryWeight : Entry → Type 0
IsEntryWeight entry = unsigned_abs entry.weight ≤ most_written_weight

-- an entry that can be spelled
pub record IsSpelledEntry (entry : Entry) : Type 0 where
  pub from : IsTrue (is_name entry.from)
  pub to : IfSome entry.to (λ to. IsTrue (is_name to))
  pub label : IfSome entry.label (λ label. IsTrue (is_name label))
  pub weight : IsEntryWeight entry

-- a certificate whose weights are within their limit
abbrev pub HasWeights : Certificate → Type 0
HasWeights (Refutation lines walk) = All HasWrittenWeight lines
HasWeights (TableProof order entries) = All IsEntryWeight entries

-- a certificate that can be spelled
abbrev pub IsSpelled : Certificate → Type 0
IsSpelled (Refutation lines walk) = All IsSpelledLine lines × All (λ i. i ≤ most_line_number) walk
IsSpelled (TableProof order entries) = All (λ point. IsTrue (is_name point)) order × All IsSpelledEntry entries
