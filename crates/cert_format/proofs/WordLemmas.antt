-- The words after the first word of a rule line and of an entry are read back.
use Rattle.std.proofs.Common.{◌≡◌, ℕ, ℤ, ◌≤◌, List, [], ◌∷◌, ◌++◌, Option, None, Some, Result, Ok, refl, ap, arith, unsigned_abs}
use Rattle.std.specs.Option.{is_some, is_none}
use Rattle.std.specs.Fmt.{decimal, signed_decimal}
use Rattle.net_model.specs.Numbers.{natural_of, integer_of}
use Rattle.net_model.specs.declared.format.FormatKind.{FormatKind}
use Rattle.net_model.proofs.DecimalSpellingLemmas.{natural_spelled, integer_spelled}
use Rattle.net_model.proofs.ReadWordLemmas.{name_read}
use Rattle.cert_format.specs.Kind.{has_label}
use Rattle.sectioned_texts.specs.Reading.{line_after}
use Rattle.cert_format.specs.CertificateWords.{rule_word, operand_words, label_words, entry_word, IsSpelledLine, IsSpelledEntry}
use Rattle.cert_format.specs.CertificateGrammar.{certificate_lines}
use Rattle.cert_format.specs.declared.kind.LineKind.{LineKind}
use Rattle.cert_format.specs.declared.kind.LineKind.TheVariants as kind
use Rattle.cert_format.specs.declared.entry.Entry.{Entry}
use Rattle.cert_format.specs.declared.line.CertLine.{CertLine}
use Rattle.cert_format.specs.declared.read.CertText.{CertText}
use Rattle.cert_format.specs.declared.read.CertText.TheVariants as text
use Rattle.cert_format.specs.Limits.{most_written_weight, most_line_number}
use Rattle.cert_format.proofs.EdgeLemmas.{edge, entry_of, same_line, same_entry}

pub number_read : (n : ℕ) → n ≤ most_line_number → natural_of most_line_number (decimal n) ≡ Ok n
number_read n within = natural_spelled most_line_number n within (omega arith)

pub weight_read : (w : ℤ) → unsigned_abs w ≤ most_written_weight → integer_of most_written_weight (signed_decimal w) ≡ Ok w
weight_read w within = integer_spelled most_written_weight w within (omega arith)

relabelled : (kind : LineKind) (from to : List ℕ) (label : Option (List ℕ)) (weight : ℤ) (p q : is_some label ≡ has_label kind)
    → (let read : Result CertText FormatKind = Ok (text.Line (edge kind from to label weight p)) in read) ≡ Ok (text.Line (edge kind from to label weight q))
relabelled kind from to label weight p q = ap (λ (line : CertLine). let read : Result CertText FormatKind = Ok (text.Line line) in read) (same_line kind from to label weight p q)

-- what follows the first word of a rule line
abbrev pub rule_tail : (kind : LineKind) (from to : List ℕ) (label : Option (List ℕ)) (weight : ℤ) → List (List ℕ)
rule_tail kind from to label weight = operand_words kind ++ (from ∷ to ∷ (label_words label ++ signed_decimal weight ∷ []))

pub edge_read : (kind : LineKind) (from to : List ℕ) (label : Option (List ℕ)) (weight : ℤ) (fits : is_some label ≡ has_label kind) → IsSpelledLine (edge kind from to label weight fits)
    → line_after certificate_lines (rule_word kind) (rule_tail kind from to label weight) ≡ Ok (text.Line (edge kind from to label weight fits))
edge_read (kind.Bound name) from to None weight fits is =
    rw (name_read name is.operands, name_read from is.from, name_read to is.to, weight_read weight is.weight) (relabelled (kind.Bound name) from to None weight refl fits)
edge_read (kind.Bound name) from to (Some label) weight fits is = absurd (cc)
edge_read (kind.Link name) from to None weight fits is =
    rw (name_read name is.operands, name_read from is.from, name_read to is.to, weight_read weight is.weight) (relabelled (kind.Link name) from to None weight refl fits)
edge_read (kind.Link name) from to (Some label) weight fits is = absurd (cc)
edge_read (kind.No i j) from to None weight fits is =
    rw (number_read i is.operands.0, number_read j is.operands.1, name_read from is.from, name_read to is.to, weight_read weight is.weight) (relabelled (kind.No i j) from to None weight refl fits)
edge_read (kind.No i j) from to (Some label) weight fits is = absurd (cc)
edge_read (kind.Up i j) from to None weight fits is = absurd (cc)
edge_read (kind.Up i j) from to (Some label) weight fits is =
    rw (number_read i is.operands.0, number_read j is.operands.1, name_read from is.from, name_read to is.to, name_read label is.label, weight_read weight is.weight) (relabelled (kind.Up i j) from to (Some label) weight refl fits)
edge_read (kind.Low name j) from to None weight fits is =
    rw (name_read name is.operands.0, number_read j is.operands.1, name_read from is.from, name_read to is.to, weight_read weight is.weight) (relabelled (kind.Low name j) from to None weight refl fits)
edge_read (kind.Low name j) from to (Some label) weight fits is = absurd (cc)
edge_read (kind.Cross name j) from to None weight fits is = absurd (cc)
edge_read (kind.Cross name j) from to (Some label) weight fits is =
    rw (name_read name is.operands.0, number_read j is.operands.1, name_read from is.from, name_read to is.to, name_read label is.label, weight_read weight is.weight) (relabelled (kind.Cross name j) from to (Some label) weight refl fits)
edge_read (kind.Drop j) from to None weight fits is =
    rw (number_read j is.operands, name_read from is.from, name_read to is.to, weight_read weight is.weight) (relabelled (kind.Drop j) from to None weight refl fits)
edge_read (kind.Drop j) from to (Some label) weight fits is = absurd (cc)

reentered : (from : List ℕ) (to label : Option (List ℕ)) (weight : ℤ) (p q : is_none to ≡ is_some label)
    → (let read : Result CertText FormatKind = Ok (text.Entry (entry_of from to label weight p)) in read) ≡ Ok (text.Entry (entry_of from to label weight q))
reentered from to label weight p q = ap (λ (e : Entry). let read : Result CertText FormatKind = Ok (text.Entry e) in read) (same_entry from to label weight p q)

-- what follows the first word of an entry
abbrev pub entry_tail : (from : List ℕ) (to label : Option (List ℕ)) (weight : ℤ) → List (List ℕ)
entry_tail from to label weight = from ∷ (label_words to ++ (label_words label ++ signed_decimal weight ∷ []))

pub entry_read : (from : List ℕ) (to label : Option (List ℕ)) (weight : ℤ) (fits : is_none to ≡ is_some label) → IsSpelledEntry (entry_of from to label weight fits)
    → line_after certificate_lines (entry_word label) (entry_tail from to label weight) ≡ Ok (text.Entry (entry_of from to label weight fits))
entry_read from (Some to) None weight fits is =
    rw (name_read from is.from, name_read to is.to, weight_read weight is.weight) (reentered from (Some to) None weight refl fits)
entry_read from None (Some label) weight fits is =
    rw (name_read from is.from, name_read label is.label, weight_read weight is.weight) (reentered from None (Some label) weight refl fits)
entry_read from None None weight fits is = absurd (cc)
entry_read from (Some to) (Some label) weight fits is = absurd (cc)
